-- WHAT THE FILE THAT WENT LEFT, as `gone_edits` tells it of the volume before and the one between; and what came behind, as one rewrite.
use Rattle.std.proofs.Common.{◌≡◌, ◌≢◌, ◌≤◌, ℕ, Bool, true, false, List, [], None, refl, ap, subst, ◌∙◌}
use Rattle.ntfs_def.specs.FileName.{FileName}
use Rattle.ntfs_def.specs.declared.kinds.TheConstants.{FILE_NAME}
use Rattle.volume_def.specs.Table.{cluster_bytes}
use Rattle.volume_def.specs.View.{VolumeView}
use Rattle.tree_model.specs.Drops.{is_last_name}
use Rattle.tree_model.specs.Reading.{link_for, read}
use Rattle.tree_model.specs.Subjects.{Located, at_file}
use Rattle.tree_model.specs.Tree.{Tree}
use Rattle.tree_model.specs.declared.command.Command.{Command}
use Rattle.tree_model.specs.declared.command.Command.TheVariants as c
use Rattle.tree_model.specs.declared.tree.Link.{Link}
use Rattle.tree_model.specs.declared.tree.Node.{Node}
use Rattle.edit_def.specs.Kept.{Key, key_of}
use Rattle.session_def.specs.State.{State}
use Rattle.made_edits.specs.InPlace.{Rewrites}
use Rattle.in_place_owed.proofs.BothRewrites.{both, either-kind, is_either_key}
use Rattle.made_edits.specs.Steps.{without_link, without_node}
use Rattle.gone_edits.specs.Beside.{KeepsRest}
use Rattle.gone_edits.specs.Gone.{IsGone}
use Rattle.gone_edits.specs.Left.{LeavesRest}
use Rattle.gone_edits.proofs.LeftGone as left_laws
use Rattle.gone_edits.proofs.RestGone as rest_laws
use Rattle.gone_edits.proofs.SoundGone as laws
use Rattle.gone_owed.specs.GoneOwed.{SetsBehindGone, at_gone, between}

module _ (before next : State) (n : ℕ) (file parent : Node) (name : FileName) (mid staged : VolumeView)
    (s : SetsBehindGone before next n name.parent.number file parent name mid staged) where
  abbrev pub dir : ℕ
  dir = name.parent.number

  abbrev pub old : VolumeView
  old = before.view

  abbrev pub new : VolumeView
  new = next.view

  abbrev pub tree : Tree
  tree = before.machine.tree

  abbrev pub at : Located
  at = at_gone tree n name

  abbrev pub link : Link
  link = link_for n name

  -- what came behind it, as `setattr` of the directory on the volume between
  abbrev pub half : State
  half = between before mid

  abbrev pub setter : Command
  setter = c.Setattr [] 0

  abbrev pub directory : Located
  directory = at_file (read mid) None dir

  abbrev pub now : ℕ
  now = before.machine.now

  -- THE FILE
  pub is_gone : IsGone old mid s.was s.now n dir parent name
  is_gone = laws.gone old mid s.was s.now n file parent name s.can s.right s.goes s.stored

  pub left : LeavesRest old mid n dir
  left = left_laws.leaves-rest old mid s.was s.now n file parent name s.can s.right s.goes

  pub rest : KeepsRest old mid n dir name
  rest = rest_laws.keeps-rest old mid s.was s.now n file parent name s.can s.right s.goes

  pub ordinary : 24 ≤ n
  ordinary = s.can.ordinary

  pub other : dir ≢ n
  other = left.other

  -- THE TREE BETWEEN
  pub reads : read mid ≡ without_node n (without_link link tree)
  reads = is_gone.reads ∙ ap (λ (t : Tree). without_node n (without_link link t)) s.stands.reading

  pub last : is_last_name tree link ≡ true
  last = subst (λ (t : Tree). is_last_name t link ≡ true) s.stands.reading is_gone.last

  -- THE LAYOUT
  pub layout : mid.layout ≡ old.layout
  layout = left.leaves.layout

  pub size : cluster_bytes mid.layout ≡ cluster_bytes old.layout
  size = ap cluster_bytes layout

  -- WHAT CAME BEHIND, as one rewrite, which names none of the values of names
  abbrev pub named : Key → Bool
  named = is_either_key (read mid) setter directory

  pub behind : Rewrites named mid new
  behind = both half next setter directory staged s.behind

  pub names-free : (f : ℕ) (called : List ℕ) → named (key_of f FILE_NAME called) ≡ false
  names-free f called = either-kind (read mid) setter directory (key_of f FILE_NAME called) refl refl refl refl refl
