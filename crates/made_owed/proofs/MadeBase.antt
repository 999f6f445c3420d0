-- WHAT THE FILE THAT CAME IS, as `made_edits` tells it of the volume before and the one between; and what came behind, as one rewrite.
use Rattle.std.proofs.Common.{◌≡◌, ◌≢◌, ◌<◌, ◌≤◌, ◌==◌, ℕ, Bool, false, List, [], None, refl, ap, ◌∙◌, arith}
use Rattle.std.proofs.lemmas.Bool.{ne_eqb}
use Rattle.ntfs_def.specs.declared.kinds.TheConstants.{DATA, FILE_NAME, STANDARD_INFORMATION}
use Rattle.volume_def.specs.Files.{record_on}
use Rattle.volume_def.specs.Table.{cluster_bytes}
use Rattle.volume_def.specs.View.{VolumeView}
use Rattle.tree_model.specs.Effects.{add_link, link_to, new_node, security_of}
use Rattle.tree_model.specs.Reading.{read}
use Rattle.tree_model.specs.Subjects.{Located, at_file}
use Rattle.tree_model.specs.Tree.{Tree}
use Rattle.tree_model.specs.declared.command.Command.{Command}
use Rattle.tree_model.specs.declared.command.Command.TheVariants as c
use Rattle.edit_def.specs.Kept.{Key, key_of}
use Rattle.session_def.specs.State.{State}
use Rattle.tree_model.proofs.NamesLaws.{is_shown}
use Rattle.made_edits.proofs.FileRecordRecordLaws.{record_at-inside}
use Rattle.made_edits.specs.InPlace.{Rewrites}
use Rattle.in_place_owed.proofs.BothRewrites.{both, either-kind, is_either_key}
use Rattle.made_edits.specs.Steps.{with_node}
use Rattle.made_edits.specs.Beside.{IsFreshFile, KeepsRest}
use Rattle.made_edits.specs.Left.{LeavesRest}
use Rattle.made_edits.specs.Made.{IsMade}
use Rattle.made_edits.proofs.BetweenMade as stands
use Rattle.made_edits.proofs.FreshMade.{fresh-file}
use Rattle.made_edits.proofs.LeftMade.{leaves-rest}
use Rattle.made_edits.proofs.RestMade.{keeps-rest}
use Rattle.made_edits.proofs.SoundMade as laws
use Rattle.made_owed.specs.MadeOwed.{SetsBehindMade, at_name, between}

module _ (directory : Bool) (before next : State) (dir : ℕ) (units : List ℕ) (made : ℕ) (mid staged : VolumeView)
    (s : SetsBehindMade directory before next dir units made mid staged) where
  abbrev pub old : VolumeView
  old = before.view

  abbrev pub new : VolumeView
  new = next.view

  abbrev pub tree : Tree
  tree = before.machine.tree

  abbrev pub at : Located
  at = at_name dir units

  -- what came behind it, as `setattr` of the directory on the volume between
  abbrev pub half : State
  half = between before mid

  abbrev pub setter : Command
  setter = c.Setattr [] 0

  abbrev pub parent : Located
  parent = at_file (read mid) None dir

  abbrev pub now : ℕ
  now = before.machine.now

  abbrev pub security : ℕ
  security = security_of tree dir

  -- THE FILE
  pub is_made : IsMade directory old mid s.was s.now made dir s.node units now security
  is_made =
      laws.made old mid s.was s.now dir made s.node units s.standard s.key now security directory s.can s.right s.is_key s.is_standard
      s.long s.comes s.stored

  pub left : LeavesRest old mid made dir
  left =
      leaves-rest old mid s.was s.now dir made s.node units s.standard s.key now security directory s.can s.right s.is_key s.is_standard
      s.long s.comes

  pub rest : KeepsRest directory old mid made dir s.standard s.key
  rest =
      keeps-rest old mid s.was s.now dir made s.node units s.standard s.key now security directory s.can s.right s.is_key s.is_standard
      s.long s.comes

  pub fresh : IsFreshFile directory mid made s.key
  fresh = fresh-file old mid made dir units s.standard s.key now directory s.is_key s.plain rest

  pub ordinary : 24 ≤ made
  ordinary = is_made.calls.makes.ordinary

  pub other : dir ≢ made
  other =
      (stands.has-new-file old s.comes.counted s.was s.now dir made s.node units s.standard s.key now directory s.can s.right s.is_key
      s.long
      s.comes.comes).other

  pub free : record_on old made ≡ None
  free = left.free

  pub inside : dir < old.layout.count
  inside = let held = is_shown old dir s.node s.can.parent.there in record_at-inside old dir held.base held.at

  -- THE TREE BETWEEN
  pub reads : read mid ≡ add_link (link_to made dir units) (with_node made (new_node directory now security) tree)
  reads =
      is_made.reads
      ∙ ap (λ (t : Tree). add_link (link_to made dir units) (with_node made (new_node directory now security) t)) s.stands.reading

  -- THE LAYOUT
  pub layout : mid.layout ≡ old.layout
  layout = left.leaves.layout

  pub size : cluster_bytes mid.layout ≡ cluster_bytes old.layout
  size = ap cluster_bytes layout

  -- WHAT CAME BEHIND, as one rewrite, which names none of what the file tells
  abbrev pub named : Key → Bool
  named = is_either_key (read mid) setter parent

  pub behind : Rewrites named mid new
  behind = both half next setter parent staged s.behind

  pub names-free : (f : ℕ) (name : List ℕ) → named (key_of f FILE_NAME name) ≡ false
  names-free f name = either-kind (read mid) setter parent (key_of f FILE_NAME name) refl refl refl refl refl

  pub times-free : named (key_of made STANDARD_INFORMATION []) ≡ false
  times-free = let ne : (dir == made) ≡ false = ne_eqb dir made other in rw ne refl

  pub stream-free : named (key_of made DATA []) ≡ false
  stream-free = let ne : (made == 2) ≡ false = ne_eqb made 2 (λ is. let low = ordinary in omega (arith, is, low)) in rw ne refl
