-- THE SECURITY ID OF A FILE that was set, and the time that was set then, staged: what is asked of the volume.
use Rattle.std.proofs.Common.{◌≡◌, ℕ, true, List, [], ◌∷◌, codes, refl, sym, ap, ◌∙◌}
use Rattle.std.proofs.lemmas.Bool.{or_left, or_right}
use Rattle.std.specs.FinMap as finmap
use Rattle.std.specs.Prelude.{slice_set}
use Rattle.ntfs_def.specs.Units.{wide}
use Rattle.ntfs_def.specs.declared.kinds.TheConstants.{INDEX_ROOT, STANDARD_INFORMATION}
use Rattle.volume_def.specs.View.{VolumeView}
use Rattle.tree_model.specs.Reading.{read}
use Rattle.tree_model.specs.Subjects.{Located}
use Rattle.tree_model.specs.declared.command.Command.TheVariants as c
use Rattle.tree_model.specs.declared.tree.Node.{Node}
use Rattle.edit_def.specs.Kept.{Key, key_of, same_key}
use Rattle.session_def.specs.Named.{is_own_key, is_times_key}
use Rattle.session_def.specs.State.{Stands, State}
use Rattle.attribute_edits.specs.Below.{SetsAttributes}
use Rattle.in_place.proofs.OtherParts.{at-other}
use Rattle.in_place.proofs.PlacesSame.{names-same}
use Rattle.in_place.specs.Unnamed.{CanSet}
use Rattle.attribute_edits.specs.Attributes.{IsSecured}
use Rattle.in_place_owed.specs.SetsInPlace.{is_entries_key, is_set_key}
use Rattle.in_place_done.proofs.NamedKeys.{times-named}
use Rattle.in_place_done.proofs.StagedVolume.{IsStaged}
use Rattle.in_place_done.proofs.StepsStaged.{StepsFirst, steps-staged}
use Rattle.in_place_done.proofs.TreeBehind.{nodes-read, reads-secured}

-- `old` is the volume before, `mid` with the id, and `new` with the time too.
module _ (before : State) (stands : Stands before) (path : List (List ℕ)) (id : ℕ) (at : Located) (node : Node)
    (can : CanSet before.view at.file node) (mid new : VolumeView) (o : IsSecured before.view mid at.file id node)
    (sets : SetsAttributes mid new at.file (slice_set node.times 2 before.machine.now) node.flags) where
  abbrev old : VolumeView
  old = before.view

  abbrev f : ℕ
  f = at.file

  abbrev over : Node
  over = record node { security = id }

  abbrev standard_key : Key
  standard_key = key_of f STANDARD_INFORMATION []

  first : StepsFirst old mid f standard_key over
  first = record {
    can = o.can;
    rewrites = o.rewrites;
    reads = o.reads ∙ ap (λ nodes. record (read old) { nodes = finmap.insert nodes f over }) (sym (nodes-read old));
    items = o.items;
    depths = o.depths;
    names = names-same (same_key standard_key) old mid o.rewrites f (λ name. refl);
    roots = λ dir. at-other (same_key standard_key) old mid o.rewrites dir INDEX_ROOT (wide (codes "$I30")) refl;
    standard = o.standard;
    marks = o.marks;
  }

  own : (key : Key) → same_key standard_key key ≡ true → is_set_key before.machine.tree (c.Setsec path id) at key ≡ true
  own key its =
      or_right (is_own_key before.machine.tree (c.Setsec path id) at 0 key) _
      (or_left (is_times_key (f ∷ []) key) (is_entries_key before.machine.tree (f ∷ []) key) (times-named f key its))

  pub secure-staged : IsStaged before (c.Setsec path id) at new
  secure-staged =
      steps-staged before stands at node can over refl mid new standard_key first (slice_set node.times 2 before.machine.now) sets
      (c.Setsec path id) own (reads-secured before stands path id at node can.there new) (λ punches. cc)
