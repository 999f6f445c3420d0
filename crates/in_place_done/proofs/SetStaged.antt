-- FLAGS AND TIMES THAT WERE SET, staged: what is asked of the volume.
use Rattle.std.proofs.Common.{◌≡◌, ℕ, List}
use Rattle.std.specs.Prelude.{bit_and, slice_set}
use Rattle.volume_def.specs.View.{VolumeView}
use Rattle.tree_model.specs.Subjects.{Located}
use Rattle.tree_model.specs.declared.command.Command.TheVariants as c
use Rattle.tree_model.specs.declared.tree.Node.{Node}
use Rattle.tree_model.specs.declared.tree.TheConstants.{SHOWN_FLAGS}
use Rattle.session_def.specs.State.{Stands, State}
use Rattle.attribute_edits.specs.Below.{SetsAttributes}
use Rattle.in_place.specs.Unnamed.{CanSet}
use Rattle.attribute_edits.proofs.AttributesSet as edits
use Rattle.in_place_done.proofs.FileSet.{file-set}
use Rattle.in_place_done.proofs.NamedKeys.{set-named}
use Rattle.in_place_done.proofs.StagedVolume.{IsStaged}
use Rattle.in_place_done.proofs.TreeBehind.{reads-set}

module _ (before : State) (stands : Stands before) (path : List (List ℕ)) (flags : ℕ) (shown : bit_and flags SHOWN_FLAGS ≡ flags)
    (at : Located) (node : Node) (can : CanSet before.view at.file node) (new : VolumeView)
    (sets : SetsAttributes before.view new at.file (slice_set node.times 2 before.machine.now) flags) where
  abbrev old : VolumeView
  old = before.view

  abbrev times : List ℕ
  times = slice_set node.times 2 before.machine.now

  pub set-staged : IsStaged before (c.Setattr path flags) at new
  set-staged = record {
    set =
        file-set before at node can times flags shown new sets (c.Setattr path flags)
        (set-named before stands (c.Setattr path flags) at (edits.node-file old at.file node can.there)) (λ punches. cc);
    reads =
        reads-set before stands path flags at node can.there new
        (edits.reads old new at.file times flags sets can.sound can.apart can.other can.elsewhere shown node can.there);
  }
