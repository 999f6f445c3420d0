-- WHAT A COMMAND THAT WAS DONE LEAVES, staged and written.
use Rattle.std.proofs.Common.{◌≡◌, ◌≤◌, ◌+◌, ℕ, Bool, List, Some, inl, inr, length, refl, sym, ap, subst, ◌∙◌}
use Rattle.vol_disk.specs.Contents.{sector_in}
use Rattle.volume_def.specs.Sound.{IsSound, told_view}
use Rattle.volume_def.specs.View.{VolumeView}
use Rattle.tree_model.specs.Facts.{IsVolumeOf}
use Rattle.tree_model.specs.Refusals.{Facts}
use Rattle.tree_model.specs.Subjects.{Located}
use Rattle.tree_model.specs.declared.command.Command.{Command}
use Rattle.tree_model.specs.declared.tree.Node.{Node}
use Rattle.tree_model.proofs.StepLaws.{one_volume}
use Rattle.session_def.specs.Done.{EditDone, HasEmptyLog}
use Rattle.session_def.specs.State.{State}
use Rattle.mark_write.specs.declared.flag.Flag.{Flag}
use Rattle.mark_write.specs.declared.log.Span.{Span}
use Rattle.volume_mark.specs.SameVolume.{IsSameVolume}
use Rattle.volume_mark.proofs.MarkLaws.{mark-law}
use Rattle.in_place.specs.Behind.{MarksBehind}
use Rattle.edit_written.specs.Finished.{IsFinished, IsPlaceOf}
use Rattle.in_place_done.specs.Written.{FindsFile, LeavesEdit, Stages, StagesEdit, machine_behind, most_written}
use Rattle.in_place_done.proofs.CommandsStaged.{place-written}
use Rattle.in_place_done.proofs.FoundEdit.{can-be-edited, makes-none}
use Rattle.in_place_done.proofs.StagedVolume.{CanBeEdited, CanBeWritten, staged_view}
use Rattle.in_place_done.proofs.ValueWritten.{value-written}
use Rattle.in_place_done.proofs.Ways.{way-of}
use Rattle.in_place_done.proofs.WrittenBytes.{IsWritten, is-written}

module _ (facts : Facts) (before : State) (session : ℕ) (command : Command) (f : ℕ) (node : Node)
    (finds : FindsFile facts before session command f node) (flag : Flag) (staged written : List ℕ)
    (long : length staged ≡ length before.image) (s : CanBeWritten before command finds.at (staged_view before staged))
    (w : IsWritten before flag staged written) where
  abbrev at : Located
  at = finds.at

  abbrev new : VolumeView
  new = staged_view before staged

  -- the bytes that were written are the same volume
  same : IsSameVolume new flag written
  same = mark-law new flag staged w.volume s.sound w.flag_there written w.agrees

  -- .. of which the disk tells all
  other-is : same.other ≡ staged_view before written
  other-is =
      same.volume.is
      ∙ ap (told_view (sector_in (Some written))) (sym (ap (λ (v : VolumeView). v.layout) same.volume.is) ∙ same.layout)

  module _ (next : State) (image : next.image ≡ written) (volume : IsVolumeOf written next.view) where
    next-is : next.view ≡ same.other
    next-is = one_volume written next.view same.other volume same.volume

    settled : IsSound next.view
    settled = subst IsSound (sym next-is) same.sound

    first : MarksBehind new next.view
    first = subst (MarksBehind new) (sym (next-is ∙ other-is)) w.behind

    as-long : length next.image ≡ length before.image
    as-long = ap length image ∙ w.agrees.long ∙ long

  done : (next : State) → next.image ≡ written → IsVolumeOf written next.view
      → next.machine ≡ machine_behind before session command at
      → next.written ≤ before.written + most_written before command at.file new
      → EditDone facts before session command next × HasEmptyLog next.view
  done next image volume moved wrote =
      let leaves = s.leaves next (first next image volume) (settled next image volume) (as-long next image volume) wrote in (
        record {
          at = at;
          found = finds.found;
          made = 0;
          fresh = λ makes. absurd (makes-none command finds.edits makes);
          moved = moved;
          leaves = leaves;
        },
        leaves.log,
      )

  -- ALL OF IT
  pub leaves-written : LeavesEdit facts before session command at flag staged written
  leaves-written = record {
    new = new;
    is = refl;
    volume = w.volume;
    sound = s.sound;
    reading = s.reads;
    flag_there = w.flag_there;
    agrees = w.agrees;
    stored = w.stored;
    done = done;
  }

-- WHAT WAS STAGED can be written, whichever way the command is done.
can-be-written : (before : State) (command : Command) (at : Located) (node : Node) (new : VolumeView) → CanBeEdited before command at node
    → Stages before command at at.file node new → CanBeWritten before command at new
can-be-written before command at node new is stages = elim (way-of before.view before.machine.tree command at is.edits is.built) [
  | inl place ↦ place-written before command at node new place is stages
  | inr value ↦ value-written before command at node new value is stages
]

-- where it was written behind the mark
pub leaves : (facts : Facts) (before : State) (session : ℕ) (command : Command) (f : ℕ) (node : Node) (flag : Flag)
    (marked : Bool) (spans : List Span) (staged written : List ℕ)
    → (finds : FindsFile facts before session command f node) → StagesEdit before command finds.at f node staged
    → IsPlaceOf before.view before.image flag marked spans → IsFinished flag marked spans staged written
    → LeavesEdit facts before session command finds.at flag staged written
leaves facts before session command f node flag marked spans staged written finds s place finished =
    let can = can-be-edited facts before session command f node finds in
    let stages = subst (λ g. Stages before command finds.at g node (staged_view before staged)) (sym finds.file) s.stages in
    let is = can-be-written before command finds.at node (staged_view before staged) can stages in
    leaves-written facts before session command f node finds flag staged written s.long is
    (is-written before staged finds.stands is.sound is.alone s.long flag marked spans written place finished)
