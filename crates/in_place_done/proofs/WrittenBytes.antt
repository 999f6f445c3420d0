-- THE BYTES of an edit that was staged, and written.
use Rattle.std.proofs.Common.{◌≡◌, ℕ, Bool, List, length}
use Rattle.volume_def.specs.Sound.{IsSound}
use Rattle.volume_def.specs.View.{VolumeView}
use Rattle.mft_table.specs.HeldTables.{AreStored}
use Rattle.tree_model.specs.Facts.{IsVolumeOf}
use Rattle.session_def.specs.State.{Stands, State}
use Rattle.mark_write.specs.declared.flag.Flag.{Flag}
use Rattle.mark_write.specs.declared.log.Span.{Span}
use Rattle.volume_mark.specs.Mark.{IsFlagOf}
use Rattle.volume_mark.specs.SameVolume.{AgreesButMark}
use Rattle.in_place.specs.Behind.{MarksBehind}
use Rattle.edit_written.specs.Finished.{IsFinished, IsPlaceOf}
use Rattle.edit_written.specs.LeavesAlone.{LeavesAlone}
use Rattle.edit_written.proofs.AgreesLaws.{agrees}
use Rattle.edit_written.proofs.BehindLaws as last
use Rattle.edit_written.proofs.BitsKept.{bits-stored}
use Rattle.edit_written.proofs.BootStays.{staged-volume}
use Rattle.edit_written.proofs.FlagStays.{staged-flag}
use Rattle.in_place_done.proofs.StagedVolume.{staged_view}

-- What is said of them.
pub record IsWritten (before : State) (flag : Flag) (staged written : List ℕ) : Type 0 where
  pub volume : IsVolumeOf staged (staged_view before staged)
  pub flag_there : IsFlagOf (staged_view before staged) flag
  pub agrees : AgreesButMark (staged_view before staged) flag staged written
  pub behind : MarksBehind (staged_view before staged) (staged_view before written)
  pub stored : (clusters records : List Bool) (upcase : List ℕ) → AreStored (staged_view before staged) clusters records upcase
      → AreStored (staged_view before written) clusters records upcase

module _ (before : State) (staged : List ℕ) (stands : Stands before) (sound : IsSound (staged_view before staged))
    (alone : LeavesAlone before.view (staged_view before staged)) (long : length staged ≡ length before.image) (flag : Flag)
    (marked : Bool) (spans : List Span) (written : List ℕ) (place : IsPlaceOf before.view before.image flag marked spans)
    (finished : IsFinished flag marked spans staged written) where
  abbrev old : VolumeView
  old = before.view

  abbrev new : VolumeView
  new = staged_view before staged

  volume : IsVolumeOf staged new
  volume = staged-volume old before.image staged stands.volume stands.sound long alone

  behind : MarksBehind new (staged_view before written)
  behind = last.behind old new before.image staged written flag marked spans stands.volume stands.sound alone volume sound place finished

  pub is-written : IsWritten before flag staged written
  is-written = record {
    volume = volume;
    flag_there = staged-flag old new flag alone place.flag_is;
    agrees = agrees old new before.image staged written flag marked spans alone volume sound place finished;
    behind = behind;
    stored = λ clusters records upcase. bits-stored new (staged_view before written) clusters records upcase behind;
  }
