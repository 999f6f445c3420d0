-- A RUN WITHOUT AN OWNER IS TAKEN, where the bitmap is held behind a call that only read.
use Rattle.std.proofs.Common.{◌≡◌, ◌∷◌, ℕ, [], Some}
use Rattle.std.proofs.Common.{subst}
use Rattle.std.specs.Prelude.{IsTrue}
use Rattle.ntfs_def.specs.declared.run_text.Run.{Run}
use Rattle.volume_def.specs.View.{VolumeView}
use Rattle.cluster_bitmap.specs.Flags.{IsFree}
use Rattle.mft_table.specs.declared.mounted.Mounted.{Mounted}
use Rattle.mft_table.specs.InUse.{IsSoundVolume}
use Rattle.file_record.specs.declared.parts.FileParts.{FileParts}
use Rattle.record_edits.specs.Given.{TakesRuns}
use Rattle.sparse_io.specs.declared.find.FoundStream.{FoundStream}
use Rattle.stored_bits.specs.HeldBits.{HoldsBits, ShowsStored}
use Rattle.stored_bits.specs.Taken.{IsUnownedRun}
use Rattle.stored_bits.proofs.StoredStill.{unowned-free}

-- what is said of a run that is taken
abbrev pub TakesHeld : VolumeView → VolumeView → Mounted → Mounted → FileParts → FoundStream → Run → Type 0
TakesHeld old new was now file found run = IsTrue old.told → HoldsBits old was.upcase file found → ShowsStored old was
    → ((at : ℕ) → run.lcn ≡ Some at → IsFree was.clusters at run.len) → TakesRuns old new (run ∷ []) × ShowsStored new now

pub takes-unowned : (old mid new : VolumeView) (was kept now : Mounted) (file : FileParts) (found : FoundStream) (run : Run) → mid ≡ old
    → kept ≡ was → IsTrue old.told → IsSoundVolume old was → HoldsBits old was.upcase file found → TakesHeld mid new kept now file found run
    → IsUnownedRun old run → TakesRuns old new (run ∷ []) × ShowsStored new now
takes-unowned old mid new was kept now file found run same tables told volume holds takes unowned =
    subst (λ (m : Mounted). TakesHeld old new m now file found run) tables
    (subst (λ (v : VolumeView). TakesHeld v new kept now file found run) same takes) told holds volume.stored
    (λ at is. unowned-free old was.clusters was.records was.upcase run at volume.sound unowned volume.stored is)
