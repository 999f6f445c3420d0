-- RUNS GIVEN BACK one behind the other: what stands behind the next one.
use Rattle.std.proofs.Common.{◌≡◌, ◌+◌, ◌<◌, ℕ, List, [], ◌∷◌, Some, get_or, length, take, sym, subst, inl, inr}
use Rattle.std.proofs.Common.{arith}
use Rattle.std.specs.Prelude.{Contains}
use Rattle.std.proofs.lemmas.List.{take_more}
use Rattle.vol_disk.specs.declared.Disk.{Ghosts}
use Rattle.ntfs_def.specs.declared.run_text.Run.{Run}
use Rattle.volume_def.specs.BitmapClauses.{cluster_bits}
use Rattle.volume_def.specs.Sound.{IsSound}
use Rattle.volume_def.specs.Table.{TableLayout}
use Rattle.volume_def.specs.Values.{spot_at}
use Rattle.volume_def.specs.View.{VolumeView}
use Rattle.volume_edits.specs.Clusters.{stream_sectors}
use Rattle.cluster_bitmap.specs.Flags.{IsTaken}
use Rattle.mft_table.specs.declared.mft.Mft.{Mft}
use Rattle.mft_table.specs.declared.mounted.Mounted.{Mounted}
use Rattle.file_record.specs.declared.parts.FileParts.{FileParts}
use Rattle.record_edits.specs.Given.{AreOwned, GivesBack}
use Rattle.sparse_io.specs.declared.find.FoundStream.{FoundStream}
use Rattle.stored_bits.specs.HeldBits.{ShowsStored, StagesBits, StaysHeld}
use Rattle.stored_bits.proofs.GivenBack.{gives-then}
use Rattle.stored_bits.proofs.RunTimes.{run-once, times-next}
use Rattle.stored_bits.proofs.StoredStill.{owned-taken}

-- WHICH SECTORS
pub stages-next : {D : Type 0} (g : Ghosts D) (first now : VolumeView) (a b c : Mft D g) (table : List ℕ) (file : FileParts)
    (found : FoundStream)
    → StaysHeld first now table file found → StagesBits g first a b → StagesBits g now b c → StagesBits g first a c
stages-next g first now a b c table file found stays one two sector there = elim (two sector there) [
  | inl before ↦ one sector before
  | inr (at, len, its) ↦ inr (
    at,
    len,
    subst (λ (l : TableLayout). Contains (stream_sectors l (spot_at (cluster_bits first)) at len) sector) stays.layout
        (subst (λ ps. Contains (stream_sectors now.layout (spot_at ps) at len) sector) stays.bits its),
  )
]

-- THE CLUSTERS of the next run are taken, where attributes own those of all runs and the ones before were given back.
pub next-taken : (first now : VolumeView) (mounted : Mounted) (runs : List Run) (k : ℕ) (d : Run) → IsSound first → k < length runs
    → AreOwned first runs → GivesBack first now (take k runs) → ShowsStored now mounted → (at : ℕ) → (get_or runs k d).lcn ≡ Some at
    → IsTaken mounted.clusters at (get_or runs k d).len
next-taken first now mounted runs k d sound lt owned gives stored at is =
    owned-taken first now mounted.clusters mounted.records mounted.upcase runs (take k runs) at
    (get_or runs k d).len sound owned gives stored
    (λ c low high.
    let one = run-once (get_or runs k d) at c is low high in
    let all = times-next runs k c d lt in
    omega (arith, one, all))

-- AND IT GIVEN BACK behind them
pub gives-next : (first now next : VolumeView) (runs : List Run) (k : ℕ) (d : Run) → k < length runs → GivesBack first now (take k runs)
    → GivesBack now next (get_or runs k d ∷ []) → GivesBack first next (take (k + 1) runs)
gives-next first now next runs k d lt before one =
    subst (GivesBack first next) (sym (take_more runs k d lt)) (gives-then first now next (take k runs) (get_or runs k d ∷ []) before one)
