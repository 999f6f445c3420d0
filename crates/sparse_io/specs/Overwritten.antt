-- BYTES THAT GO OVER BYTES of a stream, in clusters that were written before.
use Rattle.std.specs.Prelude.{◌≡◌, ◌⊎◌, ℕ, ◌+◌, ◌-◌, ◌*◌, ◌%◌, ◌<◌, ◌≤◌, List, length, slice_index}
use Rattle.ntfs_def.specs.declared.run_text.Spot.{Spot}
use Rattle.volume_def.specs.Table.{TableLayout}
use Rattle.volume_def.specs.Values.{pieces_touched}
use Rattle.volume_edits.specs.Clusters.{stream_sectors}

-- the sectors of the disk in which a byte of the stream lies, of so many from byte `at` on
abbrev pub touched_sectors : TableLayout → (ℕ → Spot) → ℕ → ℕ → List ℕ
touched_sectors layout spot at len = stream_sectors layout spot at (512 * pieces_touched at len)

-- The sector of a cluster that holds its byte `skip`, with these bytes over its own from there on.
pub record IsPatched (cluster : List ℕ) (skip : ℕ) (piece bytes : List ℕ) : Type 0 where
  pub here : (j : ℕ) → j < length piece → slice_index bytes (skip % 512 + j) ≡ slice_index piece j
  pub others : (j : ℕ) → j < 512 → (j < skip % 512) ⊎ (skip % 512 + length piece ≤ j)
      → slice_index bytes j ≡ slice_index cluster (skip - skip % 512 + j)
