-- THE RECORD OF A FILE THAT GOES: where the volume lies then, and the sectors that are staged.
use Rattle.std.proofs.Common.{◌≡◌, ◌+◌, ◌≤◌, ℕ, List, length, inl, inr, subst, ◌∙◌, arith}
use Rattle.std.specs.Prelude.{◌⊎◌, Contains}
use Rattle.vol_disk.specs.declared.Disk.{Ghosts}
use Rattle.vol_stage.specs.Staged.{StagesOnly, places}
use Rattle.ntfs_def.specs.declared.records.TheConstants.{FIRST_ORDINARY}
use Rattle.volume_def.specs.BitmapClauses.{record_bits}
use Rattle.volume_def.specs.Files.{Part}
use Rattle.volume_def.specs.Table.{TableLayout}
use Rattle.volume_def.specs.Values.{spot_at}
use Rattle.volume_def.specs.View.{VolumeView}
use Rattle.volume_edits.specs.Clusters.{stream_sectors}
use Rattle.mft_table.specs.declared.mft.Mft.{Mft}
use Rattle.mft_table.specs.Mft.{stage_of}
use Rattle.mft_table.specs.Staging.{record_places}
use Rattle.dir_index.proofs.FewStaged.{few-staged, two-alone}
use Rattle.record_bits.specs.HeldRecordBits.{IsOfRecordBits}
use Rattle.file_makes.specs.Steps.{StagesFile}
use Rattle.file_drops.specs.Freed.{LeavesRecord}

-- the volume lies where it lay
pub left-layout : (old new : VolumeView) (n : ℕ) → LeavesRecord old new n → new.layout ≡ old.layout
left-layout old new n leaves =
    leaves.frees.replaces.layout ∙ leaves.quits.counts.replaces.layout ∙ leaves.quits.name.edits.replaces.layout

-- and so do the sectors of the bitmap of records, where its parts are the same
pub rows-same : (old new : VolumeView) (sector : ℕ) → new.layout ≡ old.layout → record_bits new ≡ record_bits old
    → IsOfRecordBits new sector → IsOfRecordBits old sector
rows-same old new sector layout rows (at, len, among) = (
  at,
  len,
  subst (λ (ps : List Part). Contains (stream_sectors old.layout (spot_at ps) at len) sector) rows
      (subst (λ (l : TableLayout). Contains (stream_sectors l (spot_at (record_bits new)) at len) sector) layout among),
)

-- THE SECTORS: those of the record, and then that of its flag,
module _ {D : Type 0} (g : Ghosts D) (old : VolumeView) (n : ℕ) (a b : Mft D g)
    (first : StagesOnly g (record_places old.layout n) (stage_of g a) (stage_of g b)) where
  pub left-places : StagesFile g old n a b
  left-places sector there = elim (first.only sector there) [ inl was ↦ inl was | inr new ↦ inr (inr new) ]

  pub cleared-places : (c : Mft D g) (freed : VolumeView) → freed.layout ≡ old.layout → record_bits freed ≡ record_bits old
      → ((sector : ℕ) → Contains (places g (stage_of g c)) sector → Contains (places g (stage_of g b)) sector ⊎ IsOfRecordBits freed sector)
      → StagesFile g old n a c
  cleared-places c freed layout rows second sector there = elim (second sector there) [
    | inl before ↦ left-places sector before
    | inr row ↦ inr (inl (rows-same old freed sector layout rows row))
  ]

  -- .. two and one
  pub cleared-few : (c : Mft D g) → FIRST_ORDINARY ≤ n → length (places g (stage_of g c)) ≤ length (places g (stage_of g b)) + 1
      → length (places g (stage_of g c)) ≤ length (places g (stage_of g a)) + 3
  cleared-few c ordinary second =
      let two = two-alone old.layout n (omega (arith, ordinary)) in
      let more = few-staged g (record_places old.layout n) (stage_of g a) (stage_of g b) first in
      omega (arith, second, two, more)
