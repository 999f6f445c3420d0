-- Records of an index, read and written one call behind the other.
use Rattle.std.proofs.Common.{◌≡◌, ℕ, ◌+◌, ◌-◌, ◌^◌, ◌≤◌, false, List, [], ◌∷◌, sym, subst, append-nil}
use Rattle.std.specs.Prelude.{◌⊎◌, IsTrue}
use Rattle.vol_disk.specs.declared.Disk.{Ghosts}
use Rattle.vol_stage.specs.Staged.{StagesOnly, places}
use Rattle.attr_store.specs.Written.{StagesAtMost}
use Rattle.volume_def.specs.Values.{spot_at}
use Rattle.attr_store.specs.Clusters.{ChangesStream, record_sectors}
use Rattle.attr_store.specs.Mft.{is_mft_broken, stage_of}
use Rattle.attr_store.proofs.DiskKept.{KeepsDisk-stages}
use Rattle.index_store.specs.declared.index_blocks_mut.IndexBlocksMut.{IndexBlocksMut}
use Rattle.index_store.specs.IndexBlocksMut.{EditsRecords, parts_under, volume_under}

-- ONE RECORD WRITTEN, or not
pub EditsRecords-writes : {D : Type 0} (g : Ghosts D) (a b : IndexBlocksMut D g) (vcn : ℕ) → is_mft_broken g a.mft.now ≡ false
    → b.mft.ghost_name ≡ a.mft.ghost_name → b.file ≡ a.file → b.index ≡ a.index
    → StagesAtMost g 8 a.mft.now b.mft.now
    → (IsTrue (volume_under g a).told → StagesOnly g (record_sectors (volume_under g a).layout (spot_at (parts_under g a).records) vcn)
    (stage_of g a.mft.now) (stage_of g b.mft.now))
    → a.written ≤ b.written → (a.written + 1 ≤ b.written) ⊎ (2 ^ 64 - 1 ≤ b.written) → (b.failed ≡ false → a.failed ≡ false)
    → (b.failed ≡ false → IsTrue (volume_under g a).told
    → ChangesStream (volume_under g a) (volume_under g b) (spot_at (parts_under g a).records))
    → EditsRecords g a b
EditsRecords-writes g a b vcn sound same_mft file index stages only rises counted failed kept =
    let sectors = record_sectors (volume_under g a).layout (spot_at (parts_under g a).records) vcn in
    record {
      same_mft = same_mft;
      file = file;
      index = index;
      disk = KeepsDisk-stages g a.mft.now b.mft.now (places g (stage_of g b.mft.now)) 8 sound stages.stages;
      vcns = vcn ∷ [];
      rises = rises;
      counted = counted;
      places = λ told. subst (λ (all : List ℕ). StagesOnly g all (stage_of g a.mft.now) (stage_of g b.mft.now)) (sym (append-nil sectors))
          (only told);
      failed = failed;
      kept = kept;
    }
