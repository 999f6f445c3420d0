-- The records of an index of a file of a volume, as they are read and written.
use Rattle.std.specs.Prelude.{◌≡◌, ◌⊎◌, ℕ, ◌+◌, ◌-◌, ◌^◌, ◌≤◌, false, IsTrue, List, length}
use Rattle.std.specs.List.{flat_map}
use Rattle.vol_disk.specs.declared.Disk.{Ghosts}
use Rattle.vol_stage.specs.Staged.{StagesOnly, disk_of}
use Rattle.volume_def.specs.IndexesClause.{IndexParts}
use Rattle.volume_def.specs.Values.{spot_at}
use Rattle.volume_def.specs.View.{VolumeView}
use Rattle.attr_store.specs.Owners.{HasOwners}
use Rattle.attr_store.specs.Clusters.{ChangesStream, record_sectors}
use Rattle.attr_store.specs.Mft.{KeepsDisk, MftReads, is_mft_broken, stage_of, view}
use Rattle.attr_store.specs.Held.{IsHeldFile}
use Rattle.index_store.specs.Index.{IsFound, index_held}
use Rattle.index_store.specs.declared.index_blocks_mut.IndexBlocksMut.{IndexBlocksMut}

-- Of an index that is read and written: its volume, its parts, and the sectors that were asked for.
abbrev pub volume_under : {D : Type 0} (g : Ghosts D) → IndexBlocksMut D g → VolumeView
volume_under g it = view g it.mft.now

abbrev pub parts_under : {D : Type 0} (g : Ghosts D) → IndexBlocksMut D g → IndexParts
parts_under g it = index_held it.file.now it.index.name.now

abbrev pub fetched_under : {D : Type 0} (g : Ghosts D) → IndexBlocksMut D g → ℕ
fetched_under g it = g.fetched (disk_of g (stage_of g it.mft.now))

-- The index was found in the file, the file is held as the volume has it, and its records can be written: no write failed, and no cluster
-- has two owners.
pub record IsWriteReady {D : Type 0} (g : Ghosts D) (it : IndexBlocksMut D g) : Type 0 where
  pub found : IsFound it.file.now it.index
  pub held : IsTrue (volume_under g it).told → IsHeldFile (volume_under g it) it.file.now
  pub sound : is_mft_broken g it.mft.now ≡ false
  pub whole : it.failed ≡ false
  pub owners : IsTrue (volume_under g it).told → HasOwners (volume_under g it)

-- The same index, and the table of records was only read.
pub record OnlyReadsMut {D : Type 0} (g : Ghosts D) (old new : IndexBlocksMut D g) : Type 0 where
  pub same_mft : new.mft.ghost_name ≡ old.mft.ghost_name
  pub file : new.file ≡ old.file
  pub index : new.index ≡ old.index
  pub reads : ℕ
  pub only : MftReads g old.mft.now new.mft.now reads
  pub written : new.written ≡ old.written
  pub failed : new.failed ≡ old.failed

-- the sectors of the disk in which the records of these numbers lie
abbrev pub sectors_of : {D : Type 0} (g : Ghosts D) → IndexBlocksMut D g → List ℕ → List ℕ
sectors_of g it vcns =
    flat_map (record_sectors (volume_under g it).layout (spot_at (parts_under g it).records)) vcns

-- RECORDS OF THE INDEX WERE READ AND WRITTEN, whatever was answered: these alone are staged, the disk is as it was, and as long as no write
-- failed, all of the volume but the clusters of the records is as it was.
pub record EditsRecords {D : Type 0} (g : Ghosts D) (old new : IndexBlocksMut D g) : Type 0 where
  pub same_mft : new.mft.ghost_name ≡ old.mft.ghost_name
  pub file : new.file ≡ old.file
  pub index : new.index ≡ old.index
  pub disk : KeepsDisk g old.mft.now new.mft.now
  -- the numbers of the records that were written
  pub vcns : List ℕ
  pub rises : old.written ≤ new.written
  pub counted : (old.written + length vcns ≤ new.written) ⊎ (2 ^ 64 - 1 ≤ new.written)
  pub places : IsTrue (volume_under g old).told
      → StagesOnly g (sectors_of g old vcns) (stage_of g old.mft.now) (stage_of g new.mft.now)
  pub failed : new.failed ≡ false → old.failed ≡ false
  pub kept : new.failed ≡ false → IsTrue (volume_under g old).told
      → ChangesStream (volume_under g old) (volume_under g new) (spot_at (parts_under g old).records)
