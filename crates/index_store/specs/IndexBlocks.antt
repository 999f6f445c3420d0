-- The records of an index of a file of a volume, as they are read.
use Rattle.std.specs.Prelude.{◌≡◌, ℕ, List, Option, Some, None, IsTrue, if◌then◌else◌}
use Rattle.vol_disk.specs.declared.Disk.{Ghosts}
use Rattle.vol_stage.specs.Staged.{disk_of}
use Rattle.volume_def.specs.IndexesClause.{IndexParts}
use Rattle.volume_def.specs.View.{VolumeView}
use Rattle.index_tree.specs.BlockNo.{BlockNo}
use Rattle.index_tree.specs.BlockNo.TheVariants.{Device as BlockDevice, Memory as BlockMemory}
use Rattle.index_tree.specs.declared.IndexNo.{IndexNo}
use Rattle.index_tree.specs.declared.IndexNo.TheVariants as index_no
use Rattle.attr_store.specs.Mft.{MftReads, stage_of, view}
use Rattle.attr_store.specs.FileNo.{FileNo}
use Rattle.attr_store.specs.FileNo.TheVariants.{Device, Memory, NoRoom}
use Rattle.attr_store.specs.FileParts.{FileParts}
use Rattle.attr_store.specs.Held.{IsHeldFile}
use Rattle.index_store.specs.declared.index.FoundIndex.{FoundIndex}
use Rattle.index_store.specs.Index.{IsFound, index_held}
use Rattle.index_store.specs.IndexRecords.{index_record_on}
use Rattle.index_store.specs.declared.index_blocks.IndexBlocks.{IndexBlocks}

-- The opened record of an index at each number, none where there is none, where the contents are told.
abbrev pub told_records : VolumeView → IndexParts → Option (ℕ → Option (List ℕ))
told_records view index = if view.told then Some (index_record_on view index) else None

-- the records of an index that was found in a file
abbrev pub records_found : VolumeView → FileParts → FoundIndex → ℕ → Option (List ℕ)
records_found view file index = index_record_on view (index_held file index.name.now)

-- Of an index that is read: its volume, its parts, its records, and the sectors that were asked for.
abbrev pub view_under : {D : Type 0} (g : Ghosts D) → IndexBlocks D g → VolumeView
view_under g it = view g it.mft.now

abbrev pub index_under : {D : Type 0} (g : Ghosts D) → IndexBlocks D g → IndexParts
index_under g it = index_held it.file.now it.index.name.now

abbrev pub records_under : {D : Type 0} (g : Ghosts D) → IndexBlocks D g → Option (ℕ → Option (List ℕ))
records_under g it = told_records (view_under g it) (index_under g it)

abbrev pub sectors_under : {D : Type 0} (g : Ghosts D) → IndexBlocks D g → ℕ
sectors_under g it = g.fetched (disk_of g (stage_of g it.mft.now))

-- The index was found in the file, and the file is held as the volume has it.
pub record IsReady {D : Type 0} (g : Ghosts D) (it : IndexBlocks D g) : Type 0 where
  pub found : IsFound it.file.now it.index
  pub held : IsTrue (view_under g it).told → IsHeldFile (view_under g it) it.file.now

-- The same index, and the table of records was only read.
pub record OnlyReads {D : Type 0} (g : Ghosts D) (old new : IndexBlocks D g) : Type 0 where
  pub same_mft : new.mft.ghost_name ≡ old.mft.ghost_name
  pub file : new.file ≡ old.file
  pub index : new.index ≡ old.index
  pub reads : ℕ
  pub only : MftReads g old.mft.now new.mft.now reads

-- why a record was not read, by why its file was not
abbrev pub block_no_of : FileNo → BlockNo
block_no_of Device = BlockDevice
block_no_of _ = BlockMemory

-- why an index was not searched, as its file's calls tell it
abbrev pub file_no_of : IndexNo → FileNo
file_no_of index_no.Device = Device
file_no_of index_no.NoRoom = NoRoom
file_no_of index_no.Memory = Memory
