-- THE RECORD OF A NEW FILE: what the calls on it give, one behind the other, and what is kept of the device meanwhile.
-- Layout: Linux-NTFS documentation, attributes $FILE_NAME, $DATA and $INDEX_ROOT, "File Record"; Carrier, File System Forensic Analysis,
-- chapter 13.
use Rattle.std.specs.Prelude.{◌≡◌, ◌⊎◌, ◌+◌, ◌*◌, ◌≤◌, ℕ, Bool, Contains, IsTrue, List, [], length}
use Rattle.vol_disk.specs.declared.Disk.{Ghosts}
use Rattle.vol_stage.specs.Staged.{GoesOn, disk_of, places}
use Rattle.ntfs_def.specs.Attribute.{attributes}
use Rattle.ntfs_def.specs.Record.{used_size}
use Rattle.ntfs_def.specs.declared.kinds.TheConstants.{FILE_NAME}
use Rattle.volume_def.specs.Coverage.{IsApart}
use Rattle.volume_def.specs.Table.{cluster_bytes}
use Rattle.volume_def.specs.View.{VolumeView}
use Rattle.volume_edits.specs.Rewritten.{CountsLinks}
use Rattle.record_bytes.specs.AttributeBytes.{resident_bytes}
use Rattle.mft_table.specs.declared.mft.Mft.{Mft}
use Rattle.mft_table.specs.Mft.{committed_of, is_mft_broken, mounted_of, stage_of}
use Rattle.mft_table.specs.Staging.{record_places}
use Rattle.file_record.specs.declared.parts.FileParts.{FileParts}
use Rattle.file_record.specs.Attributes.{InsertsAttribute}
use Rattle.file_record.specs.Extensions.{CreatesBase}
use Rattle.file_record.specs.Held.{RecordHeld, file_number}
use Rattle.file_record.specs.Written.{IsWholeFile}
use Rattle.made_edits.specs.Comes.{body_bytes}
use Rattle.made_edits.specs.HeldRecordBits.{IsOfRecordBits}
use Rattle.made_edits.specs.StoredRecordBit.{StoresRecordBit}

-- A record of the table of an image that is told, in what was written of the table.
pub record IsWrittenRecord (view : VolumeView) (n : ℕ) : Type 0 where
  pub told : IsTrue view.told
  pub apart : IsApart view.layout
  pub initialized : 1024 * n + 1024 ≤ view.layout.initialized

-- The first record that is held of a file is its base record; it has an attribute at least, and so many bytes in use ..
abbrev pub HasUsed : FileParts → ℕ → Type 0
HasUsed file used = RecordHeld file 0 (λ held. (1 ≤ length (attributes held.block)) × (used_size held.block ≡ used)
    × (held.number ≡ file_number file))

-- .. and room for so many more
pub record HasRoomFor (file : FileParts) (len : ℕ) : Type 0 where
  pub used : ℕ
  pub has : HasUsed file used
  pub fits : used + len ≤ 1024

-- THE RECORD IS FILLED behind its $STANDARD_INFORMATION, on a volume with clusters of so many bytes: the body comes, an empty stream, or of
-- a directory the root of its index, the name in front of that, and the count of that name.
pub record FillsRecord (directory : Bool) (size : ℕ) (old new : VolumeView) (n : ℕ) (key : List ℕ) : Type 0 where
  pub bodied : VolumeView
  pub body : InsertsAttribute old bodied n 1 (body_bytes directory size)
  pub named : VolumeView
  pub name : InsertsAttribute bodied named n 1 (resident_bytes FILE_NAME [] 2 key)
  pub stored : List ℕ
  pub counts : CountsLinks named new n stored 1

-- THE RECORD COMES behind its flag: its base record, which is filled then.
pub record MakesRecord (directory : Bool) (size : ℕ) (old new : VolumeView) (n : ℕ) (standard key : List ℕ) : Type 0 where
  pub based : VolumeView
  pub creates : CreatesBase old based n directory standard
  pub fills : FillsRecord directory size based new n key

-- THE FLAG IS STORED, and then the record comes.
pub record ComesFlagged (directory : Bool) (old new : VolumeView) (n : ℕ) (standard key : List ℕ) : Type 0 where
  pub flagged : VolumeView
  pub stores : StoresRecordBit old flagged n
  pub makes : MakesRecord directory (cluster_bytes old.layout) flagged new n standard key

-- AN ATTRIBUTE CAME behind the first one of the record of a file that is held whole, and is so still.
pub record ComesSecond (old new : VolumeView) (was now : FileParts) (attr : List ℕ) : Type 0 where
  pub inserts : InsertsAttribute old new (file_number was) 1 attr
  pub whole : IsWholeFile new now

-- The sectors that are staged now were so before, or are of the stored bitmap of records, or those of the record.
abbrev pub StagesFile : {D : Type 0} (g : Ghosts D) → VolumeView → ℕ → Mft D g → Mft D g → Type 0
StagesFile g view n old new = (sector : ℕ) → Contains (places g (stage_of g new)) sector
    → Contains (places g (stage_of g old)) sector ⊎ (IsOfRecordBits view sector ⊎ Contains (record_places view.layout n) sector)

-- Nothing was written or settled, and of the tables that are kept in memory the flags of records alone may have changed.
pub record KeepsDevice {D : Type 0} (g : Ghosts D) (old new : Mft D g) : Type 0 where
  pub goes_on : GoesOn g (stage_of g old) (stage_of g new)
  pub now : g.now (disk_of g (stage_of g new)) ≡ g.now (disk_of g (stage_of g old))
  pub settled : g.settled (disk_of g (stage_of g new)) ≡ g.settled (disk_of g (stage_of g old))
  pub fenced : g.fenced (disk_of g (stage_of g new)) ≡ g.fenced (disk_of g (stage_of g old))
  pub written : g.written (disk_of g (stage_of g new)) ≡ g.written (disk_of g (stage_of g old))
  pub late : g.late (disk_of g (stage_of g new)) ≡ g.late (disk_of g (stage_of g old))
  pub broken : is_mft_broken g new ≡ is_mft_broken g old
  pub committed : committed_of g new ≡ committed_of g old
  pub records : List Bool
  pub mounted : mounted_of g new ≡ record (mounted_of g old) { records = records }
