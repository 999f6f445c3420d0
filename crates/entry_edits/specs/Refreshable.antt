-- A volume on which an entry of a directory may be told anew, and the attributes that change then.
use Rattle.std.specs.Prelude.{◌≢◌, ◌<◌, ℕ, ◌==◌, ◌&&◌, ◌||◌, Bool, List, codes}
use Rattle.std.specs.Str.{bytes_eq}
use Rattle.ntfs_def.specs.Units.{wide}
use Rattle.ntfs_def.specs.declared.kinds.TheConstants.{DATA, INDEX_ALLOCATION, INDEX_ROOT}
use Rattle.ntfs_def.specs.declared.records.TheConstants.{MFT, MFT_MIRROR, VOLUME}
use Rattle.volume_def.specs.Files.{records_of}
use Rattle.volume_def.specs.Readable.{IsReadableVolume}
use Rattle.volume_def.specs.View.{VolumeView}
use Rattle.volume_edits.specs.Owners.{HasOwners}
use Rattle.volume_mark.specs.EditDefKept.{Key, either}
use Rattle.volume_mark.specs.Names.{HasRightBases}

-- the name of a directory's index
abbrev pub index_name : List ℕ
index_name = wide (codes "$I30")

-- The volume's files can be read, no cluster of it has two owners, its extension records name their bases, and the directory is not the
-- file of the volume's version.
pub record IsRefreshable (view : VolumeView) (dir : ℕ) : Type 0 where
  pub readable : IsReadableVolume view
  pub owners : HasOwners view
  pub bases : HasRightBases (records_of view)
  pub some : 0 < view.layout.cluster_sectors
  pub apart : dir ≢ VOLUME

-- an attribute of this type of the directory's index
abbrev pub is_part_key : ℕ → ℕ → Key → Bool
is_part_key kind dir key = (key.kind == kind) && (bytes_eq key.name index_name && (key.file == dir))

-- the table of records and its mirror: whichever record is written, their clusters change
abbrev pub is_table_data : Key → Bool
is_table_data key = (key.kind == DATA) && ((key.file == MFT) || (key.file == MFT_MIRROR))

-- what changes where the entry stands in the root of the index ..
abbrev pub is_root_key : ℕ → Key → Bool
is_root_key dir = either is_table_data (is_part_key INDEX_ROOT dir)

-- .. or in one of its records
abbrev pub is_refreshed_key : ℕ → Key → Bool
is_refreshed_key dir = either (is_part_key INDEX_ALLOCATION dir) (is_root_key dir)
