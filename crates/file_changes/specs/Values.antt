-- BYTES OVER THOSE OF A VALUE of a file, which then has these times and flags: what that asks for, what it leaves, and where sectors are
-- staged.
use Rattle.std.specs.Prelude.{◌≡◌, ◌⊎◌, ◌+◌, ◌*◌, ℕ, Bool, List, [], Some, false, length, slice_get}
use Rattle.vol_disk.specs.declared.Disk.{Ghosts}
use Rattle.ntfs_def.specs.FileName.{FileName}
use Rattle.ntfs_def.specs.declared.kinds.TheConstants.{BITMAP, DATA, FILE_NAME}
use Rattle.ntfs_def.specs.declared.records.TheConstants.{CLUSTER_BITMAP, MFT, UPCASE}
use Rattle.volume_def.specs.Files.{Part, parts, records_of}
use Rattle.volume_def.specs.View.{VolumeView}
use Rattle.edit_def.specs.Kept.{Key, key_of}
use Rattle.stream_overwrites.specs.Below.{CanSet, Rewrites}
use Rattle.mft_table.specs.declared.mft.Mft.{Mft}
use Rattle.mft_table.specs.Mft.{view}
use Rattle.file_record.specs.Written.{HoldsBytes, WritesBytes}
use Rattle.tree_model.specs.declared.tree.Node.{Node}
use Rattle.attribute_edits.specs.Below.{SetsAttributes}
use Rattle.file_changes.specs.Links.{CanWriteFile}
use Rattle.file_changes.specs.Staged.{IsOfFile, IsOfNames, StagesFew}

-- The file can be edited still: of the volume attributes were rewritten, none of them one of which a table is kept, and no name of the
-- file.
pub record LeavesFile (old new : VolumeView) (f : ℕ) : Type 0 where
  pub changed : Key → Bool
  pub rewrites : Rewrites changed old new
  pub bits : changed (key_of CLUSTER_BITMAP DATA []) ≡ false
  pub records : changed (key_of MFT BITMAP []) ≡ false
  pub case : changed (key_of UPCASE DATA []) ≡ false
  pub names : (name : List ℕ) → changed (key_of f FILE_NAME name) ≡ false
  pub node : Node
  pub can : CanSet new f node

-- THESE BYTES CAN BE WRITTEN over those of part i of file f, from byte `at` of its value on.
pub record CanPut (view : VolumeView) (f i at : ℕ) (bytes : List ℕ) : Type 0 where
  pub can : CanWriteFile view f
  pub part : Part
  pub there : slice_get (parts (records_of view) f) i ≡ Some part
  pub holds : HoldsBytes at (length bytes) part
  pub leaves : (new : VolumeView) → WritesBytes view new part at bytes → LeavesFile view new f

-- They were, and then the file has these times and flags.
pub record PutsBytes (old new : VolumeView) (f : ℕ) (part : Part) (at : ℕ) (bytes times : List ℕ) (flags : ℕ) : Type 0 where
  pub mid : VolumeView
  pub writes : WritesBytes old mid part at bytes
  pub sets : SetsAttributes mid new f times flags

-- Four sectors at most for the value, beside those of the file's attributes.
abbrev pub IsOfValue : VolumeView → ℕ → List FileName → ℕ → Type 0
IsOfValue view f names sector = IsOfFile view f sector ⊎ IsOfNames view names sector

abbrev pub StagesValue : {D : Type 0} (g : Ghosts D) → ℕ → List FileName → Mft D g → Mft D g → Type 0
StagesValue g f names old new = StagesFew g (8 + 12 * length names) (IsOfValue (view g old) f names) old new
