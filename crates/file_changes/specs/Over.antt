-- BYTES THAT GO OVER BYTES of a stream of a file, which is then told anew: what that asks for, and where sectors are staged.
use Rattle.std.specs.Prelude.{◌≡◌, ◌⊎◌, ◌+◌, ◌*◌, ◌/◌, ℕ, List, Contains, false, length, true}
use Rattle.vol_disk.specs.declared.Disk.{Ghosts}
use Rattle.ntfs_def.specs.FileName.{FileName}
use Rattle.ntfs_def.specs.declared.kinds.TheConstants.{DATA}
use Rattle.volume_def.specs.Files.{parts_at}
use Rattle.volume_def.specs.Table.{cluster_bytes}
use Rattle.volume_def.specs.Values.{spot_at}
use Rattle.volume_def.specs.View.{VolumeView}
use Rattle.tree_model.specs.StreamRoom.{goes_over, parts_named}
use Rattle.mft_table.specs.declared.mft.Mft.{Mft}
use Rattle.mft_table.specs.Mft.{view}
use Rattle.file_record.specs.declared.parts.FileParts.{FileParts}
use Rattle.file_record.specs.Held.{file_number}
use Rattle.sparse_io.specs.declared.find.FoundStream.{FoundStream}
use Rattle.sparse_io.specs.Held.{IsHeldWith, IsStream}
use Rattle.sparse_io.specs.Overwritten.{touched_sectors}
use Rattle.file_changes.specs.Links.{CanWriteFile}
use Rattle.file_changes.specs.Staged.{IsOfFile, IsOfNames, StagesFew}

-- SO MANY BYTES CAN GO OVER those of the stream that was found, from byte `at` on: file f can be edited, and is held as the volume has it;
-- the stream is not packed, and the bytes go over bytes in clusters that were written before.
pub record CanWriteOver (view : VolumeView) (table : List ℕ) (file : FileParts) (found : FoundStream) (f at len : ℕ) : Type 0 where
  pub can : CanWriteFile view f
  pub number : file_number file ≡ f
  pub held : IsHeldWith view table file
  -- the units that were asked for, in whichever case
  pub asked : List ℕ
  pub is : IsStream view file asked found
  pub plain : found.packed ≡ false
  pub over : goes_over (cluster_bytes view.layout) (parts_named view f is.stream.name) at len ≡ true

-- a byte of so many from byte `at` of the stream on lies in the sector
abbrev pub IsOfStream : VolumeView → ℕ → List ℕ → ℕ → ℕ → ℕ → Type 0
IsOfStream view f name at len sector = Contains (touched_sectors view.layout (spot_at (parts_at view f DATA name)) at len) sector

-- THE BYTES, AND THE ATTRIBUTES OF THE FILE: the sectors of the bytes too, at most two more than they fill.
abbrev pub IsOverOf : VolumeView → ℕ → List ℕ → ℕ → ℕ → List FileName → ℕ → Type 0
IsOverOf view f name at len names sector = IsOfStream view f name at len sector ⊎ (IsOfFile view f sector ⊎ IsOfNames view names sector)

abbrev pub StagesOver : {D : Type 0} (g : Ghosts D) → ℕ → List ℕ → ℕ → ℕ → List FileName → Mft D g → Mft D g → Type 0
StagesOver g f name at len names old new =
    StagesFew g (6 + 12 * length names + len / 512) (IsOverOf (view g old) f name at len names) old new
