-- THE BITMAP OF CLUSTERS AS IT IS HELD, while flags in it are set or cleared, and what stands meanwhile.
use Rattle.std.specs.Prelude.{◌≡◌, ◌⊎◌, ℕ, Contains, List, Some, slice_get}
use Rattle.vol_disk.specs.declared.Disk.{Ghosts}
use Rattle.vol_stage.specs.Staged.{places}
use Rattle.ntfs_def.specs.Flags.{is_packed}
use Rattle.ntfs_def.specs.declared.records.TheConstants.{CLUSTER_BITMAP}
use Rattle.volume_def.specs.BitmapClauses.{cluster_bits}
use Rattle.volume_def.specs.CaseClause.{case_parts}
use Rattle.volume_def.specs.StreamSize.{real_size}
use Rattle.volume_def.specs.Values.{value_on}
use Rattle.volume_def.specs.View.{VolumeView}
use Rattle.mft_table.specs.declared.mft.Mft.{Mft}
use Rattle.mft_table.specs.declared.mounted.Mounted.{Mounted}
use Rattle.mft_table.specs.HeldTables.{AreStored}
use Rattle.mft_table.specs.Mft.{stage_of, view}
use Rattle.file_record.specs.declared.parts.FileParts.{FileParts}
use Rattle.file_record.specs.Held.{AreParts, file_number, parts_held}
use Rattle.sparse_io.specs.declared.find.FoundStream.{FoundStream}
use Rattle.stored_bits.specs.PutFlags.{HasOwnBits}
use Rattle.stored_bits.specs.Given.{IsOfBits}

-- The file of the bitmap is held as the volume has it, and its stream as it is found; the table of case that is kept is the volume's.
pub record HoldsBits (view : VolumeView) (table : List ℕ) (file : FileParts) (found : FoundStream) : Type 0 where
  pub can : HasOwnBits view
  pub parts : AreParts view file
  pub number : file_number file ≡ CLUSTER_BITMAP
  pub case : table ≡ value_on view (case_parts view)
  pub at : slice_get (parts_held file) found.part ≡ Some can.part
  pub packed : found.packed ≡ is_packed can.part.kind can.part.flags
  pub size : found.size ≡ real_size can.part.content

-- It is held still, and it and the volume lie where they lay.
pub record StaysHeld (old new : VolumeView) (table : List ℕ) (file : FileParts) (found : FoundStream) : Type 0 where
  pub holds : HoldsBits new table file found
  pub told : new.told ≡ old.told
  pub layout : new.layout ≡ old.layout
  pub bits : cluster_bits new ≡ cluster_bits old

-- The flags in memory, and all that is kept beside, are those that the volume stores.
abbrev pub ShowsStored : VolumeView → Mounted → Type 0
ShowsStored view mounted = AreStored view mounted.clusters mounted.records mounted.upcase

-- The sectors that are staged now were so before, or are of the bitmap.
abbrev pub StagesBits : {D : Type 0} (g : Ghosts D) → VolumeView → Mft D g → Mft D g → Type 0
StagesBits g view old new = (sector : ℕ) → Contains (places g (stage_of g new)) sector
    → Contains (places g (stage_of g old)) sector ⊎ IsOfBits view sector
