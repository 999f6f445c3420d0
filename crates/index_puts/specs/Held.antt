-- A directory that is held while an entry is to come into its index.
use Rattle.std.specs.Prelude.{◌≡◌, ℕ, List}
use Rattle.ntfs_def.specs.KeyOrder.{name_order}
use Rattle.ntfs_def.specs.Node.{Item}
use Rattle.volume_def.specs.CaseClause.{case_parts, volume_fold}
use Rattle.volume_def.specs.Files.{records_of}
use Rattle.volume_def.specs.Readable.{IsReadableVolume}
use Rattle.volume_def.specs.Values.{value_on}
use Rattle.volume_def.specs.View.{VolumeView}
use Rattle.volume_edits.specs.Owners.{HasOwners}
use Rattle.index_tree.specs.Edit.{IsAbsent}
use Rattle.file_record.specs.declared.parts.FileParts.{FileParts}
use Rattle.file_record.specs.Held.{IsHeldFile, file_number}
use Rattle.edit_def.specs.Items.{HasItems}
use Rattle.edit_def.specs.Names.{HasRightBases}

-- The directory is held as the volume has it, its index has these items in order, whatever names are those of the directory, and this is
-- the volume's table of case.
pub record IsHeldWith (view : VolumeView) (file : FileParts) (table : List ℕ) (items : List Item) : Type 0 where
  pub held : IsHeldFile view file
  pub has : HasItems view (file_number file) items
  pub case : table ≡ value_on view (case_parts view)

-- It has some items so ..
pub record HoldsItems (view : VolumeView) (file : FileParts) (table : List ℕ) : Type 0 where
  pub items : List Item
  pub held : IsHeldWith view file table items

-- .. and none of them has this key.
pub record LacksKey (view : VolumeView) (file : FileParts) (table key : List ℕ) : Type 0 where
  pub items : List Item
  pub held : IsHeldWith view file table items
  pub absent : IsAbsent (name_order (volume_fold view)) key items

-- What the laws ask of a volume: its files can be read, no cluster of it has two owners, and its extension records name their bases.
pub record CanPut (view : VolumeView) : Type 0 where
  pub readable : IsReadableVolume view
  pub owners : HasOwners view
  pub bases : HasRightBases (records_of view)
