-- What an image says: its volume, its reading, and what it tells beside the tree.
-- Layout: Linux-NTFS documentation, file $Secure; Carrier, File System Forensic Analysis, chapters 11 to 13.
use Rattle.std.specs.Prelude.{◌≡◌, ◌==◌, ℕ, ◌+◌, ◌/◌, ◌%◌, ◌≤◌, Bool, List, Contains, codes, is_some, length}
use Rattle.std.specs.Prelude.{slice_range, take, Option, Some, None}
use Rattle.vol_bytes.specs.Field.{u32_at}
use Rattle.vol_disk.specs.Contents.{sector_in}
use Rattle.ntfs_def.specs.Boot.{boot_sector}
use Rattle.ntfs_def.specs.Node.{Item}
use Rattle.ntfs_def.specs.Units.{wide}
use Rattle.ntfs_def.specs.declared.kinds.TheConstants.{DATA}
use Rattle.ntfs_def.specs.declared.lengths.TheConstants.{RECORD}
use Rattle.ntfs_def.specs.declared.records.TheConstants.{SECURE}
use Rattle.volume_def.specs.Values.{IsPlain}
use Rattle.volume_def.specs.Files.{parts_at}
use Rattle.volume_def.specs.Files.{Part, record_on}
use Rattle.volume_def.specs.IndexesClause.{IsViewIndex, id_rule, index_parts}
use Rattle.volume_def.specs.Sound.{HasLayout, told_view}
use Rattle.volume_def.specs.Table.{TableLayout}
use Rattle.volume_def.specs.Values.{value_on}
use Rattle.volume_def.specs.View.{VolumeView}
use Rattle.tree_model.specs.Bill.{bill_of}
use Rattle.tree_model.specs.NoRoom.{no_room_for}
use Rattle.tree_model.specs.Reading.{read}
use Rattle.tree_model.specs.Refusals.{Facts}
use Rattle.tree_model.specs.Staging.{is_built_for}
use Rattle.volume_def.specs.Room.{unowned_clusters, unused_records}
use Rattle.tree_model.specs.Subjects.{Located, Machine}
use Rattle.tree_model.specs.Tree.{Tree}
use Rattle.tree_model.specs.declared.command.Command.{Command}
use Rattle.ntfs_def.specs.ViewData.{item_data, security_offset, security_size}

-- The volume of an image: its boot sector and its table tell where all else lies.
pub record IsVolumeOf (image : List ℕ) (view : VolumeView) : Type 0 where
  pub layout : TableLayout
  pub has : HasLayout (sector_in (Some image)) (boot_sector image) (length image / 512) layout
  pub is : view ≡ told_view (sector_in (Some image)) layout

-- The image reads as this tree.
pub record ReadsAs (image : List ℕ) (tree : Tree) : Type 0 where
  pub view : VolumeView
  pub volume : IsVolumeOf image view
  pub reading : tree ≡ read view

-- Security descriptors: $Secure has them in its stream $SDS, each behind a header of 20 bytes, and tells of them by id in its
-- index $SII.
abbrev pub sds_parts : VolumeView → List Part
sds_parts view = parts_at view SECURE DATA (wide (codes "$SDS"))

-- The id has this descriptor.
pub record HasDescriptor (view : VolumeView) (id : ℕ) (bytes : List ℕ) : Type 0 where
  pub plain : IsPlain (sds_parts view)
  pub index : IsViewIndex view id_rule (index_parts view SECURE (wide (codes "$SII")))
  pub item : Item
  pub among : Contains index.items item
  pub key : u32_at item.key 0 ≡ id
  pub long : 20 ≤ length (item_data item)
  pub offset : ℕ
  pub offset_is : offset ≡ security_offset (item_data item)
  pub size : ℕ
  pub size_is : size ≡ security_size (item_data item)
  pub least : 20 ≤ size
  pub most : size ≤ 65556
  pub inside : offset + size ≤ length (value_on view (sds_parts view))
  pub header : slice_range (value_on view (sds_parts view)) offset (offset + 20) ≡ take 20 (item_data item)
  pub is : bytes ≡ slice_range (value_on view (sds_parts view)) (offset + 20) (offset + size)

abbrev pub TellsDescriptor : VolumeView → ℕ → Option (List ℕ) → Type 0
TellsDescriptor view id None = (bytes : List ℕ) → ¬ (HasDescriptor view id bytes)
TellsDescriptor view id (Some bytes) = HasDescriptor view id bytes

-- Each record of the table was written whole, or not at all.
abbrev pub is_whole_table : VolumeView → Bool
is_whole_table view = view.layout.initialized % RECORD == 0

-- What a volume tells beside its tree. The refusal for room comes of the bill of the command.
pub record TellsFacts (view : VolumeView) (facts : Facts) : Type 0 where
  pub clusters : facts.clusters ≡ view.layout.clusters
  pub free : facts.free ≡ unowned_clusters view
  pub records : facts.records ≡ view.layout.count
  pub free_records : facts.free_records ≡ unused_records view
  pub whole_table : facts.whole_table ≡ is_whole_table view
  pub built_for : (m : Machine) (command : Command) (at : Located) → facts.built_for m command at ≡ is_built_for view m.tree command at
  pub in_use : (n : ℕ) → facts.in_use n ≡ is_some (record_on view n)
  pub descriptors : (id : ℕ) → TellsDescriptor view id (facts.descriptor id)
  pub no_room : (m : Machine) (command : Command) (at : Located)
      → facts.no_room m command at ≡ no_room_for view (bill_of view m.tree command at)
