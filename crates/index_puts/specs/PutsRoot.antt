-- AN ITEM PUT into the root of the index of a directory, which has no records: what a call is to promise.
use Rattle.std.specs.Prelude.{◌≡◌, ℕ, ◌+◌, ◌<◌, ◌≤◌, List, length, slice_index, Some, slice_get}
use Rattle.ntfs_def.specs.Attribute.{Attribute, attributes}
use Rattle.ntfs_def.specs.KeyOrder.{name_order}
use Rattle.ntfs_def.specs.Node.{Item}
use Rattle.volume_def.specs.CaseClause.{volume_fold}
use Rattle.volume_def.specs.Files.{content_value, part_of}
use Rattle.volume_def.specs.Values.{first_part}
use Rattle.volume_def.specs.View.{VolumeView}
use Rattle.file_record.specs.Attributes.{PutsInValue, opened_record}
use Rattle.ntfs_def.specs.declared.index.NodeForm.TheVariants.{Names}
use Rattle.index_node.specs.Edit.{EditsShort, entry_in, with_entry_at}
use Rattle.index_tree.specs.Edit.{IsAbsent, IsPut}
use Rattle.tree_model.specs.IndexRoom.{directory_index, index_depth}
use Rattle.edit_def.specs.Items.{HasItems}
use Rattle.tree_model.specs.LeafRoom.{names_of_directory}

-- The value of a root has an entry more, before entry i or behind all: it grew by it, and its first sixteen bytes are as they were.
pub record GrowsRoot (old new : List ℕ) (i : ℕ) (entry : List ℕ) : Type 0 where
  pub short : EditsShort Names old new (λ said. with_entry_at said i (entry_in entry))
  pub long : length new ≡ length old + length entry
  pub head : (k : ℕ) → k < 16 → slice_index new k ≡ slice_index old k

-- Attribute i of record n is the root of the index of a directory, with this value.
pub record IsRootAt (view : VolumeView) (dir n i : ℕ) (value : List ℕ) : Type 0 where
  pub attribute : Attribute
  pub at : slice_get (attributes (opened_record view n)) i ≡ Some attribute
  pub root : first_part (names_of_directory view dir).root ≡ Some (part_of n attribute)
  pub is : content_value (part_of n attribute).content ≡ Some value

-- Whatever items the directory had in order, none of this key, it has this one more, at its place. Of the volume one value alone changed,
-- the root, whose first sixteen bytes are as they were. The index got no deeper.
pub record PutsRootItem (old new : VolumeView) (dir : ℕ) (item : Item) : Type 0 where
  pub items : (was : List Item) → HasItems old dir was → IsAbsent (name_order (volume_fold old)) item.key was
      → (now : List Item) × HasItems new dir now × IsPut (name_order (volume_fold old)) item was now
  pub holder : ℕ
  pub at : ℕ
  pub before : List ℕ
  pub after : List ℕ
  pub is_root : IsRootAt old dir holder at before
  pub head : (k : ℕ) → k < 16 → slice_index after k ≡ slice_index before k
  pub puts : PutsInValue old new holder at 0 after
  pub depth : index_depth new (directory_index dir) ≤ index_depth old (directory_index dir)
