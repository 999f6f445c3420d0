-- An entry that comes in the place of the one with an equal key: what the index has then, and what is staged.
use Rattle.std.specs.Prelude.{ℕ, ◌≤◌, IsTrue, List, length}
use Rattle.std.specs.List.{flat_map}
use Rattle.vol_disk.specs.declared.Disk.{Ghosts}
use Rattle.vol_stage.specs.Staged.{StagesOnly}
use Rattle.std.specs.Prelude.{◌≡◌, Bool, Option, Some}
use Rattle.std.specs.declared.cmp.Ordering.{Ordering}
use Rattle.ntfs_def.specs.IndexTree.{Walks}
use Rattle.ntfs_def.specs.Node.{Item, Node, short_node}
use Rattle.ntfs_def.specs.declared.index.NodeForm.TheVariants.{Names}
use Rattle.volume_def.specs.Files.{Part}
use Rattle.volume_def.specs.IndexesClause.{IndexParts}
use Rattle.volume_def.specs.View.{VolumeView}
use Rattle.index_store.specs.Edit.{short_nodes}
use Rattle.index_store.specs.Replace.{IsSwapped, Replaces}
use Rattle.index_store.specs.IndexRecords.{index_record_on}
use Rattle.volume_def.specs.Values.{spot_at}
use Rattle.index_store.specs.Clusters.{record_sectors}
use Rattle.index_store.specs.MftType.{Mft}
use Rattle.index_store.specs.Mft.{stage_of, view}

-- THE ITEM CAME IN THE PLACE of the one with an equal key, where there is one which is as long: of the index of names that stands in the
-- records under this root, and that now stands in the records under the other.
pub record ReplacesItem (order : List ℕ → List ℕ → Ordering) (valid : List ℕ → Bool) (old new : VolumeView) (index : IndexParts)
    (root root' : List ℕ) (item : Item) : Type 0 where
  pub is : Replaces order valid Names (short_node Names root) (short_node Names root') item (index_record_on old index)
      (index_record_on new index)

-- The index of names in these records under this root has the item in the place of the one with an equal key, and all other items as
-- they were.
pub record HasSwapped (order : List ℕ → List ℕ → Ordering) (records : ℕ → Option (List ℕ)) (root : List ℕ) (item : Item)
    (items : List Item) : Type 0 where
  pub node : Node
  pub says : short_node Names root ≡ Some node
  pub next : List Item
  pub walks : Walks (short_nodes Names records) node next
  pub swapped : IsSwapped order item items next

-- The sectors of so many records at most, of an index whose records have these parts, are staged, and no others.
pub record StagesRecords {D : Type 0} (g : Ghosts D) (most : ℕ) (records : List Part) (old new : Mft D g) : Type 0 where
  pub vcns : List ℕ
  pub few : length vcns ≤ most
  pub places : IsTrue (view g old).told
      → StagesOnly g (flat_map (record_sectors (view g old).layout (spot_at records)) vcns) (stage_of g old) (stage_of g new)
