-- AN ITEM TAKEN OUT of the index of a directory, of a record of the index that has another one.
use Rattle.std.specs.Prelude.{◌≡◌, ℕ, List}
use Rattle.ntfs_def.specs.KeyOrder.{name_order}
use Rattle.ntfs_def.specs.Node.{Item}
use Rattle.ntfs_def.specs.declared.index.NodeForm.TheVariants.{Names}
use Rattle.volume_def.specs.CaseClause.{volume_fold}
use Rattle.volume_def.specs.Values.{spot_at}
use Rattle.volume_def.specs.View.{VolumeView}
use Rattle.volume_edits.specs.Clusters.{ChangesStream}
use Rattle.index_tree.specs.Edit.{KeepsKeyed, short_nodes}
use Rattle.index_tree.specs.Remove.{CutsKey}
use Rattle.entry_edits.specs.IndexRecords.{index_record_on}
use Rattle.tree_model.specs.IndexRoom.{directory_index, index_depth}
use Rattle.tree_model.specs.LeafRoom.{names_of_directory}
use Rattle.edit_def.specs.Items.{HasItems}

-- Whatever items the directory had in order, there is one of this key among them, and it has all others now, in order. Of the volume the
-- clusters of the records of its index alone changed. The index is as deep as it was, and each record of it is as it was, or has an entry
-- with a key.
pub record TakesItem (old new : VolumeView) (dir : ℕ) (key : List ℕ) : Type 0 where
  pub items : (was : List Item) → HasItems old dir was
      → (now : List Item) × HasItems new dir now × CutsKey (name_order (volume_fold old)) key was now
  pub changes : ChangesStream old new (spot_at (names_of_directory old dir).records)
  pub depth : index_depth new (directory_index dir) ≡ index_depth old (directory_index dir)
  pub keyed : KeepsKeyed (short_nodes Names (index_record_on old (names_of_directory old dir)))
      (short_nodes Names (index_record_on new (names_of_directory new dir)))
