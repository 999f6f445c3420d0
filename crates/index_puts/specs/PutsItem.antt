-- AN ITEM PUT into the index of a directory, in a record of the index that was there.
use Rattle.std.specs.Prelude.{◌≡◌, ℕ, List, codes}
use Rattle.ntfs_def.specs.KeyOrder.{name_order}
use Rattle.ntfs_def.specs.Node.{Item}
use Rattle.ntfs_def.specs.Units.{wide}
use Rattle.volume_def.specs.CaseClause.{volume_fold}
use Rattle.volume_def.specs.IndexesClause.{index_parts}
use Rattle.volume_def.specs.Values.{spot_at}
use Rattle.volume_def.specs.View.{VolumeView}
use Rattle.volume_edits.specs.Clusters.{ChangesStream}
use Rattle.index_tree.specs.Edit.{IsAbsent, IsPut}
use Rattle.tree_model.specs.IndexRoom.{directory_index, index_depth}
use Rattle.edit_def.specs.Items.{HasItems}

-- Whatever items the directory had in order, none of this key, it has this one more, at its place. Of the volume the clusters of the
-- records of its index alone changed. The index is as deep as it was.
pub record PutsItem (old new : VolumeView) (dir : ℕ) (item : Item) : Type 0 where
  pub items : (was : List Item) → HasItems old dir was → IsAbsent (name_order (volume_fold old)) item.key was
      → (now : List Item) × HasItems new dir now × IsPut (name_order (volume_fold old)) item was now
  pub changes : ChangesStream old new (spot_at (index_parts old dir (wide (codes "$I30"))).records)
  pub depth : index_depth new (directory_index dir) ≡ index_depth old (directory_index dir)
