-- AN ENTRY EXITS THE ROOT of the index of a directory without records, whose value gets shorter in the record of the directory.
-- Layout: Linux-NTFS documentation, attribute $INDEX_ROOT, concept "B*Trees"; Carrier, File System Forensic Analysis, chapter 13.
use Rattle.std.specs.Prelude.{◌≡◌, ℕ, ◌<◌, ◌≤◌, List, length, slice_index}
use Rattle.ntfs_def.specs.KeyOrder.{name_order}
use Rattle.ntfs_def.specs.Node.{Item}
use Rattle.volume_def.specs.CaseClause.{volume_fold}
use Rattle.volume_def.specs.View.{VolumeView}
use Rattle.file_record.specs.Attributes.{ChangesValue}
use Rattle.index_tree.specs.Remove.{CutsKey}
use Rattle.tree_model.specs.IndexRoom.{directory_index, index_depth}
use Rattle.edit_def.specs.Items.{HasItems}
use Rattle.record_calls.specs.Calls.{IsInOneRecord}
use Rattle.index_puts.specs.PutsRoot.{IsRootAt}

-- Whatever items the directory had in order, there is one of this key among them, and it has all others now, in order. Of the volume one
-- value alone changed, the root, which is no longer than it was, and has its first sixteen bytes. The index got no deeper.
pub record TakesRootItem (old new : VolumeView) (dir : ℕ) (key : List ℕ) : Type 0 where
  pub items : (was : List Item) → HasItems old dir was
      → (now : List Item) × HasItems new dir now × CutsKey (name_order (volume_fold old)) key was now
  pub holder : ℕ
  pub at : ℕ
  pub before : List ℕ
  pub after : List ℕ
  pub is_root : IsRootAt old dir holder at before
  pub long : 16 ≤ length after
  pub shorter : length after ≤ length before
  pub head : (k : ℕ) → k < 16 → slice_index after k ≡ slice_index before k
  pub sets : ChangesValue old new holder at (λ value. after)
  pub depth : index_depth new (directory_index dir) ≤ index_depth old (directory_index dir)

-- OUT OF THE ROOT, where the directory has one record, which may be edited.
pub record ExitsRoot (old new : VolumeView) (dir : ℕ) (key : List ℕ) : Type 0 where
  pub takes : TakesRootItem old new dir key
  pub one : IsInOneRecord old dir
