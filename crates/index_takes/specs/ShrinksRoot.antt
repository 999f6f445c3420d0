-- THE VALUE OF A ROOT with an entry less.
-- Layout: Linux-NTFS documentation, attribute $INDEX_ROOT, concept "Index Header"; Carrier, File System Forensic Analysis, chapter 13.
use Rattle.std.specs.Prelude.{◌≡◌, ℕ, ◌+◌, ◌<◌, List, length, slice_index, slice_index_or, Some}
use Rattle.ntfs_def.specs.Node.{Entry, Node, node_in}
use Rattle.ntfs_def.specs.declared.index.NodeForm.TheVariants.{Names}
use Rattle.index_node.specs.Edit.{EditsShort, item_len, without_entry}

-- The value of a root, which leads to no record, has entry i no longer: it is shorter by it, and its first sixteen bytes are as they were.
pub record ShrinksRoot (old new : List ℕ) (i : ℕ) : Type 0 where
  pub short : EditsShort Names old new (λ said. without_entry said i)
  pub long : (said : Node) → node_in Names old ≡ Some said
      → (d : Entry) → length new + item_len (slice_index_or said.entries i d).item ≡ length old
  pub head : (k : ℕ) → k < 16 → slice_index new k ≡ slice_index old k
