-- THE LEAF of an index as it is read, and what comes into it.
use Rattle.std.specs.Prelude.{◌≡◌, ◌≤◌, ℕ, Bool, false, List, Option, Some, None, IfSome}
use Rattle.std.specs.Option.{option_and_then, option_map, option_map_or}
use Rattle.std.specs.declared.cmp.Ordering.{Ordering}
use Rattle.ntfs_def.specs.IndexTree.{Nodes, Spread, Tree, most_depth, spread_items}
use Rattle.ntfs_def.specs.Node.{Item, Node}
use Rattle.ntfs_def.specs.declared.index.NodeForm.TheVariants.{Names}
use Rattle.volume_def.specs.IndexesClause.{IndexParts}
use Rattle.volume_def.specs.View.{VolumeView}
use Rattle.index_node.specs.declared.blocks.BlockNo.{BlockNo}
use Rattle.index_node.specs.declared.blocks.BlockNo.TheVariants as block_no
use Rattle.index_tree.specs.Edit.{IsAbsent, IsPut, IsSortedIndex, SeeksNode, short_nodes}
use Rattle.file_record.specs.declared.error.FileNo.{FileNo}
use Rattle.file_record.specs.declared.error.FileNo.TheVariants as file_no
use Rattle.entry_edits.specs.IndexRecords.{index_record_on}
use Rattle.index_puts.specs.declared.leaf.Leaf.{Leaf}
use Rattle.tree_model.specs.LeafRoom.{has_room, leaf_of}

-- The leaf is the record of this number, and these are its bytes; or there is none.
pub record ReadsLeaf (records : ℕ → Option (List ℕ)) (number : Option ℕ) (leaf : Option Leaf) (block : List ℕ) : Type 0 where
  pub is : option_map (λ (it : Leaf). it.vcn) leaf ≡ number
  pub bytes : IfSome leaf (λ it. records it.vcn ≡ Some block)

-- The search ends in these bytes, at the leaf's place: it leads to no child.
abbrev pub EndsIn : (List ℕ → List ℕ → Ordering) → List ℕ → List ℕ → Leaf → Type 0
EndsIn order key block it = SeeksNode order Names block key it.place it.hit None

-- whether the leaf has so many bytes behind its last entry
abbrev pub room_under : (List ℕ → Ordering) → (ℕ → Option (List ℕ)) → Option Node → ℕ → Bool
room_under side records root len =
    option_map_or (has_room len) (option_and_then records (leaf_of side (short_nodes Names records) root)) false

-- THE ITEM CAME INTO THE LEAF: the tree under the root is as deep as it was, and in order still.
pub record PutUnder (order : List ℕ → List ℕ → Ordering) (valid : List ℕ → Bool) (nodes : Nodes) (depth : ℕ) (s : Spread (Tree depth))
    (item : Item) (root : Node) : Type 0 where
  pub s' : Spread (Tree depth)
  pub index : IsSortedIndex order valid nodes depth s' root
  pub put : IsPut order item (spread_items depth s) (spread_items depth s')

-- .. into whatever index in order stood under the root, of at most sixteen nodes on a way, without an item of its key
abbrev pub PutsUnder : (List ℕ → List ℕ → Ordering) → (List ℕ → Bool) → Option Node → Item → (ℕ → Option (List ℕ))
    → (ℕ → Option (List ℕ)) → Type 0
PutsUnder order valid root item records records' =
    (node : Node) → root ≡ Some node → (depth : ℕ) → depth ≤ most_depth → (s : Spread (Tree depth))
    → IsSortedIndex order valid (short_nodes Names records) depth s node → IsAbsent order item.key (spread_items depth s)
    → PutUnder order valid (short_nodes Names records') depth s item node

-- .. of the index of a volume that has these parts
pub record PutsInto (order : List ℕ → List ℕ → Ordering) (valid : List ℕ → Bool) (old new : VolumeView) (index : IndexParts)
    (root : Option Node) (item : Item) : Type 0 where
  pub is : PutsUnder order valid root item (index_record_on old index) (index_record_on new index)

-- why a directory was not read, by why a record of its index was not
abbrev pub file_no_of : BlockNo → FileNo
file_no_of block_no.Device = file_no.Device
file_no_of block_no.NoRoom = file_no.Memory
file_no_of block_no.Memory = file_no.Memory
