-- WHAT IS TAKEN OUT OF THE LEAF of an index in which a search ends.
use Rattle.std.specs.Prelude.{◌≡◌, ◌≤◌, ℕ, Bool, false, List, Option, Some}
use Rattle.std.specs.Option.{option_and_then, option_map_or}
use Rattle.std.specs.declared.cmp.Ordering.{Ordering}
use Rattle.ntfs_def.specs.IndexTree.{Nodes, Spread, Tree, most_depth, spread_items}
use Rattle.ntfs_def.specs.Node.{Node}
use Rattle.ntfs_def.specs.declared.index.NodeForm.TheVariants.{Names}
use Rattle.volume_def.specs.IndexesClause.{IndexParts}
use Rattle.volume_def.specs.View.{VolumeView}
use Rattle.index_tree.specs.Edit.{IsSortedIndex, KeepsKeyed, short_nodes}
use Rattle.index_tree.specs.Remove.{CutsKey}
use Rattle.entry_edits.specs.IndexRecords.{index_record_on}
use Rattle.tree_model.specs.LeafRoom.{leaf_of}
use Rattle.tree_model.specs.LeafEntry.{has_entry_beside}

-- whether the leaf has an entry of the key beside another one
abbrev pub entry_under : (List ℕ → Ordering) → (ℕ → Option (List ℕ)) → Option Node → Bool
entry_under side records root =
    option_map_or (has_entry_beside side) (option_and_then records (leaf_of side (short_nodes Names records) root)) false

-- THE ITEM WENT OUT OF THE LEAF: the tree under the root is as deep as it was, and in order still.
pub record TakenUnder (order : List ℕ → List ℕ → Ordering) (valid : List ℕ → Bool) (nodes : Nodes) (depth : ℕ) (s : Spread (Tree depth))
    (key : List ℕ) (root : Node) : Type 0 where
  pub s' : Spread (Tree depth)
  pub index : IsSortedIndex order valid nodes depth s' root
  pub cut : CutsKey order key (spread_items depth s) (spread_items depth s')

-- .. of whatever index in order stood under the root, of at most sixteen nodes on a way. Each node is as it was, or has a key.
pub record TakesUnder (order : List ℕ → List ℕ → Ordering) (valid : List ℕ → Bool) (root : Option Node) (key : List ℕ)
    (records records' : ℕ → Option (List ℕ)) : Type 0 where
  pub under : (node : Node) → root ≡ Some node → (depth : ℕ) → depth ≤ most_depth → (s : Spread (Tree depth))
      → IsSortedIndex order valid (short_nodes Names records) depth s node
      → TakenUnder order valid (short_nodes Names records') depth s key node
  pub keyed : KeepsKeyed (short_nodes Names records) (short_nodes Names records')

-- .. of the index of a volume that has these parts
abbrev pub TakesFrom : (List ℕ → List ℕ → Ordering) → (List ℕ → Bool) → VolumeView → VolumeView → IndexParts → Option Node → List ℕ → Type 0
TakesFrom order valid old new index root key =
    TakesUnder order valid root key (index_record_on old index) (index_record_on new index)
