-- What a walk of an index gives.
use Rattle.std.specs.Prelude.{◌≡◌, ℕ, zero, suc, ◌+◌, ◌*◌, ◌≤◌, List, ◌++◌, map, Option, Some}
use Rattle.ntfs_def.specs.Node.{Item, Node, item_in}
use Rattle.ntfs_def.specs.IndexTree.{Nodes, Spread, Tree, branch_times, items_of, IsHeld, HoldsIndex, Walks, spread_items}

-- THE CONDITION of a walk: the root says a node, and under it is an index of at most sixteen nodes on a way.
pub record HasWalk (nodes : Nodes) (root : Option Node) : Type 0 where
  pub node : Node
  pub is : root ≡ Some node
  pub items : List Item
  pub walks : Walks nodes node items

-- what the bytes of entries say
abbrev pub items_in : List (List ℕ) → List Item
items_in entries = map item_in entries

-- THE ANSWER: the entries are those of the walk, in order
abbrev pub IsWalk : Nodes → Option Node → List (List ℕ) → Type 0
IsWalk nodes root entries = (node : Node) → root ≡ Some node → (items : List Item) → Walks nodes node items → items_in entries ≡ items

-- the records of a tree, and of what stands under a root
abbrev pub record_count : (depth : ℕ) → Tree depth → ℕ
record_count zero tree = 0
record_count (suc depth) tree = 1 + branch_times (record_count depth) tree.spread.branches tree.spread.last

abbrev pub index_records : (depth : ℕ) → Spread (Tree depth) → ℕ
index_records depth s = branch_times (record_count depth) s.branches s.last

-- THE COST: a count rises by at most so much a record
abbrev pub CostsWalk : ℕ → Nodes → Option Node → ℕ → ℕ → Type 0
CostsWalk most nodes root before after =
    (node : Node) → root ≡ Some node → (depth : ℕ) (s : Spread (Tree depth)) → HoldsIndex nodes node depth s
    → after ≤ before + most * index_records depth s

-- Of a part of an index.

-- Some tree of at most so many levels is held under `child`, or under a node.
pub record HasTree (nodes : Nodes) (child : Option ℕ) (level : ℕ) : Type 0 where
  pub depth : ℕ
  pub small : depth ≤ level
  pub tree : Tree depth
  pub held : IsHeld nodes depth tree child

pub record HasSpread (nodes : Nodes) (node : Node) (level : ℕ) : Type 0 where
  pub depth : ℕ
  pub small : depth ≤ level
  pub s : Spread (Tree depth)
  pub holds : HoldsIndex nodes node depth s

-- The walk of whatever tree is held there was put behind the entries that stood there.
abbrev pub WalksTree : Nodes → Option ℕ → List (List ℕ) → List (List ℕ) → Type 0
WalksTree nodes child old new =
    (depth : ℕ) (tree : Tree depth) → IsHeld nodes depth tree child → items_in new ≡ items_in old ++ items_of depth tree

abbrev pub WalksNode : Nodes → Node → List (List ℕ) → List (List ℕ) → Type 0
WalksNode nodes node old new =
    (depth : ℕ) (s : Spread (Tree depth)) → HoldsIndex nodes node depth s → items_in new ≡ items_in old ++ spread_items depth s

-- and a count rose by at most so much a record
abbrev pub CostsTree : ℕ → Nodes → Option ℕ → ℕ → ℕ → Type 0
CostsTree most nodes child before after =
    (depth : ℕ) (tree : Tree depth) → IsHeld nodes depth tree child → after ≤ before + most * record_count depth tree

abbrev pub CostsNode : ℕ → Nodes → Node → ℕ → ℕ → Type 0
CostsNode most nodes node before after =
    (depth : ℕ) (s : Spread (Tree depth)) → HoldsIndex nodes node depth s → after ≤ before + most * index_records depth s
