-- The walk of an index: its items in order, over the tree of nodes that its root and its records hold.
-- Source: Linux-NTFS documentation, concept "B*Trees".
use Rattle.std.specs.Prelude.{◌≡◌, ℕ, zero, suc, ◌+◌, ◌≤◌, ◌==◌, List, [], ◌∷◌, ◌++◌, map, Option, Some, None, if◌then◌else◌}
use Rattle.std.specs.declared.cmp.Ordering.{Ordering}
use Rattle.std.specs.declared.cmp.Ordering.TheVariants.{Less}
use Rattle.ntfs_def.specs.Node.{Item, Entry, Node}

-- the node at each number, `None` where no record can be read
abbrev pub Nodes : Type 0
Nodes = ℕ → Option Node

abbrev pub Each : {X : Type 0} → (X → Type 0) → List X → Type 0
Each P [] = Unit {0}
Each P (x ∷ xs) = P x × Each P xs

-- an item, with the tree below it
pub record Branch (T : Type 0) : Type 0 where
  pub below : T
  pub item : Item

pub record Spread (T : Type 0) : Type 0 where
  pub branches : List (Branch T)
  pub last : T

pub record Vertex (T : Type 0) : Type 0 where
  pub vcn : ℕ
  pub spread : Spread T

-- A tree of this depth. By its type all leaves have one depth; below a leaf is nothing.
abbrev pub Tree : ℕ → Type 0
Tree zero = Unit {0}
Tree (suc depth) = Vertex (Tree depth)

abbrev pub branch_items : {T : Type 0} → (T → List Item) → List (Branch T) → T → List Item
branch_items items [] last = items last
branch_items items (b ∷ bs) last = items b.below ++ b.item ∷ branch_items items bs last

abbrev pub branch_times : {T : Type 0} → (T → ℕ) → List (Branch T) → T → ℕ
branch_times times [] last = times last
branch_times times (b ∷ bs) last = times b.below + branch_times times bs last

abbrev pub EachBelow : {T : Type 0} → (T → Type 0) → List (Branch T) → T → Type 0
EachBelow P [] last = P last
EachBelow P (b ∷ bs) last = P b.below × EachBelow P bs last

-- THE WALK: for each entry the walk of its child and then the entry, and last the walk of the last child
abbrev pub items_of : (depth : ℕ) → Tree depth → List Item
items_of zero tree = []
items_of (suc depth) tree = branch_items (items_of depth) tree.spread.branches tree.spread.last

abbrev pub one_if : ℕ → ℕ → ℕ
one_if place vcn = if place == vcn then 1 else 0

-- how often the tree has the node at this place
abbrev pub times_in : ℕ → (depth : ℕ) → Tree depth → ℕ
times_in place zero tree = 0
times_in place (suc depth) tree =
    one_if place tree.vcn + branch_times (times_in place depth) tree.spread.branches tree.spread.last

abbrev pub child_of : (depth : ℕ) → Tree depth → Option ℕ
child_of zero tree = None
child_of (suc depth) tree = Some tree.vcn

abbrev pub entry_of : (depth : ℕ) → Branch (Tree depth) → Entry
entry_of depth b = record { item = b.item; child = child_of depth b.below }

abbrev pub node_of : (depth : ℕ) → Spread (Tree depth) → Node
node_of depth spread = record { entries = map (entry_of depth) spread.branches; last = child_of depth spread.last }

-- the records hold the tree
abbrev pub IsStored : Nodes → (depth : ℕ) → Tree depth → Type 0
IsStored nodes zero tree = Unit {0}
IsStored nodes (suc depth) tree =
    (nodes tree.vcn ≡ Some (node_of depth tree.spread)) × EachBelow (IsStored nodes depth) tree.spread.branches tree.spread.last

abbrev pub AreStored : Nodes → (depth : ℕ) → Spread (Tree depth) → Type 0
AreStored nodes depth s = EachBelow (IsStored nodes depth) s.branches s.last

abbrev pub spread_items : (depth : ℕ) → Spread (Tree depth) → List Item
spread_items depth s = branch_items (items_of depth) s.branches s.last

abbrev pub spread_times : ℕ → (depth : ℕ) → Spread (Tree depth) → ℕ
spread_times place depth s = branch_times (times_in place depth) s.branches s.last

-- each item is below each later one
abbrev pub Ascends : (List ℕ → List ℕ → Ordering) → List Item → Type 0
Ascends order [] = Unit {0}
Ascends order (x ∷ xs) = Each (λ (y : Item). order x.key y.key ≡ Less) xs × Ascends order xs

-- The records hold this tree under `child`, each of them once.
pub record IsHeld (nodes : Nodes) (depth : ℕ) (tree : Tree depth) (child : Option ℕ) : Type 0 where
  pub at : child_of depth tree ≡ child
  pub stored : IsStored nodes depth tree
  pub once : (place : ℕ) → times_in place depth tree ≤ 1

-- Under a root that says this node, the records hold this spread, each of them once.
pub record HoldsIndex (nodes : Nodes) (root : Node) (depth : ℕ) (s : Spread (Tree depth)) : Type 0 where
  pub node : node_of depth s ≡ root
  pub stored : AreStored nodes depth s
  pub once : (place : ℕ) → spread_times place depth s ≤ 1

-- the most nodes below the root on a way to a leaf
abbrev pub most_depth : ℕ
most_depth = 15

-- THE WALK as a relation: some tree of at most sixteen nodes on a way is held, and its items are these.
pub record Walks (nodes : Nodes) (root : Node) (items : List Item) : Type 0 where
  pub depth : ℕ
  pub small : depth ≤ most_depth
  pub s : Spread (Tree depth)
  pub holds : HoldsIndex nodes root depth s
  pub is : items ≡ spread_items depth s
