-- What a search in an index finds. `side x` says on which side of what is sought the key x stands; where several keys may
-- be equal to it, as by folded names, the first of them is found.
use Rattle.std.specs.Prelude.{◌≡◌, ℕ, ◌+◌, ◌*◌, ◌≤◌, Bool, true, false, List, [], ◌∷◌, ◌++◌, slice_index_or, Option, Some, None, IsTrue}
use Rattle.std.specs.Option.{option_and_then}
use Rattle.std.specs.declared.cmp.Ordering.{Ordering}
use Rattle.std.specs.declared.cmp.Ordering.TheVariants.{Less, Equal, Greater}
use Rattle.ntfs_def.specs.Node.{Item, Entry, Node, IsOwnEntry, item_in, node_in}
use Rattle.ntfs_def.specs.IndexTree.{Nodes, Each, Spread, Tree, items_of, IsHeld, HoldsIndex, spread_items, most_depth}
use Rattle.ntfs_def.specs.declared.index.NodeForm.{NodeForm}

-- the nodes that opened records say
abbrev pub nodes_of : NodeForm → (ℕ → Option (List ℕ)) → Nodes
nodes_of form records vcn = option_and_then (node_in form) (records vcn)

-- Keys in order, as a search needs them.

-- What stands before a key below it is below it, and what stands behind a key above it is above it.
pub record IsBefore (a b : Ordering) : Type 0 where
  pub low : b ≡ Less → a ≡ Less
  pub high : a ≡ Greater → b ≡ Greater

-- first all keys below it, then all equal ones, then all above it
abbrev pub Rises : (List ℕ → Ordering) → List Item → Type 0
Rises side [] = Unit {0}
Rises side (x ∷ xs) = Each (λ (y : Item). IsBefore (side x.key) (side y.key)) xs × Rises side xs

-- A tree under `child` with valid keys, in this order.
pub record IsRising (side : List ℕ → Ordering) (valid : List ℕ
    → Bool) (nodes : Nodes) (depth : ℕ) (tree : Tree depth) (child : Option ℕ) : Type 0 where
  pub held : IsHeld nodes depth tree child
  pub keys : Each (λ (x : Item). IsTrue (valid x.key)) (items_of depth tree)
  pub rises : Rises side (items_of depth tree)

-- the same of what stands under a root that says this node
pub record IsRisingIndex (side : List ℕ → Ordering) (valid : List ℕ
    → Bool) (nodes : Nodes) (depth : ℕ) (s : Spread (Tree depth)) (root : Node) : Type 0 where
  pub holds : HoldsIndex nodes root depth s
  pub keys : Each (λ (x : Item). IsTrue (valid x.key)) (spread_items depth s)
  pub rises : Rises side (spread_items depth s)

-- Some tree of at most so many levels is one.
pub record HasRising (side : List ℕ → Ordering) (valid : List ℕ → Bool) (nodes : Nodes) (child : Option ℕ) (level : ℕ) : Type 0 where
  pub depth : ℕ
  pub small : depth ≤ level
  pub tree : Tree depth
  pub rising : IsRising side valid nodes depth tree child

-- THE CONDITION of a search: the root says a node, and under it is such an index, of at most sixteen nodes on a way.
pub record HasRisingIndex (side : List ℕ → Ordering) (valid : List ℕ → Bool) (nodes : Nodes) (root : Option Node) : Type 0 where
  pub node : Node
  pub is : root ≡ Some node
  pub depth : ℕ
  pub small : depth ≤ most_depth
  pub s : Spread (Tree depth)
  pub index : IsRisingIndex side valid nodes depth s node

-- What is found.

abbrev pub NoneEqual : (List ℕ → Ordering) → List Item → Type 0
NoneEqual side = Each (λ (y : Item). side y.key ≡ Equal → ⊥)

-- the first equal item
pub record IsFirst (side : List ℕ → Ordering) (items : List Item) (x : Item) : Type 0 where
  pub front : List Item
  pub back : List Item
  pub whole : items ≡ front ++ (x ∷ back)
  pub equal : side x.key ≡ Equal
  pub first : NoneEqual side front

-- the bytes of the entry of the first equal item; `None` exactly where no item is equal
abbrev pub IsFirstFound : (List ℕ → Ordering) → List Item → Option (List ℕ) → Type 0
IsFirstFound side items None = NoneEqual side items
IsFirstFound side items (Some entry) = IsFirst side items (item_in entry)

-- the bytes are one entry, and its key is valid
pub record IsKeyed (form : NodeForm) (valid : List ℕ → Bool) (entry : List ℕ) : Type 0 where
  pub own : IsOwnEntry form entry
  pub key : IsTrue (valid (item_in entry).key)

-- among the items of whatever tree is held under `child`
abbrev pub FindsBelow : (List ℕ → Ordering) → (List ℕ → Bool) → Nodes → Option ℕ → Option (List ℕ) → Type 0
FindsBelow side valid nodes child found =
    (depth : ℕ) (tree : Tree depth) → IsRising side valid nodes depth tree child → IsFirstFound side (items_of depth tree) found

-- THE ANSWER of a search: among the items of the index under the root
abbrev pub Finds : (List ℕ → Ordering) → (List ℕ → Bool) → Nodes → Option Node → Option (List ℕ) → Type 0
Finds side valid nodes root found =
    (node : Node) → root ≡ Some node → (depth : ℕ) (s : Spread (Tree depth)) → IsRisingIndex side valid nodes depth s node
    → IsFirstFound side (spread_items depth s) found

-- A count rises by at most so much a level.
abbrev pub CostsBelow : ℕ → (List ℕ → Ordering) → (List ℕ → Bool) → Nodes → Option ℕ → ℕ → ℕ → Type 0
CostsBelow most side valid nodes child before after =
    (depth : ℕ) (tree : Tree depth) → IsRising side valid nodes depth tree child → after ≤ before + most * depth

-- THE COST of a search: so much a level below the root
abbrev pub Costs : ℕ → (List ℕ → Ordering) → (List ℕ → Bool) → Nodes → Option Node → ℕ → ℕ → Type 0
Costs most side valid nodes root before after =
    (node : Node) → root ≡ Some node → (depth : ℕ) (s : Spread (Tree depth)) → IsRisingIndex side valid nodes depth s node
    → after ≤ before + most * depth

-- In a node.

-- what was found below, or else the entry at place i, where it is hit
abbrev pub Picks : Option (List ℕ) → Bool → List Entry → ℕ → Option (List ℕ) → Type 0
Picks (Some entry) hit entries i found = found ≡ Some entry
Picks None true entries i None = ⊥
Picks None true entries i (Some entry) = (d : Entry) → item_in entry ≡ (slice_index_or entries i d).item
Picks None false entries i found = found ≡ None
