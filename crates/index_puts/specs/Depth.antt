-- HOW DEEP A TREE IS that records hold.
use Rattle.std.specs.Prelude.{◌≡◌, ℕ, ◌≤◌, Option, Some}
use Rattle.ntfs_def.specs.IndexTree.{AreStored, IsStored, Nodes, Spread, Tree, child_of, node_of}
use Rattle.ntfs_def.specs.Node.{Node}

-- The records hold a tree of at most so many levels under `child`.
pub record HasTree (nodes : Nodes) (child : Option ℕ) (most : ℕ) : Type 0 where
  pub depth : ℕ
  pub small : depth ≤ most
  pub tree : Tree depth
  pub at : child_of depth tree ≡ child
  pub stored : IsStored nodes depth tree

-- whichever tree it is, it has so many
abbrev pub HasLevels : Nodes → Option ℕ → ℕ → ℕ → Type 0
HasLevels nodes child most levels =
    (depth : ℕ) → depth ≤ most → (tree : Tree depth) → child_of depth tree ≡ child → IsStored nodes depth tree → levels ≡ depth

-- the same of what stands under a root
pub record HasTreeUnder (nodes : Nodes) (root : Option Node) : Type 0 where
  pub depth : ℕ
  pub small : depth ≤ 15
  pub s : Spread (Tree depth)
  pub is : root ≡ Some (node_of depth s)
  pub stored : AreStored nodes depth s
