-- Nodes of a new volume's indexes, and the trees below their roots.
use Rattle.std.specs.Prelude.{List, [], map, Some, None}
use Rattle.ntfs_def.specs.Node.{Entry, Item, Node}
use Rattle.ntfs_def.specs.IndexTree.{Branch, Spread, Tree}
use Rattle.volume_format.specs.IndexItems.{root_items}

-- a node without children, and a node without names above the index record 0
abbrev pub leaf_entry : Item → Entry
leaf_entry item = record { item = item; child = None }

abbrev pub leaf : List Item → Node
leaf items = record { entries = map leaf_entry items; last = None }

abbrev pub above : Node
above = record { entries = []; last = Some 0 }

-- the trees
abbrev pub leaf_branch : Item → Branch (Tree 0)
leaf_branch item = record { below = tt; item = item }

abbrev pub leaf_spread : List Item → Spread (Tree 0)
leaf_spread items = record { branches = map leaf_branch items; last = tt }

abbrev pub root_spread : Spread (Tree 1)
root_spread = record { branches = []; last = record { vcn = 0; spread = leaf_spread root_items } }
