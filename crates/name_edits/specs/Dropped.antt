-- WHICH LINKS GO with one, of a tree and of the names of its file.
use Rattle.std.specs.Prelude.{◌≡◌, List, Contains}
use Rattle.std.specs.List.{list_any}
use Rattle.tree_model.specs.Drops.{goes_with, is_link}
use Rattle.tree_model.specs.Tree.{Tree}
use Rattle.tree_model.specs.declared.tree.Link.{Link}

-- They are the links of the tree that go with this one.
abbrev pub AreDropped : Tree → Link → List Link → Type 0
AreDropped tree link gone =
    (other : Link) → Contains tree.links other → goes_with tree link other ≡ list_any (λ one. is_link one other) gone
