use Rattle.std.proofs.Common.{◌≡◌, ℕ, List, [], ◌∷◌, Option, Some, None, refl, sym, subst, arith}
use Rattle.ntfs_def.specs.declared.index.NodeForm.TheVariants.{View}
use Rattle.ntfs_def.specs.Node.{Node, child_at, is_last_entry, node_header, node_in, scan_node}
use Rattle.ntfs_def.specs.IndexTree.{Nodes}
use Rattle.index_tree.specs.Search.{nodes_of}
use Rattle.index_tree.specs.Walk.{HasWalk}
use Rattle.index_tests.proofs.trees.contents_told.Goals as goal

abbrev bare : Node
bare = record { entries = []; last = None }

-- a root without an entry and without a child has a walk
bare_walk : (nodes : Nodes) (root : Option Node) → root ≡ Some bare → HasWalk nodes root
bare_walk nodes root is = record {
  node = bare;
  is = is;
  items = [];
  walks = record {
    depth = 0;
    small = omega arith;
    s = record { branches = []; last = tt };
    holds = record { node = refl; stored = tt; once = λ place. omega arith };
    is = refl;
  };
}

abbrev root_bytes : List ℕ
root_bytes =
    0 ∷ 0 ∷ 0 ∷ 0 ∷ 18 ∷ 0 ∷ 0 ∷ 0 ∷ 0 ∷ 16 ∷ 0 ∷ 0 ∷ 1 ∷ 0 ∷ 0 ∷ 0 ∷ 16 ∷ 0 ∷ 0 ∷ 0 ∷ 32 ∷ 0 ∷ 0 ∷ 0
    ∷ 32 ∷ 0 ∷ 0 ∷ 0 ∷ 0 ∷ 0 ∷ 0 ∷ 0 ∷ 0 ∷ 0 ∷ 0 ∷ 0 ∷ 0 ∷ 0 ∷ 0 ∷ 0 ∷ 16 ∷ 0 ∷ 0 ∷ 0 ∷ 2 ∷ 0 ∷ 0 ∷ 0 ∷ []

root_is : node_in View root_bytes ≡ Some bare
unfolding scan_node node_header is_last_entry child_at
root_is = refl

pub walk-requires : goal.walk-requires
walk-requires g c = record {
  ready = tt;
  index = λ r e. subst (λ form. HasWalk (nodes_of form r) (node_in form root_bytes)) (sym c.new-index.ensures.form)
      (bare_walk (nodes_of View r) (node_in View root_bytes) root_is);
}
