-- The depth of an index, by its first leaf.
use Rattle.std.proofs.Common.{◌≡◌, ◌≢◌, ℕ, zero, suc, ◌+◌, ◌-◌, Some, None, refl, sym, ap, ◌∙◌, arith}
use Rattle.ntfs_def.specs.Node.{Node, child_from}
use Rattle.ntfs_def.specs.IndexTree.{Nodes, Tree, IsStored, child_of, node_of}
use Rattle.check_dirs.specs.Gathered.{IsDepth}
use Rattle.list_laws.proofs.OptionLaws.{none_other, some_same}
use Rattle.index_tree.proofs.IndexTreeLaws.{EachBelow-at, below_at}
use Rattle.check_dirs.proofs.TreeLaws.{child_at_place}

module _ (nodes : Nodes) where
  pub depth_leaf : (level : ℕ) → IsDepth nodes None level (Some 0)
  depth_leaf level = (omega arith, each)
    where
      each : (depth : ℕ) (tree : Tree depth) → child_of depth tree ≡ None → IsStored nodes depth tree → depth ≡ 0
      each zero tree at stored = refl
      each (suc depth) tree at stored = absurd (none_other (sym at))

  pub depth_low : (v level : ℕ) → level ≡ 0 → IsDepth nodes (Some v) level None
  depth_low v level e zero tree small at stored = none_other at
  depth_low v level e (suc depth) tree small at stored = absurd (omega arith)

  pub depth_bare : (v level : ℕ) → nodes v ≡ None → IsDepth nodes (Some v) level None
  depth_bare v level e zero tree small at stored = none_other at
  depth_bare v level e (suc depth) tree small at stored = none_other (sym e ∙ ap nodes (sym (some_same at)) ∙ stored.0)

  module _ (v level : ℕ) (node : Node) (read : nodes v ≡ Some node) (deep : level ≢ 0) where
    node_at : (depth : ℕ) (tree : Tree (suc depth)) → child_of (suc depth) tree ≡ Some v → IsStored nodes (suc depth) tree
        → node_of depth tree.spread ≡ node
    node_at depth tree at stored = some_same (sym stored.0 ∙ ap nodes (some_same at) ∙ read)

    pub depth_none : IsDepth nodes (child_from node.entries node.last 0) (level - 1) None → IsDepth nodes (Some v) level None
    depth_none h zero tree small at stored = none_other at
    depth_none h (suc depth) tree small at stored =
        h depth (below_at tree.spread.branches tree.spread.last 0) (omega arith)
        (child_at_place depth node tree.spread 0 (node_at depth tree at stored))
        (EachBelow-at (IsStored nodes depth) tree.spread.branches tree.spread.last 0 stored.1)

    pub depth_some : (d : ℕ) → IsDepth nodes (child_from node.entries node.last 0) (level - 1) (Some d)
        → IsDepth nodes (Some v) level (Some (d + 1))
    depth_some d h = (omega (arith, h.0), each)
      where
        each : (depth : ℕ) (tree : Tree depth) → child_of depth tree ≡ Some v → IsStored nodes depth tree → depth ≡ d + 1
        each zero tree at stored = absurd (none_other at)
        each (suc depth) tree at stored =
            let e = h.1 depth (below_at tree.spread.branches tree.spread.last 0)
            (child_at_place depth node tree.spread 0 (node_at depth tree at stored))
            (EachBelow-at (IsStored nodes depth) tree.spread.branches tree.spread.last 0 stored.1) in
            omega arith
