use Rattle.std.proofs.Common.{Option, ℕ, sym, subst}
use Rattle.ntfs_def.specs.Node.{short_node}
use Rattle.ntfs_def.specs.declared.index.NodeForm.TheVariants.{Names}
use Rattle.ntfs_def.specs.IndexTree.{node_of}
use Rattle.index_tree.specs.Edit.{short_nodes}
use Rattle.index_tree.proofs.EditMemory.{short_in}
use Rattle.index_puts.specs.Depth.{HasLevels, HasTree}
use Rattle.index_puts.proofs.DepthLaws.{root_levels, root_tree}
use Rattle.index_puts.proofs.depth.depth_under.Goals as goal

pub levels_below-requires-clause-tree : goal.levels_below-requires-clause-tree
levels_below-requires-clause-tree g c = λ r told.
    let has = c.requires.tree r told in
    let said = node_of has.depth has.s in
    subst (λ (child : Option ℕ). HasTree (short_nodes Names r) child 15)
    (sym (c.last_child.ensures said (short_in Names c.args.root.now said has.is)))
    (root_tree (short_nodes Names r) (short_node Names c.args.root.now) said has.is has)

pub returns-clause-depth : goal.returns-clause-depth
returns-clause-depth g c = λ r told has.
    let said = node_of has.depth has.s in
    root_levels (short_nodes Names r) (short_node Names c.args.root.now) said has.is has c.in_ok-below.below
    (subst (λ (child : Option ℕ). HasLevels (short_nodes Names r) child 15 c.in_ok-below.below)
    (c.last_child.ensures said (short_in Names c.args.root.now said has.is)) (c.in_ok-below.ensures.levels r told))
