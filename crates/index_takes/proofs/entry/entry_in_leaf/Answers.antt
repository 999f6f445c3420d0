use Rattle.std.proofs.Common.{ℕ, List, Option, sym, ap, subst, ◌∙◌}
use Rattle.std.specs.Prelude.{◌&&◌, IfSome}
use Rattle.ntfs_def.specs.Node.{short_node}
use Rattle.ntfs_def.specs.declared.index.NodeForm.TheVariants.{Names}
use Rattle.index_tree.specs.Edit.{short_nodes}
use Rattle.tree_model.specs.LeafRoom.{leaf_of}
use Rattle.index_puts.specs.declared.leaf.Leaf.{Leaf}
use Rattle.index_puts.specs.Leaf.{EndsIn, ReadsLeaf}
use Rattle.index_takes.proofs.TakeSteps.{leaf-entry, leaf-missed, no-leaf}
use Rattle.index_takes.proofs.entry.entry_in_leaf.Goals as goal

pub returns-then-leaf-clause-entry : goal.returns-then-leaf-clause-entry
returns-then-leaf-clause-entry g c = λ r told.
    let order = g.C.Collation.order c.args.order.now in
    let side : List ℕ → _ = λ x. order x c.args.key.now in
    let root = short_node Names c.args.root.now in
    let block = c.find_leaf.new.block in
    ap (λ hit. hit && c.has_two.result) (sym c.if-leaf.true)
    ∙ leaf-entry order c.args.key.now r root block c.in-Some.leaf
    (subst (λ (leaf : Option Leaf). ReadsLeaf r (leaf_of side (short_nodes Names r) root) leaf block) c.in-Some.is
    (c.in_ok-leaf.ensures.leaf r told))
    (subst (λ (leaf : Option Leaf). IfSome leaf (EndsIn order c.args.key.now block)) c.in-Some.is c.in_ok-leaf.ensures.ends)
    c.has_two.result c.has_two.ensures

pub returns-else-leaf-clause-entry : goal.returns-else-leaf-clause-entry
returns-else-leaf-clause-entry g c = λ r told.
    let order = g.C.Collation.order c.args.order.now in
    let side : List ℕ → _ = λ x. order x c.args.key.now in
    let root = short_node Names c.args.root.now in
    let block = c.find_leaf.new.block in
    leaf-missed order c.args.key.now r root block c.in-Some.leaf
    (subst (λ (leaf : Option Leaf). ReadsLeaf r (leaf_of side (short_nodes Names r) root) leaf block) c.in-Some.is
    (c.in_ok-leaf.ensures.leaf r told))
    (subst (λ (leaf : Option Leaf). IfSome leaf (EndsIn order c.args.key.now block)) c.in-Some.is c.in_ok-leaf.ensures.ends)
    c.if-leaf.false

pub returns-in-None-clause-entry : goal.returns-in-None-clause-entry
returns-in-None-clause-entry g c = λ r told.
    let order = g.C.Collation.order c.args.order.now in
    let side : List ℕ → _ = λ x. order x c.args.key.now in
    let root = short_node Names c.args.root.now in
    no-leaf order c.args.key.now r root c.find_leaf.new.block
    (subst (λ (leaf : Option Leaf). ReadsLeaf r (leaf_of side (short_nodes Names r) root) leaf c.find_leaf.new.block) c.in-None.is
    (c.in_ok-leaf.ensures.leaf r told))
