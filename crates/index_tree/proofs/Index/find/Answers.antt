use Rattle.std.proofs.Common.{ℕ, List, ap, sym, subst}
use Rattle.std.specs.declared.cmp.Ordering.{Ordering}
use Rattle.ntfs_def.specs.Node.{Node, node_in, whole_of}
use Rattle.index_node.specs.View.{node_of_view, number_of}
use Rattle.index_tree.specs.Search.{nodes_of}
use Rattle.index_tree.specs.Search.{CostsBelow, FindsBelow, HasRising}
use Rattle.index_tree.proofs.Rising.{root_keys, root_firsts, root_reads, root_has}
use Rattle.index_tree.proofs.PlaceLaws.{child_in, picks_in, picks_or}
use Rattle.index_tree.proofs.Index.find.Goals as goal

pub returns-in_default-seek_in-clause-found : goal.returns-in_default-seek_in-clause-found
returns-in_default-seek_in-clause-found g c r e =
    let side : List ℕ → Ordering = λ x. g.C.Collation.order c.args.self.now.order x c.args.key.now in
    let valid = g.C.Collation.valid c.args.self.now.order in
    let nodes = nodes_of c.args.self.now.form r in
    let root = node_in c.args.self.now.form c.args.root.now in
    let n : Node = node_of_view c.in-Ok.node in
    let is = ap whole_of c.in-Ok.ensures.ok in
    absurd (c.in_default-seek_in.ensures.place (root_keys side valid nodes root n is (c.requires.index r e)))

pub first_below-requires-clause-tree : goal.first_below-requires-clause-tree
first_below-requires-clause-tree g c r e =
    let side : List ℕ → Ordering = λ x. g.C.Collation.order c.args.self.now.order x c.args.key.now in
    let valid = g.C.Collation.valid c.args.self.now.order in
    let nodes = nodes_of c.args.self.now.form r in
    let root = node_in c.args.self.now.form c.args.root.now in
    let n : Node = node_of_view c.in-Ok.node in
    let child = child_in _ _ c.in-Some.ensures.view _ c.child.result c.child.ensures in
    let is = ap whole_of c.in-Ok.ensures.ok in
    subst (λ x. HasRising side valid nodes x 15) (sym child)
    (root_has side valid nodes root n is (number_of c.in-Some.place) c.in-Some.hit c.in-Some.ensures.place (c.requires.index r e))

pub returns-in_err-below-clause-fetched : goal.returns-in_err-below-clause-fetched
returns-in_err-below-clause-fetched g c r e =
    let side : List ℕ → Ordering = λ x. g.C.Collation.order c.args.self.now.order x c.args.key.now in
    let valid = g.C.Collation.valid c.args.self.now.order in
    let nodes = nodes_of c.args.self.now.form r in
    let root = node_in c.args.self.now.form c.args.root.now in
    let n : Node = node_of_view c.in-Ok.node in
    let child = child_in _ _ c.in-Some.ensures.view _ c.child.result c.child.ensures in
    let is = ap whole_of c.in-Ok.ensures.ok in
    root_reads side valid nodes root n is (number_of c.in-Some.place) c.in-Some.hit c.in-Some.ensures.place 8 _ _
    (subst (λ b. CostsBelow 8 side valid nodes b (g.B.Blocks.fetched c.args.blocks.now)
    (g.B.Blocks.fetched c.first_below.new.blocks)) child (c.first_below.ensures.fetched r e))

pub returns-clause-fetched : goal.returns-clause-fetched
returns-clause-fetched g c r e =
    let side : List ℕ → Ordering = λ x. g.C.Collation.order c.args.self.now.order x c.args.key.now in
    let valid = g.C.Collation.valid c.args.self.now.order in
    let nodes = nodes_of c.args.self.now.form r in
    let root = node_in c.args.self.now.form c.args.root.now in
    let n : Node = node_of_view c.in-Ok.node in
    let child = child_in _ _ c.in-Some.ensures.view _ c.child.result c.child.ensures in
    let is = ap whole_of c.in-Ok.ensures.ok in
    root_reads side valid nodes root n is (number_of c.in-Some.place) c.in-Some.hit c.in-Some.ensures.place 8 _ _
    (subst (λ b. CostsBelow 8 side valid nodes b (g.B.Blocks.fetched c.args.blocks.now)
    (g.B.Blocks.fetched c.first_below.new.blocks)) child (c.first_below.ensures.fetched r e))

pub returns-clause-found : goal.returns-clause-found
returns-clause-found g c r e =
    let side : List ℕ → Ordering = λ x. g.C.Collation.order c.args.self.now.order x c.args.key.now in
    let valid = g.C.Collation.valid c.args.self.now.order in
    let nodes = nodes_of c.args.self.now.form r in
    let root = node_in c.args.self.now.form c.args.root.now in
    let n : Node = node_of_view c.in-Ok.node in
    let is = ap whole_of c.in-Ok.ensures.ok in
    let place = c.in-Some.place in
    let hit = c.in-Some.hit in
    let child = child_in _ _ c.in-Some.ensures.view _ c.child.result c.child.ensures in
    let here = picks_in _ _ c.in-Some.ensures.view (number_of place) hit c.in_ok-here.here c.in_ok-here.ensures.picks in
    let picks = picks_or c.in_ok-below.below c.in_ok-here.here c.or.result hit n.entries (number_of place) here c.or.ensures in
    root_firsts side valid nodes root n is (number_of place) hit c.in-Some.ensures.place
    c.in_ok-below.below (subst (λ b. FindsBelow side valid nodes b c.in_ok-below.below) child
    (c.in_ok-below.ensures.found r e)) c.or.result picks

pub returns-in_err-below-clause-reads : goal.returns-in_err-below-clause-reads
returns-in_err-below-clause-reads g c r e =
    let side : List ℕ → Ordering = λ x. g.C.Collation.order c.args.self.now.order x c.args.key.now in
    let valid = g.C.Collation.valid c.args.self.now.order in
    let nodes = nodes_of c.args.self.now.form r in
    let root = node_in c.args.self.now.form c.args.root.now in
    let n : Node = node_of_view c.in-Ok.node in
    let child = child_in _ _ c.in-Some.ensures.view _ c.child.result c.child.ensures in
    let is = ap whole_of c.in-Ok.ensures.ok in
    root_reads side valid nodes root n is (number_of c.in-Some.place) c.in-Some.hit c.in-Some.ensures.place 1 _ _
    (subst (λ b. CostsBelow 1 side valid nodes b (g.B.Blocks.reads c.args.blocks.now)
    (g.B.Blocks.reads c.first_below.new.blocks)) child (c.first_below.ensures.reads r e))

pub returns-clause-reads : goal.returns-clause-reads
returns-clause-reads g c r e =
    let side : List ℕ → Ordering = λ x. g.C.Collation.order c.args.self.now.order x c.args.key.now in
    let valid = g.C.Collation.valid c.args.self.now.order in
    let nodes = nodes_of c.args.self.now.form r in
    let root = node_in c.args.self.now.form c.args.root.now in
    let n : Node = node_of_view c.in-Ok.node in
    let child = child_in _ _ c.in-Some.ensures.view _ c.child.result c.child.ensures in
    let is = ap whole_of c.in-Ok.ensures.ok in
    root_reads side valid nodes root n is (number_of c.in-Some.place) c.in-Some.hit c.in-Some.ensures.place 1 _ _
    (subst (λ b. CostsBelow 1 side valid nodes b (g.B.Blocks.reads c.args.blocks.now)
    (g.B.Blocks.reads c.first_below.new.blocks)) child (c.first_below.ensures.reads r e))
