use Rattle.std.proofs.Common.{◌≡◌, None, sym, subst, true, false}
use Rattle.std.specs.Prelude.{IsTrue}
use Rattle.ntfs_def.specs.Node.{Node}
use Rattle.index_node.specs.View.{bytes_of, form_of_view, node_of_view}
use Rattle.index_tree.specs.Walk.{items_in}
use Rattle.check_dirs.specs.Entries.{AreOrdered, AreWhole}
use Rattle.check_dirs.specs.Gathered.{IsTheWalk, TellsWalk}
use Rattle.check_dirs.specs.OrderedIndex.{key_rule}
use Rattle.check_dirs.specs.Records.{short_nodes}
use Rattle.check_dirs.proofs.IndexLaws.{an_index, no_fields, no_node, no_order, no_walk, root_len}
use Rattle.check_dirs.proofs.OrderLaws.{whole_from_own}
use Rattle.check_dirs.proofs.ReadLaws.{is_long, is_short, refused}
use Rattle.check_dirs.proofs.check.check_index.Goals as goal

pub returns-in_default-clause-index : goal.returns-in_default-clause-index
returns-in_default-clause-index g c r e =
    let rule = key_rule c.args.collation (g.C.Collation.order c.args.order.now) (g.C.Collation.valid c.args.order.now) in
    no_node c.args.form rule (short_nodes c.args.form r) c.args.root.now
    (refused c.args.form c.args.root.now c.in_default.field-0 c.in_default.ensures.err)

pub returns-then-not-is_short-clause-index : goal.returns-then-not-is_short-clause-index
returns-then-not-is_short-clause-index g c r e =
    let rule = key_rule c.args.collation (g.C.Collation.order c.args.order.now) (g.C.Collation.valid c.args.order.now) in
    let node = c.in-Ok.node in
    no_node c.args.form rule (short_nodes c.args.form r) c.args.root.now
    (is_long c.args.form c.args.root.now (node_of_view node) c.in-Ok.ensures.ok (bytes_of node) c.in-Ok.ensures.bytes c.is_short.result
    c.is_short.ensures c.if-not-is_short.true)

pub has_fields-requires : goal.has_fields-requires
has_fields-requires g c = root_len c.args.form c.args.root.now (node_of_view c.in-Ok.node) c.in-Ok.ensures.ok

pub returns-then-not-has_fields-clause-index : goal.returns-then-not-has_fields-clause-index
returns-then-not-has_fields-clause-index g c r e =
    let rule = key_rule c.args.collation (g.C.Collation.order c.args.order.now) (g.C.Collation.valid c.args.order.now) in
    no_fields c.args.form rule (short_nodes c.args.form r) c.args.root.now
    (λ fields. let f : false ≡ true = subst IsTrue c.if-not-has_fields.true (c.has_fields.ensures.1 fields) in cc)

pub returns-in_default-found-clause-index : goal.returns-in_default-found-clause-index
returns-in_default-found-clause-index g c r e =
    let rule = key_rule c.args.collation (g.C.Collation.order c.args.order.now) (g.C.Collation.valid c.args.order.now) in
    let form = c.args.form in
    let root = c.args.root.now in
    let node = c.in-Ok.node in
    let n : Node = node_of_view node in
    let nodes = short_nodes form r in
    let said = is_short form root n c.in-Ok.ensures.ok (bytes_of node) c.in-Ok.ensures.bytes c.is_short.result c.is_short.ensures
    c.if-not-is_short.false in
    no_walk form rule nodes root n said
    (subst (λ k. TellsWalk (short_nodes k r) n None) c.in-Ok.ensures.form
    (rw c.in_default-found.is at (c.in_ok-found.ensures.tells r e)))

pub are_ordered-requires : goal.are_ordered-requires
are_ordered-requires g c =
    let form = form_of_view c.in-Ok.node in
    subst AreWhole (sym c.deref.ensures.value)
    (whole_from_own form c.in-Some.entries.items (rw c.in-Some.is at c.in_ok-found.ensures.own))

pub returns-then-not-are_ordered-clause-index : goal.returns-then-not-are_ordered-clause-index
returns-then-not-are_ordered-clause-index g c r e =
    let rule = key_rule c.args.collation (g.C.Collation.order c.args.order.now) (g.C.Collation.valid c.args.order.now) in
    let form = c.args.form in
    let root = c.args.root.now in
    let node = c.in-Ok.node in
    let n : Node = node_of_view node in
    let nodes = short_nodes form r in
    let said = is_short form root n c.in-Ok.ensures.ok (bytes_of node) c.in-Ok.ensures.bytes c.is_short.result c.is_short.ensures
    c.if-not-is_short.false in
    let entries = c.in-Some.entries.items in
    let walk = subst (λ k. IsTheWalk (short_nodes k r) n entries) c.in-Ok.ensures.form
    (rw c.in-Some.is at (c.in_ok-found.ensures.tells r e)) in
    no_order form rule nodes root n said entries walk (λ ordered.
    let shown = subst (λ xs. AreOrdered rule.order rule.valid (items_in xs)) (sym c.deref.ensures.value) ordered in
    let f : false ≡ true = subst IsTrue c.if-not-are_ordered.true (c.are_ordered.ensures.1 shown) in
    cc)

pub returns-clause-index : goal.returns-clause-index
returns-clause-index g c r e =
    let rule = key_rule c.args.collation (g.C.Collation.order c.args.order.now) (g.C.Collation.valid c.args.order.now) in
    let form = c.args.form in
    let root = c.args.root.now in
    let node = c.in-Ok.node in
    let n : Node = node_of_view node in
    let nodes = short_nodes form r in
    let said = is_short form root n c.in-Ok.ensures.ok (bytes_of node) c.in-Ok.ensures.bytes c.is_short.result c.is_short.ensures
    c.if-not-is_short.false in
    let entries = c.in-Some.entries.items in
    let walk = subst (λ k. IsTheWalk (short_nodes k r) n entries) c.in-Ok.ensures.form
    (rw c.in-Some.is at (c.in_ok-found.ensures.tells r e)) in
    an_index form rule nodes root n said entries walk (c.has_fields.ensures.0 c.if-not-has_fields.false)
    (subst (λ xs. AreOrdered rule.order rule.valid (items_in xs)) c.deref.ensures.value
    (c.are_ordered.ensures.0 c.if-not-are_ordered.false))

pub returns-clause-whole : goal.returns-clause-whole
returns-clause-whole g c =
    whole_from_own (form_of_view c.in-Ok.node) c.in-Some.entries.items (rw c.in-Some.is at c.in_ok-found.ensures.own)

pub returns-clause-ordered : goal.returns-clause-ordered
returns-clause-ordered g c =
    subst (λ xs. AreOrdered (g.C.Collation.order c.args.order.now) (g.C.Collation.valid c.args.order.now) (items_in xs))
    c.deref.ensures.value (c.are_ordered.ensures.0 c.if-not-are_ordered.false)
