use Rattle.std.proofs.Common.{◌+◌, ◌-◌, ◌≤◌, None, Some, sym, ◌∙◌, subst, arith}
use Rattle.std.specs.Option.{IfSome}
use Rattle.ntfs_def.specs.Node.{Node, child_from}
use Rattle.index_node.specs.View.{bytes_of, node_of_view}
use Rattle.check_dirs.specs.Gathered.{IsDepth}
use Rattle.check_dirs.specs.Records.{short_nodes}
use Rattle.check_dirs.proofs.DepthLaws.{depth_bare, depth_leaf, depth_low, depth_none, depth_some}
use Rattle.check_dirs.proofs.ReadLaws.{at_record, fetched_none, fetched_some, is_long, is_short, no_record, refused}
use Rattle.check_dirs.proofs.depth.+depth_below.Goals as goal

pub returns-in_default-clause-depth : goal.returns-in_default-clause-depth
returns-in_default-clause-depth g t c r e =
    subst (λ x. IsDepth (short_nodes c.args.form r) x c.args.level (Some 0)) (sym c.in_default.is)
    (depth_leaf (short_nodes c.args.form r) c.args.level)

pub returns-then-level-eq0-clause-depth : goal.returns-then-level-eq0-clause-depth
returns-then-level-eq0-clause-depth g t c r e =
    let nodes = short_nodes c.args.form r in
    subst (λ x. IsDepth nodes x c.args.level None) (sym c.in-Some.is) (depth_low nodes c.in-Some.vcn c.args.level c.if-level-eq0.true)

pub returns-then-not-found-clause-depth : goal.returns-then-not-found-clause-depth
returns-then-not-found-clause-depth g t c r e =
    let nodes = short_nodes c.args.form r in
    let vcn = c.in-Some.vcn in
    let none = fetched_none (r vcn) c.in_ok-found.found c.fetch.new.into c.if-not-found.true (c.in_ok-found.ensures.found r e) in
    subst (λ x. IsDepth nodes x c.args.level None) (sym c.in-Some.is)
    (depth_bare nodes vcn c.args.level (no_record c.args.form r vcn none))

pub returns-in_default-new-clause-depth : goal.returns-in_default-new-clause-depth
returns-in_default-new-clause-depth g t c r e =
    let nodes = short_nodes c.args.form r in
    let vcn = c.in-Some.vcn in
    let block = c.fetch.new.into in
    let there = fetched_some (r vcn) c.in_ok-found.found block c.if-not-found.false (c.in_ok-found.ensures.found r e) in
    subst (λ x. IsDepth nodes x c.args.level None) (sym c.in-Some.is)
    (depth_bare nodes vcn c.args.level
    (at_record c.args.form r vcn block None there (refused c.args.form block c.in_default-new.field-0 c.in_default-new.ensures.err)))

pub returns-then-not-is_short-clause-depth : goal.returns-then-not-is_short-clause-depth
returns-then-not-is_short-clause-depth g t c r e =
    let nodes = short_nodes c.args.form r in
    let vcn = c.in-Some.vcn in
    let block = c.fetch.new.into in
    let node = c.in-Ok.node in
    let there = fetched_some (r vcn) c.in_ok-found.found block c.if-not-found.false (c.in_ok-found.ensures.found r e) in
    let long = is_long c.args.form block (node_of_view node) c.in-Ok.ensures.ok (bytes_of node) c.in-Ok.ensures.bytes c.is_short.result
    c.is_short.ensures c.if-not-is_short.true in
    subst (λ x. IsDepth nodes x c.args.level None) (sym c.in-Some.is)
    (depth_bare nodes vcn c.args.level (at_record c.args.form r vcn block None there long))

pub returns-in_default-2-clause-depth : goal.returns-in_default-2-clause-depth
returns-in_default-2-clause-depth g t c r e =
    let nodes = short_nodes c.args.form r in
    let vcn = c.in-Some.vcn in
    let block = c.fetch.new.into in
    let node = c.in-Ok.node in
    let n : Node = node_of_view node in
    let there = fetched_some (r vcn) c.in_ok-found.found block c.if-not-found.false (c.in_ok-found.ensures.found r e) in
    let short = is_short c.args.form block n c.in-Ok.ensures.ok (bytes_of node) c.in-Ok.ensures.bytes c.is_short.result
    c.is_short.ensures c.if-not-is_short.false in
    let read = at_record c.args.form r vcn block (Some n) there short in
    let below : IsDepth nodes (child_from n.entries n.last 0) (c.args.level - 1) c.in_ok-below.field-0 =
    subst (λ x. IsDepth nodes x (c.args.level - 1) c.in_ok-below.field-0) c.child.ensures
    (c.in_ok-below.ensures.depth r (c.fetch.ensures.records ∙ e)) in
    subst (λ x. IsDepth nodes x c.args.level None) (sym c.in-Some.is)
    (depth_none nodes vcn c.args.level n read c.if-level-eq0.false
    (subst (IsDepth nodes (child_from n.entries n.last 0) (c.args.level - 1)) c.in_default-2.is below))

pub overflow_add-result : goal.overflow_add-result
overflow_add-result g t c =
    let small : c.in-Some-2.below ≤ c.args.level - 1 =
    subst (λ found. IfSome found (λ depth. depth ≤ c.args.level - 1)) c.in-Some-2.is c.in_ok-below.ensures.small in
    let deep = c.if-level-eq0.false in
    omega arith

pub returns-clause-small : goal.returns-clause-small
returns-clause-small g t c =
    let small : c.in-Some-2.below ≤ c.args.level - 1 =
    subst (λ found. IfSome found (λ depth. depth ≤ c.args.level - 1)) c.in-Some-2.is c.in_ok-below.ensures.small in
    let deep = c.if-level-eq0.false in
    omega arith

pub returns-clause-depth : goal.returns-clause-depth
returns-clause-depth g t c r e =
    let nodes = short_nodes c.args.form r in
    let vcn = c.in-Some.vcn in
    let block = c.fetch.new.into in
    let node = c.in-Ok.node in
    let n : Node = node_of_view node in
    let there = fetched_some (r vcn) c.in_ok-found.found block c.if-not-found.false (c.in_ok-found.ensures.found r e) in
    let short = is_short c.args.form block n c.in-Ok.ensures.ok (bytes_of node) c.in-Ok.ensures.bytes c.is_short.result
    c.is_short.ensures c.if-not-is_short.false in
    let read = at_record c.args.form r vcn block (Some n) there short in
    let below : IsDepth nodes (child_from n.entries n.last 0) (c.args.level - 1) c.in_ok-below.field-0 =
    subst (λ x. IsDepth nodes x (c.args.level - 1) c.in_ok-below.field-0) c.child.ensures
    (c.in_ok-below.ensures.depth r (c.fetch.ensures.records ∙ e)) in
    subst (λ x. IsDepth nodes x c.args.level (Some (c.in-Some-2.below + 1))) (sym c.in-Some.is)
    (depth_some nodes vcn c.args.level n read c.if-level-eq0.false c.in-Some-2.below
    (subst (IsDepth nodes (child_from n.entries n.last 0) (c.args.level - 1)) c.in-Some-2.is below))
