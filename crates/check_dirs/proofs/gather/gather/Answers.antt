use Rattle.std.proofs.Common.{◌≡◌, [], Some, length, ap, arith, sym, ◌∙◌, subst}
use Rattle.ntfs_def.specs.Node.{Node, child_from}
use Rattle.index_node.specs.View.{form_of_view, node_of_view}
use Rattle.check_dirs.specs.Gathered.{AreMet, IsDepth, TellsNode}
use Rattle.check_dirs.specs.Records.{short_nodes}
use Rattle.check_dirs.proofs.MetLaws.{none_met}
use Rattle.check_dirs.proofs.WalkLaws.{tells_none, tells_some, too_deep}
use Rattle.check_dirs.proofs.gather.gather.Goals as goal

pub returns-in_default-clause-tells : goal.returns-in_default-clause-tells
returns-in_default-clause-tells g c r e =
    let root = c.args.root.now in
    let n : Node = node_of_view root in
    let nodes = short_nodes (form_of_view root) r in
    too_deep nodes n
    (subst (IsDepth nodes (child_from n.entries n.last 0) 15) c.in_default.is
    (subst (λ x. IsDepth nodes x 15 c.in_ok-depth.depth) c.child.ensures
    (subst (λ k. IsDepth (short_nodes k r) c.child.result 15 c.in_ok-depth.depth) c.form.ensures (c.in_ok-depth.ensures.depth r e))))

pub returns-then-not-good-clause-tells : goal.returns-then-not-good-clause-tells
returns-then-not-good-clause-tells g c r e =
    let root = c.args.root.now in
    let n : Node = node_of_view root in
    let nodes = short_nodes (form_of_view root) r in
    let d = c.in-Some.depth in
    let good = c.in_ok-good.good in
    let met = c.gather_node.new.met in
    let entries = c.gather_node.new.out.items in
    let deep : IsDepth nodes (child_from n.entries n.last 0) 15 (Some d) =
    subst (IsDepth nodes (child_from n.entries n.last 0) 15) c.in-Some.is
    (subst (λ x. IsDepth nodes x 15 c.in_ok-depth.depth) c.child.ensures
    (subst (λ k. IsDepth (short_nodes k r) c.child.result 15 c.in_ok-depth.depth) c.form.ensures (c.in_ok-depth.ensures.depth r e))) in
    tells_none nodes n d good met entries deep c.if-not-good.true
    (subst (λ first. TellsNode good nodes d n first met [] entries) c.new-met.ensures
    (subst (λ old. TellsNode good nodes d n c.new-met.result met old entries) c.new-out.ensures.items
    (c.in_ok-good.ensures.tells r (c.depth_below.ensures.records ∙ e))))

pub returns-clause-tells : goal.returns-clause-tells
returns-clause-tells g c r e =
    let root = c.args.root.now in
    let n : Node = node_of_view root in
    let nodes = short_nodes (form_of_view root) r in
    let d = c.in-Some.depth in
    let good = c.in_ok-good.good in
    let met = c.gather_node.new.met in
    let entries = c.gather_node.new.out.items in
    let deep : IsDepth nodes (child_from n.entries n.last 0) 15 (Some d) =
    subst (IsDepth nodes (child_from n.entries n.last 0) 15) c.in-Some.is
    (subst (λ x. IsDepth nodes x 15 c.in_ok-depth.depth) c.child.ensures
    (subst (λ k. IsDepth (short_nodes k r) c.child.result 15 c.in_ok-depth.depth) c.form.ensures (c.in_ok-depth.ensures.depth r e))) in
    tells_some nodes n d good met entries deep c.if-not-good.false
    (subst (λ first. TellsNode good nodes d n first met [] entries) c.new-met.ensures
    (subst (λ old. TellsNode good nodes d n c.new-met.result met old entries) c.new-out.ensures.items
    (c.in_ok-good.ensures.tells r (c.depth_below.ensures.records ∙ e))))

pub returns-in_err-good-clause-fetched : goal.returns-in_err-good-clause-fetched
returns-in_err-good-clause-fetched g c r e n most =
    let none : AreMet r c.new-met.result = subst (AreMet r) (sym c.new-met.ensures) (none_met r) in
    let begun : length c.new-met.result ≡ 0 = ap length c.new-met.ensures in
    let deep = c.depth_below.ensures.fetched in
    let wide = c.gather_node.ensures.fetched in
    let few = c.gather_node.ensures.few r (c.depth_below.ensures.records ∙ e) none n most in
    omega arith

pub returns-then-not-good-clause-fetched : goal.returns-then-not-good-clause-fetched
returns-then-not-good-clause-fetched g c r e n most =
    let none : AreMet r c.new-met.result = subst (AreMet r) (sym c.new-met.ensures) (none_met r) in
    let begun : length c.new-met.result ≡ 0 = ap length c.new-met.ensures in
    let deep = c.depth_below.ensures.fetched in
    let wide = c.gather_node.ensures.fetched in
    let few = c.gather_node.ensures.few r (c.depth_below.ensures.records ∙ e) none n most in
    omega arith

pub returns-clause-fetched : goal.returns-clause-fetched
returns-clause-fetched g c r e n most =
    let none : AreMet r c.new-met.result = subst (AreMet r) (sym c.new-met.ensures) (none_met r) in
    let begun : length c.new-met.result ≡ 0 = ap length c.new-met.ensures in
    let deep = c.depth_below.ensures.fetched in
    let wide = c.gather_node.ensures.fetched in
    let few = c.gather_node.ensures.few r (c.depth_below.ensures.records ∙ e) none n most in
    omega arith
