use Rattle.std.proofs.Common.{◌≡◌, ◌-◌, ◌+◌, sym, ap, ◌∙◌, arith}
use Rattle.tree_model.specs.Opens.{free_from}
use Rattle.share_table.proofs.HandleLaws.{free-behind, free-here, free-start}
use Rattle.share_table.proofs.table.Opens.free_handle.Goals as goal

pub handles-init : goal.handles-init
handles-init c = free-start c.args.self.now c.args.session

pub returns-then-not-has : goal.returns-then-not-has
returns-then-not-has c =
    sym (free-here (64 - c.handles.handle) c.args.self.now c.args.session c.handles.handle (sym c.has.ensures ∙ c.if-not-has.true))
    ∙ c.handles.invariant

pub handles-preserved : goal.handles-preserved
handles-preserved c =
    ap (λ n. free_from n c.args.self.now c.args.session (c.handles.handle + 1)) (omega arith)
    ∙ sym (free-behind (64 - c.handles.handle) c.args.self.now c.args.session c.handles.handle (omega (arith, c.handles-test.true))
    (sym c.has.ensures ∙ c.if-not-has.false))
    ∙ c.handles.invariant

pub returns : goal.returns
returns c =
    let none : 64 - c.handles.handle ≡ 0 = omega (arith, c.handles-test.false) in
    let here : 64 ≡ c.handles.handle = omega (arith, c.handles-test.false, c.handles.auto.handle-end) in
    here ∙ sym (ap (λ n. free_from n c.args.self.now c.args.session c.handles.handle) none) ∙ c.handles.invariant
