use Rattle.std.proofs.Common.{refl, arith, ◌≡◌, ℕ, suc, ◌+◌, ◌*◌, ◌<◌, Some, ap, sym, subst, ◌∙◌}
use Rattle.index_node.proofs.LenLaws.{before_first, upto_half, below_half}
use Rattle.index_node.specs.Edit.{HasSpan, entries_len, front_len}
use Rattle.index_node.specs.View.{bytes_of, node_of_view}
use Rattle.ntfs_def.specs.Node.{Node, whole_of}
use Rattle.index_node.proofs.SpanLaws.{first_is, inside, low, order}
use Rattle.index_node.proofs.parts.middle_of.Goals as goal

pub overflow_sub-span : goal.overflow_sub-span
overflow_sub-span c =
    let s = c.span-span.result in
    inside _ _ _ s.at s.behind s.end c.span-span.ensures

pub overflow_sub-span-in-loop-i : goal.overflow_sub-span-in-loop-i
overflow_sub-span-in-loop-i c =
    let f = c.span-first.result in
    let s = c.span-span.result in
    let a = first_is _ _ 0 f.at f.behind f.end c.span-first.ensures refl in
    let b = low _ _ _ s.at s.behind s.end c.span-span.ensures in
    let d = order _ _ _ s.at s.behind s.end c.span-span.ensures in
    omega arith

one_node : {m n : Node} → Some m ≡ Some n → m ≡ n
one_node e = cc

pub loop-i-init : goal.loop-i-init
loop-i-init c =
    let f = c.span-first.result in
    let is = ap whole_of c.in-Ok.ensures.ok in
    let h = subst (λ bytes. HasSpan c.args.form bytes 0 f.at f.behind f.end) c.in-Ok.ensures.bytes
    (subst (λ form. HasSpan form (bytes_of c.in-Ok.whole.view) 0 f.at f.behind f.end) c.in-Ok.ensures.form c.span-first.ensures) in
    record { before = before_first c.args.form c.args.node.now 0 f.at f.behind f.end h refl (node_of_view c.in-Ok.whole.view) is }

pub returns-then-span-first-clause-middle : goal.returns-then-span-first-clause-middle
returns-then-span-first-clause-middle c =
    let node = c.args.node.now in
    let here = node_of_view c.in-Ok.whole.view in
    let i = c.loop-i.i in
    let f = c.span-first.result in
    let s = c.span-span.result in
    let is = ap whole_of c.in-Ok.ensures.ok in
    let g = subst (λ bytes. HasSpan c.args.form bytes 0 f.at f.behind f.end) c.in-Ok.ensures.bytes
    (subst (λ form. HasSpan form (bytes_of c.in-Ok.whole.view) 0 f.at f.behind f.end) c.in-Ok.ensures.form c.span-first.ensures) in
    let h = subst (λ bytes. HasSpan c.args.form bytes i s.at s.behind s.end) c.in-Ok.ensures.bytes
    (subst (λ form. HasSpan form (bytes_of c.in-Ok.whole.view) i s.at s.behind s.end) c.in-Ok.ensures.form c.span-span.ensures) in
    record {
      entry = record { said = here; is = is; within = omega (arith, c.loop-i-test.true, c.entries-i-end.ensures) };
      before = λ said e. subst (λ (m : Node). 2 * front_len node i < entries_len node m) (one_node (sym is ∙ e)) c.loop-i.invariant.before;
      upto = upto_half c.args.form node i s.at s.behind s.end h f.at (first_is c.args.form node 0 f.at f.behind f.end g refl)
          c.if-span-first.true;
    }

pub loop-i-preserved : goal.loop-i-preserved
loop-i-preserved c =
    let node = c.args.node.now in
    let here = node_of_view c.in-Ok.whole.view in
    let i = c.loop-i.i in
    let f = c.span-first.result in
    let s = c.span-span.result in
    let is = ap whole_of c.in-Ok.ensures.ok in
    let g = subst (λ bytes. HasSpan c.args.form bytes 0 f.at f.behind f.end) c.in-Ok.ensures.bytes
    (subst (λ form. HasSpan form (bytes_of c.in-Ok.whole.view) 0 f.at f.behind f.end) c.in-Ok.ensures.form c.span-first.ensures) in
    let h = subst (λ bytes. HasSpan c.args.form bytes i s.at s.behind s.end) c.in-Ok.ensures.bytes
    (subst (λ form. HasSpan form (bytes_of c.in-Ok.whole.view) i s.at s.behind s.end) c.in-Ok.ensures.form c.span-span.ensures) in
    let lt = below_half c.args.form node i s.at s.behind s.end h f.at (first_is c.args.form node 0 f.at f.behind f.end g refl)
    (omega (arith, c.if-span-first.false)) here is in
    record { before = ap-lt (front_len node) {n = i} {m = i + 1} (omega arith) lt }
  where
    ap-lt : (f : ℕ → ℕ) {n m t : ℕ} → m ≡ suc n → 2 * f (suc n) < t → 2 * f m < t
    ap-lt f {n} {m} {t} e lt = subst (λ k. 2 * f k < t) (sym e) lt
