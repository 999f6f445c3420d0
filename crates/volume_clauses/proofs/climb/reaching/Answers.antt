use Rattle.std.proofs.Common.{◌≡◌, ◌<◌, inl, inr, ap, sym, subst, ◌∙◌, arith, length}
use Rattle.std.specs.Vec.{with_items}
use Rattle.std.proofs.lemmas.Bool.{cases_lt}
use Rattle.std.proofs.lemmas.List.{with_items_is}
use Rattle.volume_clauses.specs.declared.marks.Mark.TheVariants.{Unknown}
use Rattle.volume_clauses.specs.Marks.{AreRight, HasRoot, KeepsKnown, mark_at}
use Rattle.volume_clauses.proofs.WalkLaws.{AreRight-root}
use Rattle.volume_clauses.proofs.climb.reaching.Goals as goal

pub loop-f-init : goal.loop-f-init
loop-f-init c = record {
  all = c.in_ok-marks.ensures.all;
  root = c.in_ok-marks.ensures.root;
  right = AreRight-root c.args.parents.now c.args.root c.in_ok-marks.marks.items c.in_ok-marks.ensures.root c.in_ok-marks.ensures.others;
  known = λ k h. absurd (omega arith);
}

pub loop-f-preserved : goal.loop-f-preserved
loop-f-preserved c =
    let parents = c.args.parents.now in
    let root = c.args.root in
    let v = c.loop-f.marks in
    let new = c.climb.new.marks in
    let inv = c.loop-f.invariant in
    let given = subst (λ xs. HasRoot root xs → AreRight parents root xs
    → KeepsKnown parents root xs new c.loop-f.f) c.deref_mut.ensures.value (c.in_ok-climb.ensures.known root) in
    let k : KeepsKnown parents root v.items new c.loop-f.f = given inv.root inv.right in
    let items : (with_items v new).items ≡ new = with_items_is v new (k.all ∙ sym v.ok.0) in
    record {
      all = ap length items ∙ k.all ∙ inv.all;
      root = λ h. let inside : root < length v.items = omega (arith, ap length items, k.all) in let r = inv.root inside in
          ap (λ xs. mark_at xs root) items ∙ k.keeps root (λ e. absurd (cc)) ∙ r;
      right = subst (AreRight parents root) (sym items) k.right;
      known = λ j h e. let e2 : mark_at new j ≡ Unknown = sym (ap (λ xs. mark_at xs j) items) ∙ e in elim (cases_lt j c.loop-f.f) [
        | inl lt ↦ inv.known j lt (sym (k.keeps j (inv.known j lt)) ∙ e2)
        | inr ge ↦ let here : j ≡ c.loop-f.f = omega arith in k.here (ap (mark_at new) (sym here) ∙ e2)
      ];
    }
