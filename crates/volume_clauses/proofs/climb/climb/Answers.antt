use Rattle.std.proofs.Common.{◌≡◌, ◌<◌, ap, subst, ◌∙◌, arith, length}
use Rattle.std.proofs.lemmas.List.{get_or_default}
use Rattle.volume_clauses.specs.declared.marks.Mark.TheVariants.{Unknown}
use Rattle.volume_clauses.specs.Marks.{Settled, verdict_of, mark_at}
use Rattle.volume_clauses.proofs.WalkLaws.{KeepsKnown-of}
use Rattle.volume_clauses.proofs.climb.climb.Goals as goal

pub returns : goal.returns
returns c = record {
  known = λ root found right.
      let mid = c.walk_up.new.marks in
      let at = c.in_ok-at.at in
      let inside : at < length mid = omega (arith, c.in_ok-at.ensures.at, c.requires.all, c.walk_up.auto.marks) in
      let verdict : c.verdict-verdict.result ≡ verdict_of (mark_at mid at) = c.verdict-verdict.ensures
      ∙ ap verdict_of (get_or_default mid at _ Unknown inside) in
      let settled : Settled mid c.settle.new.marks c.walk_up.new.path.items (verdict_of (mark_at mid at)) =
      subst (λ v. Settled mid c.settle.new.marks c.walk_up.new.path.items v) verdict
      (subst (λ xs. Settled mid c.settle.new.marks xs c.verdict-verdict.result) c.deref.ensures.value c.settle.ensures) in
      KeepsKnown-of c.args.parents.now root c.args.marks.now mid c.settle.new.marks c.walk_up.new.path.items c.args.f at right
      (c.in_ok-at.ensures.walked root found right) settled;
}
