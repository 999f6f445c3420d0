use Rattle.std.proofs.Common.{◌≡◌, ◌<◌, ◌++◌, ◌∷◌, [], sym, subst, ◌∙◌, arith, length, set, slice_index, true, false}
use Rattle.std.specs.List.{All}
use Rattle.std.proofs.lemmas.List.{length-set, get_or_default}
use Rattle.std.proofs.lemmas.List.Elements.{All-push}
use Rattle.volume_clauses.specs.declared.marks.Mark.TheVariants.{Unknown, Walking}
use Rattle.volume_clauses.specs.Marks.{Walks, mark_at}
use Rattle.volume_clauses.proofs.WalkLaws.{Walks-more}
use Rattle.volume_clauses.proofs.climb.walk_up.Goals as goal

pub loop-marks-preserved : goal.loop-marks-preserved
loop-marks-preserved c =
    let parents = c.args.parents.now in
    let new = c.loop-marks.marks in
    let at = c.loop-marks.at in
    let inv = c.loop-marks.invariant in
    let pushed : c.push.new.self.items ≡ c.loop-marks.path.items ++ at ∷ [] = c.in_ok-push.ensures.items in
    let inside : at < length new = omega (arith, inv.all, inv.at) in
    let unknown : mark_at new at ≡ Unknown = get_or_default new at Unknown _ inside ∙ c.is_unknown.ensures.0 c.loop-marks-test.true in
    record {
      all = length-set new at Walking ∙ inv.all;
      at = c.requires.parents at 0 inv.at;
      path = subst (λ xs. All (λ x. x < length parents) xs) (sym pushed)
          (All-push (λ x. x < length parents) c.loop-marks.path.items at inv.path inv.at);
      walks = λ root found right. subst
          (λ xs. Walks parents root c.args.marks.now (set new at Walking) xs c.args.f (slice_index parents at)) (sym pushed)
          (Walks-more parents root c.args.marks.now new c.loop-marks.path.items c.args.f at inside unknown (inv.walks root found right));
    }

pub returns-clause-walked : goal.returns-clause-walked
returns-clause-walked c root has right =
    let new = c.loop-marks.marks in
    let at = c.loop-marks.at in
    let inv = c.loop-marks.invariant in
    record {
      walks = inv.walks root has right;
      done = λ e.
          let yes : c.is_unknown.result ≡ true =
          c.is_unknown.ensures.1 (get_or_default new at _ Unknown (omega (arith, inv.all, inv.at)) ∙ e) in
          let none : c.is_unknown.result ≡ false = c.loop-marks-test.false in
          absurd (cc);
    }
