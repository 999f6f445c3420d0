use Rattle.std.proofs.Common.{[], ◌∷◌, subst}
use Rattle.cmd_lang.specs.Targets.{FindsTarget}
use Rattle.cmd_lang.specs.Words.{IsTarget, pieces}
use Rattle.cmd_lang.proofs.RowLaws.{same_word}
use Rattle.cmd_lang.proofs.rows.read_range.Goals as goal

pub returns-in_default-2 : goal.returns-in_default-2
returns-in_default-2 c = λ meant x.
    let none = subst (FindsTarget (pieces 58 c.in-Some.first.now)) c.in_default-2.is c.in_ok-path.ensures in
    none meant.path meant.stream (same_word (λ a. IsTarget a meant.path meant.stream) _ (x.0 ∷ x.1 ∷ x.2 ∷ [])
    (c.in-Some.first.now ∷ c.in-Some.second.now ∷ c.in-Some.third.now ∷ []) 0 x.3 c.in-Some.ensures x.4.0)
