use Rattle.std.proofs.Common.{[], ◌∷◌, subst}
use Rattle.cmd_lang.specs.Targets.{FindsTarget}
use Rattle.cmd_lang.specs.Words.{IsTarget, pieces}
use Rattle.cmd_lang.proofs.RowLaws.{same_word}
use Rattle.cmd_lang.proofs.rows.read_cat.Goals as goal

pub returns-in_default-2 : goal.returns-in_default-2
returns-in_default-2 c = λ meant x.
    let none = subst (FindsTarget (pieces 58 c.in-Some.word.now)) c.in_default-2.is c.in_ok-path.ensures in
    none x.0 x.1 (same_word (λ a. IsTarget a x.0 x.1) _ (x.2.0 ∷ []) (c.in-Some.word.now ∷ []) 0 x.2.1 c.in-Some.ensures x.2.2)
