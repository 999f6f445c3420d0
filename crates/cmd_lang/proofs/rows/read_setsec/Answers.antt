use Rattle.std.proofs.Common.{[], ◌∷◌, subst}
use Rattle.cmd_lang.specs.Lines.{Finds}
use Rattle.cmd_lang.specs.Words.{IsPath}
use Rattle.cmd_lang.proofs.RowLaws.{same_word}
use Rattle.cmd_lang.proofs.rows.read_setsec.Goals as goal

pub returns-in_default-2 : goal.returns-in_default-2
returns-in_default-2 c = λ meant x.
    let none = subst (Finds (IsPath c.in-Some.first.now)) c.in_default-2.is c.in_ok-path.ensures in
    none x.0 (same_word (λ a. IsPath a x.0) _ (x.2.0 ∷ x.2.1 ∷ [])
    (c.in-Some.first.now ∷ c.in-Some.second.now ∷ []) 0 x.2.2 c.in-Some.ensures x.2.3.0)
