use Rattle.std.proofs.Common.{[], ◌∷◌, subst}
use Rattle.cmd_lang.specs.Lines.{Finds}
use Rattle.cmd_lang.specs.Words.{IsPath}
use Rattle.cmd_lang.proofs.RowLaws.{same_word}
use Rattle.cmd_lang.proofs.rows.read_two_paths.Goals as goal

pub returns-in_default-2 : goal.returns-in_default-2
returns-in_default-2 c = λ meant x.
    let none = subst (Finds (IsPath c.in-Some.first.now)) c.in_default-2.is c.in_ok-old.ensures in
    none meant.0 (same_word (λ a. IsPath a meant.0) _ (x.0 ∷ x.1 ∷ [])
    (c.in-Some.first.now ∷ c.in-Some.second.now ∷ []) 0 x.2 c.in-Some.ensures x.3.0)

pub returns-in-None : goal.returns-in-None
returns-in-None c = λ meant x.
    let none = subst (Finds (IsPath c.in-Some.second.now)) c.in-None.is c.in_ok-new.ensures in
    none meant.1 (same_word (λ a. IsPath a meant.1) _ (x.0 ∷ x.1 ∷ [])
    (c.in-Some.first.now ∷ c.in-Some.second.now ∷ []) 1 x.2 c.in-Some.ensures x.3.1)
