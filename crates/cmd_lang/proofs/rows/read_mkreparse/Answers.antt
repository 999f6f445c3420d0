use Rattle.std.proofs.Common.{[], ◌∷◌, subst}
use Rattle.cmd_lang.specs.Lines.{Finds}
use Rattle.cmd_lang.specs.Words.{IsHex, IsPath}
use Rattle.cmd_lang.proofs.RowLaws.{same_word}
use Rattle.cmd_lang.proofs.rows.read_mkreparse.Goals as goal

pub returns-in_default-2 : goal.returns-in_default-2
returns-in_default-2 c = λ meant x.
    let none = subst (Finds (IsPath c.in-Some.first.now)) c.in_default-2.is c.in_ok-path.ensures in
    none x.0 (same_word (λ a. IsPath a x.0) _ (x.3.0 ∷ x.3.1 ∷ x.3.2 ∷ [])
    (c.in-Some.first.now ∷ c.in-Some.second.now ∷ c.in-Some.third.now ∷ []) 0 x.3.3 c.in-Some.ensures x.3.4.0)

pub returns-in_default-3 : goal.returns-in_default-3
returns-in_default-3 c = λ meant x.
    let none = subst (Finds (IsHex c.in-Some.third.now)) c.in_default-3.is c.in_ok-bytes.ensures in
    none x.2 (same_word (λ a. IsHex a x.2) _ (x.3.0 ∷ x.3.1 ∷ x.3.2 ∷ [])
    (c.in-Some.first.now ∷ c.in-Some.second.now ∷ c.in-Some.third.now ∷ []) 2 x.3.3 c.in-Some.ensures x.3.4.2)
