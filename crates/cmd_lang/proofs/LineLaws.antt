-- The first word of a line.
use Rattle.std.proofs.Common.{ℕ, List, ◌∷◌, Option, Some, None, inl, inr, sym, ◌∙◌, subst}
use Rattle.std.specs.Prelude.{decimal}
use Rattle.tree_model.specs.declared.command.Command.{Command}
use Rattle.cmd_lang.specs.Grammar.{AreWords, IsCommand, IsSession}
use Rattle.cmd_lang.specs.Lines.{FindsIn, FindsSaid}
use Rattle.cmd_lang.proofs.VerbLaws.{not_session}

-- words without a session
pub without_session : (first : List ℕ) (more : List (List ℕ)) (found : Option (ℕ × Command)) → ((session : ℕ) → IsSession first session → ⊥)
    → FindsIn 0 (IsCommand (first ∷ more)) found → FindsSaid (AreWords (first ∷ more)) found
without_session first more (Some said) none h = inr h
without_session first more None none h = λ session command x. elim x [
  | inl y ↦ none session y.0
  | inr y ↦ h command y.1
]

-- words behind a session
pub behind_session : (first : List ℕ) (more : List (List ℕ)) (session : ℕ) (found : Option (ℕ × Command)) → IsSession first session
    → FindsIn session (IsCommand more) found → FindsSaid (AreWords (first ∷ more)) found
behind_session first more session (Some said) is h = inl (subst (IsSession first) (sym h.0) is, h.1)
behind_session first more session None is h = λ other command x. elim x [
  | inl y ↦ h command y.1
  | inr y ↦ not_session y.1.0 (decimal session) (sym y.1.1 ∙ is.written)
]
