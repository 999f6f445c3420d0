use Rattle.std.proofs.Common.{arith, inl, inr, refl}
use Rattle.std.proofs.lemmas.Bool.{cases_lt}
use Rattle.record_notes.proofs.used.bitmap.used_laws.Goals as goal

pub returns-clause-end : goal.returns-clause-end
returns-clause-end c = λ view end has all below n. elim (cases_lt n end) [
  | inl lt ↦ below n lt
  | inr ge ↦ record { bits = λ _. has; bit = λ ordinary h. absurd (omega arith) }
]

pub returns-clause-without : goal.returns-clause-without
returns-clause-without c = λ view without.
    (λ meets. without (meets.bits refl), λ m low. record { bits = λ e. absurd (omega arith); bit = λ ordinary h. absurd (omega arith) })
