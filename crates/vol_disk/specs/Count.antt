-- Counts that stand still at the last value of 64 bits.
use Rattle.std.specs.Prelude.{◌≡◌, ℕ, ◌+◌, ◌-◌, ◌^◌, ◌≤◌, min, Bool, true, false, Result, MatchResult}

-- a count, one higher
abbrev pub next_count : ℕ → ℕ
next_count count = min (count + 1) (2 ^ 64 - 1)

-- The count went up. One that stood at its last value counts as having done so where it did not fall.
abbrev pub Rose : ℕ → ℕ → Type 0
Rose before after = (before ≤ after) × (next_count before ≤ after)

-- What a call did to a count of faults, by its answer: an Ok left it as it was, and a failure raised it.
abbrev pub CountsFault : {T E : Type 0} → Result T E → ℕ → ℕ → Type 0
CountsFault result before after = MatchResult result (λ _. after ≡ before) (λ _. Rose before after)

-- the count of faults after a call that answered Ok, or failed, where each failure is one more
abbrev pub faults_after : Bool → ℕ → ℕ
faults_after true count = count
faults_after false count = next_count count
