-- Entries that lead to no child.
use Rattle.std.proofs.Common.{◌≡◌, ℕ, Bool, true, false, refl}
use Rattle.std.specs.Prelude.{if◌then◌else◌}

pub leaf_of : (children : Bool) (n : ℕ) → n ≡ (if children then 1 else 0) → (n ≡ 1 → ⊥) → children ≡ false
leaf_of true n e ne = absurd (ne e)
leaf_of false n e ne = refl
