-- The way of parents, step by step.
use Rattle.std.proofs.Common.{◌≡◌, ◌≢◌, ◌↔◌, ℕ, zero, suc, List, slice_index, refl, subst}
use Rattle.volume_clauses.specs.Marks.{climbed, Reaches}

-- the root reaches itself
pub Reaches-root : (parents : List ℕ) (root : ℕ) → Reaches parents root root
unfolding Reaches
Reaches-root parents root = (0, refl)

-- any other record reaches it exactly where its parent does
pub Reaches-step : (parents : List ℕ) (root f : ℕ) → f ≢ root → Reaches parents root f ↔ Reaches parents root (slice_index parents f)
unfolding Reaches
Reaches-step parents root f other = (
  λ (k, e). step k e,
  λ (k, e). (suc k, e),
) where
  step : (k : ℕ) → climbed parents k f ≡ root → (j : ℕ) × (climbed parents j (slice_index parents f) ≡ root)
  step zero e = absurd (other e)
  step (suc k) e = (k, e)

-- a set of records that each way stays in, and that the root is not in
stays : (parents : List ℕ) (root : ℕ) (S : ℕ → Type 0) → ((k : ℕ) → S k → S (slice_index parents k)) → (S root → ⊥) → (k f : ℕ) → S f
    → climbed parents k f ≡ root → ⊥
stays parents root S closed out zero f s e = out (subst S e s)
stays parents root S closed out (suc k) f s e = stays parents root S closed out k (slice_index parents f) (closed f s) e

pub Reaches-never : (parents : List ℕ) (root : ℕ) (S : ℕ → Type 0) → ((k : ℕ) → S k → S (slice_index parents k)) → (S root → ⊥)
    → (f : ℕ) → S f → ¬ (Reaches parents root f)
unfolding Reaches
Reaches-never parents root S closed out f s (k, e) = stays parents root S closed out k f s e
