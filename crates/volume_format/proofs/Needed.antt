-- The clusters that bytes need.
use Rattle.std.proofs.Common.{◌≡◌, ℕ, ◌+◌, ◌*◌, ◌-◌, ◌/◌, ◌%◌, ◌<◌, ◌≤◌, inl, inr, ap, arith}
use Rattle.std.proofs.lemmas.Bool.{cases_eq}
use Rattle.std.proofs.Math.Nat.{div-lt_iff_lt-mul}
use Rattle.volume_format.specs.Plan.{Plan, clusters_needed}

module _ (p : Plan) (some : 0 < p.size) (bytes : ℕ) where
  -- they hold them
  pub clusters_needed-covers : bytes ≤ clusters_needed p bytes * p.size
  clusters_needed-covers =
      let x : ℕ = bytes + (p.size - 1) in
      let rest : x % p.size < p.size = omega arith in
      let sum : p.size * (x / p.size) + x % p.size ≡ x = omega arith in
      omega arith

  pub clusters_needed-some : 0 < bytes → 0 < clusters_needed p bytes
  clusters_needed-some lt = elim (cases_eq (clusters_needed p bytes) 0) [
    | inl e ↦ absurd (omega (arith, clusters_needed-covers, ap (λ k. k * p.size) e))
    | inr ne ↦ omega (arith, ne)
  ]

  -- each byte lies in one of them
  pub below-clusters_needed : (i : ℕ) → i < bytes → i / p.size < clusters_needed p bytes
  below-clusters_needed i lt = (div-lt_iff_lt-mul some).1 (omega (arith, clusters_needed-covers))
