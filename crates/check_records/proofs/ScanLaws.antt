-- What a pass over the table has decided and noted, a record at a time.
use Rattle.std.proofs.Common.{◌≡◌, ◌<◌, ◌≤◌, ◌+◌, ℕ, IsTrue, true, false, List, Some, None, inl, inr, cond, ap, subst, arith}
use Rattle.std.proofs.lemmas.Bool.{cases_lt, lt-ltb}
use Rattle.ntfs_def.specs.Fixup.{opened_of}
use Rattle.ntfs_def.specs.Record.{is_in_use}
use Rattle.volume_def.specs.Files.{record_in, record_of, record_on}
use Rattle.volume_def.specs.ShapeClause.{MeetsShape}
use Rattle.volume_def.specs.Sound.{HoldBelow}
use Rattle.volume_def.specs.Sound.Clause.{Shape}
use Rattle.volume_def.specs.Table.{IsWellFormed}
use Rattle.volume_def.specs.View.{VolumeView}
use Rattle.clause_order.specs.Refusals.{IsFirstBroken}
use Rattle.clause_order.proofs.OrderLaws.{HoldBelow-more, HoldBelow-none, IsFirstBroken-of}

-- a record inside the table is what its block means
pub record_on-inside : (view : VolumeView) (n : ℕ) → n < view.layout.count → record_on view n ≡ record_in n (view.block n)
record_on-inside view n inside = ap (λ b. cond b (record_in n (view.block n)) None) (lt-ltb n view.layout.count inside)

-- one record more has the shape
pub shape-more : (view : VolumeView) (n : ℕ) → ((k : ℕ) → k < n → MeetsShape view k)
    → (IsTrue (is_in_use (view.block n)) → IsWellFormed (view.block n)) → (k : ℕ) → k < n + 1 → MeetsShape view k
shape-more view n before here k h = elim (cases_lt k n) [
  | inl lt ↦ before k lt
  | inr ge ↦ let e : n ≡ k = omega arith in subst (MeetsShape view) e (λ _. here)
]

-- all records have
pub shape-all : (view : VolumeView) (n : ℕ) → view.layout.count ≤ n → ((k : ℕ) → k < n → MeetsShape view k) → HoldBelow view 1
shape-all view n end all = HoldBelow-more view Shape (HoldBelow-none view) (λ k inside. all k (omega arith) inside)

-- record n is the first that has not
pub shape-broken : (view : VolumeView) (n : ℕ) → n < view.layout.count → ((k : ℕ) → k < n → MeetsShape view k)
    → ¬ (IsTrue (is_in_use (view.block n)) → IsWellFormed (view.block n)) → IsFirstBroken 10 view 3 n
shape-broken view n inside before bad =
    IsFirstBroken-of 10 view Shape n (omega arith) (HoldBelow-none view) (λ _. (λ meets. bad (meets inside), before))

-- what a stored block means
pub record_in-used : (n : ℕ) (stored : List ℕ) → is_in_use stored ≡ true → record_in n stored ≡ Some (record_of n (opened_of stored))
unfolding record_in
record_in-used n stored used = ap (λ b. cond b (Some (record_of n (opened_of stored))) None) used

pub record_in-unused : (n : ℕ) (stored : List ℕ) → is_in_use stored ≡ false → record_in n stored ≡ None
unfolding record_in
record_in-unused n stored unused = ap (λ b. cond b (Some (record_of n (opened_of stored))) None) unused
