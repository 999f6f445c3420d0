-- Sums and quotients.
use Rattle.std.proofs.Common.{◌≡◌, ℕ, ◌+◌, ◌-◌, ◌*◌, ◌/◌, ◌<◌, ◌≤◌, ◌⊎◌, inl, inr, Bool, true, false, cond, refl, ap, ◌∙◌, arith}
use Rattle.std.specs.Prelude.{nat_le}
use Rattle.std.proofs.lemmas.Nat.{le-div}
use Rattle.std.proofs.Math.Nat.{div-mul-le_self, div-lt_iff_lt-mul, mul-add-div_right}
use Rattle.edit_def.specs.Account.{rows}
use Rattle.ntfs_def.specs.Rounded.{clusters_for}

pub clusters_for-le : (a b size : ℕ) → 0 < size → a ≤ b → clusters_for a size ≤ clusters_for b size
clusters_for-le a b size pos h =
    let back : (a + (size - 1)) / size * size ≤ a + (size - 1) = div-mul-le_self (a + (size - 1)) size in
    le-div ((a + (size - 1)) / size) (b + (size - 1)) size pos (omega arith)

-- whole clusters come out
pub clusters_for-whole : (n b size : ℕ) → 0 < size → clusters_for (n * size + b) size ≡ n + clusters_for b size
clusters_for-whole n b size pos =
    let e : n * size + b + (size - 1) ≡ n * size + (b + (size - 1)) = omega arith in
    ap (λ x. x / size) e ∙ mul-add-div_right pos n (b + (size - 1))

-- that many serve
pub clusters_for-least : (n b size : ℕ) → 0 < size → b ≤ n * size → clusters_for b size ≤ n
clusters_for-least n b size pos h =
    let low = clusters_for-le b (n * size + 0) size pos (omega arith) in
    let none : clusters_for 0 size < 1 = (div-lt_iff_lt-mul pos).1 (omega arith) in
    omega (arith, clusters_for-whole n 0 size pos)

rows-test : (claimed more records : ℕ) (b : Bool) → nat_le (claimed + more) records ≡ b
    → ((claimed + more ≤ records) × (rows claimed more records ≡ records))
    ⊎ ((records < claimed + more) × (rows claimed more records ≡ claimed + more + 3))
rows-test claimed more records true e = inl (grind arith, ap (λ b. cond b records (claimed + more + 3)) e)
rows-test claimed more records false e = inr (grind arith, ap (λ b. cond b records (claimed + more + 3)) e)

pub rows-cases : (claimed more records : ℕ)
    → ((claimed + more ≤ records) × (rows claimed more records ≡ records))
    ⊎ ((records < claimed + more) × (rows claimed more records ≡ claimed + more + 3))
rows-cases claimed more records = rows-test claimed more records (nat_le (claimed + more) records) refl

pub rows-then : (c c' a b r r' : ℕ) → c' ≤ c + a → r ≤ r' → r' ≤ rows c a r → rows c' b r' ≤ rows c (a + b) r
rows-then c c' a b r r' hc hr hr' =
    elim (rows-cases c a r) as (λ _. rows c' b r' ≤ rows c (a + b) r) [
      | inl x ↦ elim (rows-cases c' b r') as (λ _. rows c' b r' ≤ rows c (a + b) r) [
        | inl y ↦ elim (rows-cases c (a + b) r) as (λ _. rows c' b r' ≤ rows c (a + b) r) [
          | inl z ↦ omega (
            arith,
            x.1,
            y.1,
            z.1,
            x.0,
            y.0,
            z.0,
          )
          | inr z ↦ omega (arith, x.1, y.1, z.1, x.0, y.0, z.0)
        ]
        | inr y ↦ elim (rows-cases c (a + b) r) as (λ _. rows c' b r' ≤ rows c (a + b) r) [
          | inl z ↦ omega (
            arith,
            x.1,
            y.1,
            z.1,
            x.0,
            y.0,
            z.0,
          )
          | inr z ↦ omega (arith, x.1, y.1, z.1, x.0, y.0, z.0)
        ]
      ]
      | inr x ↦ elim (rows-cases c' b r') as (λ _. rows c' b r' ≤ rows c (a + b) r) [
        | inl y ↦ elim (rows-cases c (a + b) r) as (λ _. rows c' b r' ≤ rows c (a + b) r) [
          | inl z ↦ omega (
            arith,
            x.1,
            y.1,
            z.1,
            x.0,
            y.0,
            z.0,
          )
          | inr z ↦ omega (arith, x.1, y.1, z.1, x.0, y.0, z.0)
        ]
        | inr y ↦ elim (rows-cases c (a + b) r) as (λ _. rows c' b r' ≤ rows c (a + b) r) [
          | inl z ↦ omega (
            arith,
            x.1,
            y.1,
            z.1,
            x.0,
            y.0,
            z.0,
          )
          | inr z ↦ omega (arith, x.1, y.1, z.1, x.0, y.0, z.0)
        ]
      ]
    ]

pub rows-le : (c a b r : ℕ) → a ≤ b → rows c a r ≤ rows c b r
rows-le c a b r h =
    elim (rows-cases c a r) as (λ _. rows c a r ≤ rows c b r) [
      | inl x ↦ elim (rows-cases c b r) as (λ _. rows c a r ≤ rows c b r) [
        | inl z ↦ omega (arith, x.1, z.1, x.0, z.0)
        | inr z ↦ omega (
          arith,
          x.1,
          z.1,
          x.0,
          z.0,
        )
      ]
      | inr x ↦ elim (rows-cases c b r) as (λ _. rows c a r ≤ rows c b r) [
        | inl z ↦ omega (arith, x.1, z.1, x.0, z.0)
        | inr z ↦ omega (
          arith,
          x.1,
          z.1,
          x.0,
          z.0,
        )
      ]
    ]
