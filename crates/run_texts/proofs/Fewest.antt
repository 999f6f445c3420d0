-- THE FEWEST BYTES of a number, and of a sum.
use Rattle.std.proofs.Common.{◌≡◌, ◌<◌, ◌≤◌, ◌+◌, ◌-◌, ◌*◌, ◌^◌, ℕ, zero, suc, true, false, cond, List, length, refl, sym, ap, subst}
use Rattle.std.proofs.Common.{inl, inr}
use Rattle.std.proofs.Common.{◌∙◌, arith}
use Rattle.std.specs.Prelude.{ℤ, pos, negsuc, ◌+ℤ◌, nat_lt}
use Rattle.std.proofs.lemmas.Bool.{cases_lt, lt-ltb}
use Rattle.std.proofs.lemmas.Bool.Decides.{nat_tests}
use Rattle.std.proofs.lemmas.Int.{ints}
use Rattle.std.proofs.lemmas.Nat.{pow-add}
use Rattle.std.proofs.Math.Pow.{pow_mono}
use Rattle.data_runs.specs.Written.{IsFewest, SpellsShortest}
use Rattle.data_runs.proofs.NumberLaws.{length-shortest, shortest_negative, shortest_number}
use Rattle.run_texts.specs.Text.{fewest, fewest_from, number_bytes}

from-fewest : (more size n : ℕ) → 1 ≤ size → ((other : ℕ) → 1 ≤ other → other < size → 2 ^ (8 * other - 1) ≤ n)
    → n < 2 ^ (8 * (size + more) - 1) → IsFewest n (fewest_from more size n)
from-fewest zero size n some none small = record {
  some = some;
  holds = let e : size + 0 ≡ size = omega arith in subst (λ s. n < 2 ^ (8 * s - 1)) e small;
  least = λ other low fits. elim (cases_lt other size) as (λ _. size ≤ other) [
    | inl l ↦ absurd (omega (arith, none other low l, fits))
    | inr g ↦ g
  ];
}
from-fewest (suc more) size n some none small = elim (cases_lt n (2 ^ (8 * size - 1))) as
    (λ _. IsFewest n (fewest_from (suc more) size n)) [
      | inl l ↦ subst (λ b. IsFewest n (cond b size (fewest_from more (size + 1) n))) (sym (lt-ltb n (2 ^ (8 * size - 1)) l)) (record {
        some = some;
        holds = l;
        least = λ other low fits. elim (cases_lt other size) as (λ _. size ≤ other) [
          | inl below ↦ absurd (omega (arith, none other low below, fits))
          | inr g ↦ g
        ];
      })
      | inr g ↦ subst (λ b. IsFewest n (cond b size (fewest_from more (size + 1) n))) (sym (not-less n (2 ^ (8 * size - 1)) g))
          (from-fewest more (size + 1) n (omega arith)
          (λ other low below. elim (cases_lt other size) as (λ _. 2 ^ (8 * other - 1) ≤ n) [
            | inl l ↦ none other low l
            | inr m ↦ let e : size ≡ other = omega arith in subst (λ s. 2 ^ (8 * s - 1) ≤ n) e g
          ])
          (let e : size + suc more ≡ size + 1 + more = omega arith in subst (λ s. n < 2 ^ (8 * s - 1)) e small))
    ]
  where
    not-less : (a b : ℕ) → b ≤ a → nat_lt a b ≡ false
    not-less a b h = grind (arith, nat_tests)

pub fewest-is : (n : ℕ) → n < 2 ^ 63 → IsFewest n (fewest n)
unfolding fewest
fewest-is n small = from-fewest 7 1 n (omega arith) (λ other low below. absurd (omega arith)) small

from-most : (more size n : ℕ) → fewest_from more size n ≤ size + more
from-most zero size n = omega arith
from-most (suc more) size n =
    elim (nat_lt n (2 ^ (8 * size - 1))) as (λ b. cond b size (fewest_from more (size + 1) n) ≤ size + suc more) [
      | true ↦ omega arith
      | false ↦ omega (arith, from-most more (size + 1) n)
    ]

pub fewest-few : (n : ℕ) → fewest n ≤ 8
unfolding fewest
fewest-few n = omega (arith, from-most 7 1 n)

pub fewest-mono : (n m : ℕ) → n ≤ m → m < 2 ^ 63 → fewest n ≤ fewest m
fewest-mono n m le small =
    (fewest-is n (omega arith)).least (fewest m) (fewest-is m small).some (omega (arith, (fewest-is m small).holds))

-- THE BYTES OF A SUM are no more than those of its parts.
power-sum : (x y : ℕ) → 1 ≤ x → 1 ≤ y → 2 ^ (8 * x - 1) + 2 ^ (8 * y - 1) ≤ 2 ^ (8 * (x + y) - 1)
power-sum x y a b =
    let p = pow_mono {i = 8 * x - 1} {j = 8 * (x + y) - 2} (omega arith) in
    let q = pow_mono {i = 8 * y - 1} {j = 8 * (x + y) - 2} (omega arith) in
    let e : 8 * (x + y) - 1 ≡ 1 + (8 * (x + y) - 2) = omega arith in
    let two : 2 ^ (8 * (x + y) - 1) ≡ 2 * 2 ^ (8 * (x + y) - 2) = ap (λ n. 2 ^ n) e ∙ pow-add 2 1 (8 * (x + y) - 2) in
    omega (arith, p, q, two)

pub fewest-sum : (a b : ℕ) → a + b < 2 ^ 63 → fewest (a + b) ≤ fewest a + fewest b
fewest-sum a b small =
    let f = fewest-is a (omega arith) in
    let g = fewest-is b (omega arith) in
    (fewest-is (a + b) small).least (fewest a + fewest b) (omega (arith, f.some))
    (omega (arith, f.holds, g.holds, power-sum (fewest a) (fewest b) f.some g.some))

-- of signed numbers
abbrev pub IsSmall : ℤ → Type 0
IsSmall (pos n) = n < 2 ^ 62
IsSmall (negsuc n) = n < 2 ^ 62

pub bytes-sum : (x y z : ℤ) → z ≡ x +ℤ y → IsSmall x → IsSmall y → number_bytes z ≤ number_bytes x + number_bytes y
bytes-sum (pos a) (pos b) (pos c) e p q =
    let s : c ≡ a + b = omega (arith, ints) in omega (arith, ap fewest s, fewest-sum a b (omega arith))
bytes-sum (pos a) (pos b) (negsuc c) e p q = absurd (omega (arith, ints))
bytes-sum (pos a) (negsuc b) (pos c) e p q = let s : c ≤ a = omega (arith, ints) in omega (arith, fewest-mono c a s (omega arith))
bytes-sum (pos a) (negsuc b) (negsuc c) e p q = let s : c ≤ b = omega (arith, ints) in omega (arith, fewest-mono c b s (omega arith))
bytes-sum (negsuc a) (pos b) (pos c) e p q = let s : c ≤ b = omega (arith, ints) in omega (arith, fewest-mono c b s (omega arith))
bytes-sum (negsuc a) (pos b) (negsuc c) e p q = let s : c ≤ a = omega (arith, ints) in omega (arith, fewest-mono c a s (omega arith))
bytes-sum (negsuc a) (negsuc b) (pos c) e p q = absurd (omega (arith, ints))
bytes-sum (negsuc a) (negsuc b) (negsuc c) e p q =
    let s : c ≡ a + b + 1 = omega (arith, ints) in
    let f = fewest-is a (omega arith) in
    let g = fewest-is b (omega arith) in
    (fewest-is c (omega arith)).least (fewest a + fewest b) (omega (arith, f.some))
    (omega (arith, s, f.holds, g.holds, power-sum (fewest a) (fewest b) f.some g.some))

pub bytes-few : (z : ℤ) → number_bytes z ≤ 8
bytes-few (pos n) = fewest-few n
bytes-few (negsuc n) = fewest-few n

-- a number that is spelled so takes so many
pub spelled-length : (z : ℤ) (text : List ℕ) → IsSmall z → SpellsShortest text z → length text ≡ number_bytes z
spelled-length (pos n) text small is =
    length-shortest (fewest n) _ (pos n) (pos n) text refl
    (shortest_number (pos n) (fewest n) n refl (fewest-is n (omega arith))) is
spelled-length (negsuc n) text small is =
    length-shortest (fewest n) _ (negsuc n) (negsuc n) text refl
    (shortest_negative (negsuc n) (fewest n) n (fewest-few n) refl (fewest-is n (omega arith))) is

-- a length too
pub spelled-count : (n : ℕ) (text : List ℕ) → n < 2 ^ 63 → SpellsShortest text (pos n) → length text ≡ fewest n
spelled-count n text small is =
    length-shortest (fewest n) _ (pos n) (pos n) text refl (shortest_number (pos n) (fewest n) n refl (fewest-is n small)) is
