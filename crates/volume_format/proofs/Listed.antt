-- From each record of a list to each number.
use Rattle.std.proofs.Common.{◌≡◌, ℕ, zero, suc, ◌+◌, ◌<◌, ◌≤◌, refl, List, [], ◌∷◌, Option, Some, None, length, subst, arith}
use Rattle.std.proofs.lemmas.Option.{none-some}
use Rattle.std.specs.Prelude.{IfSome}
use Rattle.volume_def.specs.Files.{Record}
use Rattle.volume_format.specs.Plan.{record_in_list}

-- what holds of each record of a list, by its number, from k on
abbrev pub EachFrom : (ℕ → Record → Type 0) → ℕ → List (Option Record) → Type 0
EachFrom P k [] = Unit {0}
EachFrom P k (r ∷ records) = IfSome r (P k) × EachFrom P (suc k) records

pub EachFrom-record_in_list : (P : ℕ → Record → Type 0) (k : ℕ) (records : List (Option Record)) → EachFrom P k records → (n m : ℕ)
    → m ≡ k + n → IfSome (record_in_list records n) (P m)
EachFrom-record_in_list P k [] each n m e = tt
EachFrom-record_in_list P k (r ∷ rs) each zero m e = subst (λ j. IfSome r (P j)) (omega arith) each.0
EachFrom-record_in_list P k (r ∷ rs) each (suc n) m e = EachFrom-record_in_list P (suc k) rs each.1 n m (omega arith)

-- what is claimed of a record that may be there
pub IfSome-from : (o : Option Record) (Q : Record → Type 0) → ((r : Record) → o ≡ Some r → Q r) → IfSome o Q
IfSome-from None Q each = tt
IfSome-from (Some r) Q each = each r refl

pub record_in_list-inside : (records : List (Option Record)) (n : ℕ) (r : Record) → record_in_list records n ≡ Some r → n < length records
record_in_list-inside [] n r e = absurd (none-some r e)
record_in_list-inside (o ∷ os) zero r e = omega arith
record_in_list-inside (o ∷ os) (suc n) r e = let h = record_in_list-inside os n r e in omega arith

pub record_in_list-past : (records : List (Option Record)) (n : ℕ) → length records ≤ n → record_in_list records n ≡ None
record_in_list-past [] n le = refl
record_in_list-past (o ∷ os) zero le = absurd (omega arith)
record_in_list-past (o ∷ os) (suc n) le = record_in_list-past os n (omega arith)
