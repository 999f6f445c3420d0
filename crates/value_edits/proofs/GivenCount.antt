-- HOW MANY CLUSTERS ARE GIVEN BACK where attributes lost the clusters of these runs, and how many are taken.
use Rattle.std.proofs.Common.{◌≡◌, ◌≤◌, ◌+◌, ◌&&◌, ◌==◌, not, ℕ, zero, suc, cond, List, [], ◌∷◌, Option, None, Some, true, refl, sym, inl}
use Rattle.std.proofs.Common.{inr, ◌∙◌, arith}
use Rattle.std.specs.List.{range_with_len}
use Rattle.std.specs.Prelude.{count_by, is_some, nat_le, nat_lt, sum_by}
use Rattle.std.proofs.lemmas.Bool.{cases_lt, eq-eqb}
use Rattle.std.proofs.lemmas.Bool.Decides.{nat_tests}
use Rattle.std.proofs.lemmas.List.Sums.{sum_by-cons}
use Rattle.list_laws.proofs.FindLaws.{count-cons, count-yes}
use Rattle.ntfs_def.specs.Runs.{clusters_of}
use Rattle.ntfs_def.specs.declared.run_text.Run.{Run}
use Rattle.volume_def.specs.Coverage.{times_covered}
use Rattle.volume_def.specs.Files.{records_of}
use Rattle.volume_def.specs.OwnersClause.{times_owned}
use Rattle.volume_def.specs.View.{VolumeView}
use Rattle.edit_def.specs.Purses.{one_if, run_size}
use Rattle.edit_def.proofs.SumLaws.{sum-rule}
use Rattle.record_edits.specs.Owners.{is_at}
use Rattle.record_edits.proofs.RunTimes.{size-clusters, times-clusters}
use Rattle.session_def.specs.Cost.{given_back, is_owned}

sum-below : (f g : ℕ → ℕ) → ((c : ℕ) → f c ≤ g c) → (xs : List ℕ) → sum_by f xs ≤ sum_by g xs
sum-below f g below [] = omega arith
sum-below f g below (x ∷ xs) = omega (arith, sum_by-cons f x xs, sum_by-cons g x xs, below x, sum-below f g below xs)

sum-both : (f g : ℕ → ℕ) (xs : List ℕ) → sum_by (λ c. f c + g c) xs ≡ sum_by f xs + sum_by g xs
sum-both f g [] = refl
sum-both f g (x ∷ xs) = omega (arith, sum_by-cons f x xs, sum_by-cons g x xs, sum_by-cons (λ c. f c + g c) x xs, sum-both f g xs)

-- one of the numbers from a on
point-sum : (p a n : ℕ) → sum_by (λ c. cond (p == c) 1 0) (range_with_len a n) ≡ one_if (nat_le a p && nat_lt p (a + n))
point-sum p a zero = grind (arith, nat_tests)
point-sum p a (suc n) =
    let step = sum_by-cons (λ c. cond (p == c) 1 0) a (range_with_len (a + 1) n) in
    let more = point-sum p (a + 1) n in
    step ∙ grind (arith, nat_tests, more)

-- THE PLACES of clusters, counted by where they lie
each-place : (x : Option ℕ) (xs : List (Option ℕ)) (n : ℕ) → ((c : ℕ) → n ≤ c → count_by (is_at c) (x ∷ xs) ≡ 0)
    → cond (is_some x) 1 0 + sum_by (λ c. count_by (is_at c) xs) (range_with_len 0 n)
    ≤ sum_by (λ c. count_by (is_at c) (x ∷ xs)) (range_with_len 0 n)
each-place None xs n past =
    let below = sum-below (λ c. count_by (is_at c) xs) (λ c. count_by (is_at c) (None ∷ xs))
    (λ c. omega (arith, count-cons (is_at c) None xs)) (range_with_len 0 n) in
    omega (arith, below)
each-place (Some p) xs n past =
    let own = point-sum p 0 n in
    let both = sum-both (λ c. cond (p == c) 1 0) (λ c. count_by (is_at c) xs) (range_with_len 0 n) in
    let all = sum-rule (λ c. count_by (is_at c) (Some p ∷ xs)) (λ c. cond (p == c) 1 0 + count_by (is_at c) xs)
    (λ c. count-cons (is_at c) (Some p) xs) (range_with_len 0 n) in
    let inside : one_if (nat_le 0 p && nat_lt p (0 + n)) ≡ 1 = within in
    omega (arith, own, both, all, inside)
  where
    at-own : is_at p (Some p) ≡ true
    at-own = eq-eqb p p refl

    within : one_if (nat_le 0 p && nat_lt p (0 + n)) ≡ 1
    within = elim (cases_lt p n) [
      | inl lt ↦ grind (arith, nat_tests, lt)
      | inr le ↦ absurd (let none = past p le in let one = count-yes (is_at p) (Some p) xs at-own in omega (arith, none, one))
    ]

placed-sum : (xs : List (Option ℕ)) (n : ℕ) → ((c : ℕ) → n ≤ c → count_by (is_at c) xs ≡ 0)
    → count_by is_some xs ≤ sum_by (λ c. count_by (is_at c) xs) (range_with_len 0 n)
placed-sum [] n past = omega arith
placed-sum (x ∷ xs) n past =
    let rest = placed-sum xs n (λ c le. let all = past c le in let step = count-cons (is_at c) x xs in omega (arith, all, step)) in
    let head = each-place x xs n past in
    let step = count-cons is_some x xs in
    omega (arith, rest, head, step)

one-given : (given now was : ℕ) → given + now ≡ was → was ≤ 1 → given ≤ cond (nat_le 1 was && not (nat_le 1 now)) 1 0
one-given given now was all once = grind (arith, nat_tests, all, once)

pub few-given : (old new : VolumeView) (runs : List Run)
    → ((c : ℕ) → times_covered runs c + times_owned (records_of new) c ≡ times_owned (records_of old) c)
    → ((c : ℕ) → times_owned (records_of old) c ≤ 1) → ((c : ℕ) → old.layout.clusters ≤ c → times_owned (records_of old) c ≡ 0)
    → sum_by run_size runs ≤ given_back old new
unfolding given_back
few-given old new runs all once outside =
    let size = size-clusters runs in
    let placed = placed-sum (clusters_of runs) old.layout.clusters (λ c past. sym (times-clusters runs c)
    ∙ (let own = all c in let none = outside c past in omega (arith, own, none))) in
    let times = sum-rule (λ c. count_by (is_at c) (clusters_of runs)) (λ c. times_covered runs c) (λ c. sym (times-clusters runs c))
    (range_with_len 0 old.layout.clusters) in
    let each = sum-below (λ c. times_covered runs c) (λ c. cond (is_owned old c && not (is_owned new c)) 1 0)
    (λ c. one-given (times_covered runs c) (times_owned (records_of new) c) (times_owned (records_of old) c) (all c) (once c))
    (range_with_len 0 old.layout.clusters) in
    omega (arith, size, placed, times, each)

-- HOW MANY ARE TAKEN: as many as the runs have that came, where none went ..
pub few-taken : (old new : VolumeView) (runs : List Run)
    → ((c : ℕ) → times_owned (records_of new) c ≡ times_owned (records_of old) c + times_covered runs c)
    → ((c : ℕ) → times_owned (records_of new) c ≤ 1) → ((c : ℕ) → new.layout.clusters ≤ c → times_owned (records_of new) c ≡ 0)
    → sum_by run_size runs ≤ given_back new old
few-taken old new runs all once outside = few-given new old runs (λ c. omega (arith, all c)) once outside

-- .. and no more, whether some went or not
sum-none : (f : ℕ → ℕ) → ((c : ℕ) → f c ≡ 0) → (xs : List ℕ) → sum_by f xs ≡ 0
sum-none f none [] = refl
sum-none f none (x ∷ xs) = omega (arith, sum_by-cons f x xs, none x, sum-none f none xs)

place-most : (x : Option ℕ) (n : ℕ) → sum_by (λ c. cond (is_at c x) 1 0) (range_with_len 0 n) ≤ cond (is_some x) 1 0
place-most None n = let none = sum-none (λ c. 0) (λ c. refl) (range_with_len 0 n) in omega (arith, none)
place-most (Some p) n = let one = point-sum p 0 n in grind (arith, nat_tests, one)

placed-most : (xs : List (Option ℕ)) (n : ℕ) → sum_by (λ c. count_by (is_at c) xs) (range_with_len 0 n) ≤ count_by is_some xs
placed-most [] n = let none = sum-none (λ c. count_by (is_at c) []) (λ c. refl) (range_with_len 0 n) in omega (arith, none)
placed-most (x ∷ xs) n =
    let all = sum-rule (λ c. count_by (is_at c) (x ∷ xs)) (λ c. cond (is_at c x) 1 0 + count_by (is_at c) xs)
    (λ c. count-cons (is_at c) x xs) (range_with_len 0 n) in
    let both = sum-both (λ c. cond (is_at c x) 1 0) (λ c. count_by (is_at c) xs) (range_with_len 0 n) in
    let rest = placed-most xs n in
    let here = place-most x n in
    let step = count-cons is_some x xs in
    omega (arith, all, both, rest, here, step)

one-taken : (given now was taken : ℕ) → now + given ≡ was + taken → cond (nat_le 1 now && not (nat_le 1 was)) 1 0 ≤ taken
one-taken given now was taken all = grind (arith, nat_tests, all)

pub most-taken : (old new : VolumeView) (given taken : List Run)
    → ((c : ℕ) → times_owned (records_of new) c + times_covered given c ≡ times_owned (records_of old) c + times_covered taken c)
    → given_back new old ≤ sum_by run_size taken
unfolding given_back
most-taken old new given taken all =
    let most = placed-most (clusters_of taken) new.layout.clusters in
    let times = sum-rule (λ c. count_by (is_at c) (clusters_of taken)) (λ c. times_covered taken c) (λ c. sym (times-clusters taken c))
    (range_with_len 0 new.layout.clusters) in
    let each = sum-below (λ c. cond (is_owned new c && not (is_owned old c)) 1 0) (λ c. times_covered taken c)
    (λ c. one-taken (times_covered given c) (times_owned (records_of new) c) (times_owned (records_of old) c) (times_covered taken c)
    (all c)) (range_with_len 0 new.layout.clusters) in
    omega (arith, size-clusters taken, most, times, each)
