-- A RUN PUT IN PLACE of as many clusters, as a list of runs.
use Rattle.std.proofs.Common.{◌≡◌, ◌<◌, ◌≤◌, ◌+◌, ◌-◌, ℕ, zero, suc, cond, List, [], ◌∷◌, ◌++◌, length, take, drop, min}
use Rattle.std.proofs.Common.{Option, Some, None, ◌⊎◌, refl, sym, ap, inl, inr, ◌∙◌, arith, append_assoc, if◌then◌else◌}
use Rattle.std.specs.Prelude.{nat_lt}
use Rattle.std.specs.Option.{option_map}
use Rattle.std.proofs.lemmas.Bool.{cases_lt, le-ltb, lt-ltb}
use Rattle.std.proofs.lemmas.List.{drop_all, take-append-le, take_all}
use Rattle.ntfs_def.specs.declared.run_text.Run.{Run}
use Rattle.ntfs_def.specs.Runs.{EndsInReach, clusters_of, run_clusters}
use Rattle.data_runs.specs.Left.{without_first}
use Rattle.data_runs.specs.Pieces.{with_run}
use Rattle.data_runs.proofs.PieceLaws.{clusters_of-append, clusters_of-one, drop-append, length-run_clusters, run_clusters-part}
use Rattle.data_runs.proofs.PieceLaws.{take-append}
use Rattle.data_runs.proofs.PieceLaws.{window-front, window-rest}
use Rattle.run_texts.proofs.TextBytes.{AreRuns, width-cons}

-- the first clusters of a run, as a run where there are any
abbrev pub first_of : Run → ℕ → List Run
first_of x zero = []
first_of x (suc n) = record { len = suc n; lcn = x.lcn } ∷ []

-- the runs behind so many clusters
abbrev pub cut_back : List Run → ℕ → List Run
cut_back [] n = []
cut_back (x ∷ xs) n = if nat_lt n x.len then without_first x n ∷ xs else cut_back xs (n - x.len)

abbrev pub put_in : List Run → ℕ → Run → List Run
put_in [] at run = run ∷ []
put_in (x ∷ xs) at run =
    if nat_lt at x.len then first_of x at ++ (run ∷ cut_back (x ∷ xs) (at + run.len)) else x ∷ put_in xs (at - x.len) run

-- ITS CLUSTERS
no-way : (lcn : Option ℕ) (n : ℕ) → n ≡ 0 → lcn ≡ option_map (λ place. place + n) lcn
no-way None n e = refl
no-way (Some place) n e = ap Some (omega (arith, e))

first-clusters : (x : Run) (n : ℕ) → n < x.len → clusters_of (first_of x n) ≡ take n (run_clusters x)
unfolding clusters_of
first-clusters x zero h = refl
first-clusters x (suc n) h =
    let part : Run = record { len = suc n; lcn = x.lcn } in
    clusters_of-one part
    ∙ run_clusters-part x part 0 (suc n) (omega arith) (no-way x.lcn (min 0 x.len) (omega arith))
    ∙ window-front (suc n) (run_clusters x)

without-clusters : (x : Run) (n : ℕ) → n < x.len → run_clusters (without_first x n) ≡ drop n (run_clusters x)
without-clusters x n h =
    let least : n ≡ min n x.len = omega arith in
    run_clusters-part x (without_first x n) n x.len (omega arith) (ap (λ k. option_map (λ place. place + k) x.lcn) least)
    ∙ window-rest n x.len (run_clusters x) (omega (arith, length-run_clusters x))

drop-past : (x : Run) (xs : List Run) (n : ℕ) → x.len ≤ n → drop n (clusters_of (x ∷ xs)) ≡ drop (n - x.len) (clusters_of xs)
unfolding clusters_of
drop-past x xs n h =
    let size = length-run_clusters x in
    drop-append n (run_clusters x) (clusters_of xs)
    ∙ ap (λ l. l ++ drop (n - length (run_clusters x)) (clusters_of xs)) (drop_all n (run_clusters x) (omega (arith, size)))
    ∙ ap (λ k. drop (n - k) (clusters_of xs)) size

back-clusters : (xs : List Run) (n : ℕ) → clusters_of (cut_back xs n) ≡ drop n (clusters_of xs)
unfolding clusters_of
back-clusters [] n = sym (drop_all n [] (omega arith))
back-clusters (x ∷ xs) n = elim (cases_lt n x.len) as (λ _. clusters_of (cut_back (x ∷ xs) n) ≡ drop n (clusters_of (x ∷ xs))) [
  | inl l ↦
      let size = length-run_clusters x in
      let none : n - length (run_clusters x) ≡ 0 = omega (arith, size) in
      ap (λ b. clusters_of (cond b (without_first x n ∷ xs) (cut_back xs (n - x.len)))) (lt-ltb n x.len l)
      ∙ ap (λ l. l ++ clusters_of xs) (without-clusters x n l)
      ∙ sym (drop-append n (run_clusters x) (clusters_of xs) ∙ ap (λ k. drop n (run_clusters x) ++ drop k (clusters_of xs)) none)
  | inr g ↦
      ap (λ b. clusters_of (cond b (without_first x n ∷ xs) (cut_back xs (n - x.len)))) (le-ltb n x.len g)
      ∙ back-clusters xs (n - x.len) ∙ sym (drop-past x xs n g)
]

take-within : (x : Run) (xs : List Run) (n : ℕ) → n < x.len → take n (clusters_of (x ∷ xs)) ≡ take n (run_clusters x)
unfolding clusters_of
take-within x xs n h = take-append-le n (run_clusters x) (clusters_of xs) (omega (arith, length-run_clusters x))

take-past : (x : Run) (xs : List Run) (n : ℕ) → x.len ≤ n
    → take n (clusters_of (x ∷ xs)) ≡ run_clusters x ++ take (n - x.len) (clusters_of xs)
unfolding clusters_of
take-past x xs n h =
    let size = length-run_clusters x in
    take-append n (run_clusters x) (clusters_of xs)
    ∙ ap (λ l. l ++ take (n - length (run_clusters x)) (clusters_of xs)) (take_all n (run_clusters x) (omega (arith, size)))
    ∙ ap (λ k. run_clusters x ++ take (n - k) (clusters_of xs)) size

pub put-clusters : (xs : List Run) (at : ℕ) (run : Run) → at < length (clusters_of xs)
    → clusters_of (put_in xs at run) ≡ take at (clusters_of xs) ++ (run_clusters run ++ drop (at + run.len) (clusters_of xs))
unfolding clusters_of
put-clusters [] at run h = absurd (omega (arith, h))
put-clusters (x ∷ xs) at run h = elim (cases_lt at x.len)
    as (λ _. clusters_of (put_in (x ∷ xs) at run)
    ≡ take at (clusters_of (x ∷ xs)) ++ (run_clusters run ++ drop (at + run.len) (clusters_of (x ∷ xs)))) [
      | inl l ↦
          let rest = cut_back (x ∷ xs) (at + run.len) in
          ap (λ b. clusters_of (cond b (first_of x at ++ (run ∷ rest)) (x ∷ put_in xs (at - x.len) run))) (lt-ltb at x.len l)
          ∙ clusters_of-append (first_of x at) (run ∷ rest)
          ∙ ap (λ l. l ++ (run_clusters run ++ clusters_of rest)) (first-clusters x at l ∙ sym (take-within x xs at l))
          ∙ ap (λ l. take at (clusters_of (x ∷ xs)) ++ (run_clusters run ++ l)) (back-clusters (x ∷ xs) (at + run.len))
      | inr g ↦
          let cl = clusters_of xs in
          let far : at - x.len + run.len ≡ at + run.len - x.len = omega arith in
          let count = width-cons x xs in
          ap (λ b. clusters_of (cond b (first_of x at ++ (run ∷ cut_back (x ∷ xs) (at + run.len))) (x ∷ put_in xs (at - x.len) run)))
          (le-ltb at x.len g)
          ∙ ap (λ l. run_clusters x ++ l) (put-clusters xs (at - x.len) run (omega (arith, h, count)))
          ∙ sym (append_assoc (run_clusters x) (take (at - x.len) cl) (run_clusters run ++ drop (at - x.len + run.len) cl))
          ∙ ap (λ k. (run_clusters x ++ take (at - x.len) cl) ++ (run_clusters run ++ drop k cl)) far
          ∙ ap (λ l. l ++ (run_clusters run ++ drop (at + run.len - x.len) cl)) (sym (take-past x xs at g))
          ∙ ap (λ l. take at (clusters_of (x ∷ xs)) ++ (run_clusters run ++ l)) (sym (drop-past x xs (at + run.len) (omega arith)))
    ]

pub put-with_run : (xs : List Run) (at : ℕ) (run : Run) → at < length (clusters_of xs)
    → clusters_of (put_in xs at run) ≡ with_run (clusters_of xs) at run
unfolding with_run
put-with_run xs at run h = put-clusters xs at run h

-- EACH IS A RUN
reach-less : (len less : ℕ) (lcn : Option ℕ) → less ≤ len → EndsInReach len lcn → EndsInReach less lcn
reach-less len less None le reach = tt
reach-less len less (Some place) le reach = omega (arith, le, reach)

reach-behind : (len n : ℕ) (lcn : Option ℕ) → n < len → EndsInReach len lcn → EndsInReach (len - n) (option_map (λ place. place + n) lcn)
reach-behind len n None lt reach = tt
reach-behind len n (Some place) lt reach = omega (arith, lt, reach)

runs-first : (x : Run) (n : ℕ) (rest : List Run) → EndsInReach x.len x.lcn → n < x.len → AreRuns rest → AreRuns (first_of x n ++ rest)
runs-first x zero rest reach h are = are
runs-first x (suc n) rest reach h are = (omega arith, reach-less x.len (suc n) x.lcn (omega (arith, h)) reach, are)

runs-back : (xs : List Run) (n : ℕ) → AreRuns xs → AreRuns (cut_back xs n)
runs-back [] n are = tt
runs-back (x ∷ xs) n are = by (cases_lt n x.len) (runs-back xs (n - x.len) are.2)
  where
    by : (n < x.len) ⊎ (x.len ≤ n) → AreRuns (cut_back xs (n - x.len)) → AreRuns (cut_back (x ∷ xs) n)
    by (inl l) ih = rw (lt-ltb n x.len l) (omega (arith, l), reach-behind x.len n x.lcn l are.1, are.2)
    by (inr g) ih = rw (le-ltb n x.len g) ih

pub runs-put : (xs : List Run) (at : ℕ) (run : Run) → AreRuns xs → 0 < run.len → EndsInReach run.len run.lcn → AreRuns (put_in xs at run)
runs-put [] at run are some reach = (some, reach, tt)
runs-put (x ∷ xs) at run are some reach = by (cases_lt at x.len) (runs-put xs (at - x.len) run are.2 some reach)
  where
    by : (at < x.len) ⊎ (x.len ≤ at) → AreRuns (put_in xs (at - x.len) run) → AreRuns (put_in (x ∷ xs) at run)
    by (inl l) ih =
        rw (lt-ltb at x.len l) (runs-first x at (run ∷ cut_back (x ∷ xs) (at + run.len)) are.1 l
        (some, reach, runs-back (x ∷ xs) (at + run.len) are))
    by (inr g) ih = rw (le-ltb at x.len g) (are.0, are.1, ih)
