-- HOW OFTEN runs cover a cluster, by the clusters of their stream: what `fill_hole` and `make_hole` say, for the owners.
use Rattle.std.proofs.Common.{◌≡◌, ◌<◌, ◌≤◌, ◌+◌, ◌&&◌, ℕ, zero, suc, Bool, cond, List, [], ◌∷◌, ◌++◌, map, take, drop, Option}
use Rattle.std.proofs.Common.{Some, None, refl, ap, ◌∙◌, arith}
use Rattle.std.specs.Prelude.{count_by, is_some, nat_le, nat_lt, slice_get, sum_by}
use Rattle.std.specs.Option.{option_map}
use Rattle.std.specs.List.{range_with_len}
use Rattle.std.proofs.lemmas.Bool.Decides.{nat_tests}
use Rattle.std.proofs.lemmas.List.{take-append-drop, drop-drop}
use Rattle.std.proofs.lemmas.List.Sums.{sum_by-append, sum_by-cons}
use Rattle.ntfs_def.specs.declared.run_text.Run.{Run}
use Rattle.ntfs_def.specs.Runs.{clusters_of, run_clusters, spot_in, spot_of}
use Rattle.ntfs_def.specs.declared.run_text.Spot.TheVariants.{Outside}
use Rattle.volume_def.specs.Coverage.{has_cluster, is_in_run, times_covered}
use Rattle.edit_def.specs.Purses.{one_if, run_size}
use Rattle.record_edits.specs.Owners.{is_at}

count-step : {X : Type 0} (p : X → Bool) (x : X) (xs : List X) → count_by p (x ∷ xs) ≡ cond (p x) 1 0 + count_by p xs
count-step p x xs = sum_by-cons (λ x. cond (p x) 1 0) x xs

hole-times : (c from len : ℕ) → count_by (is_at c) (map (λ k. option_map (λ place. place + k) None) (range_with_len from len)) ≡ 0
hole-times c from zero = refl
hole-times c from (suc len) = count-step (is_at c) None (map (λ k. option_map (λ place. place + k) None) (range_with_len
    (from + 1) len)) ∙ omega (arith, hole-times c (from + 1) len)

placed-times : (c p from len : ℕ) → count_by (is_at c) (map (λ k. option_map (λ place. place + k) (Some p))
    (range_with_len from len)) ≡ one_if (nat_le (p + from) c && nat_lt c (p + from + len))
placed-times c p from zero = grind (arith, nat_tests)
placed-times c p from (suc len) =
    let step = count-step (is_at c) (Some (p + from)) (map (λ k. option_map (λ place. place + k) (Some p)) (range_with_len
    (from + 1) len)) in
    let more = placed-times c p (from + 1) len in
    step ∙ grind (arith, nat_tests, more)

run-times : (run : Run) (c : ℕ) → count_by (is_at c) (run_clusters run) ≡ cond (has_cluster c run) 1 0
run-times run c = by run.lcn
  where
    by : (lcn : Option ℕ) → count_by (is_at c) (map (λ k. option_map (λ place. place + k) lcn) (range_with_len 0 run.len)) ≡ cond
        (is_in_run lcn run.len c) 1 0
    by None = hole-times c 0 run.len
    by (Some p) =
        let e : p + 0 ≡ p = omega arith in
        placed-times c p 0 run.len ∙ ap (λ q. one_if (nat_le q c && nat_lt c (q + run.len))) e

pub times-clusters : (runs : List Run) (c : ℕ) → times_covered runs c ≡ count_by (is_at c) (clusters_of runs)
unfolding clusters_of
times-clusters [] c = refl
times-clusters (run ∷ runs) c =
    omega (
      arith,
      count-step (has_cluster c) run runs,
      sum_by-append (λ x. cond (is_at c x) 1 0) (run_clusters run) (clusters_of runs),
      run-times run c,
      times-clusters runs c,
    )

-- A RUN IN PLACE OF AS MANY CLUSTERS: those that it replaces go, and its own come
pub times-put : (old new : List Run) (at : ℕ) (run : Run) (c : ℕ)
    → clusters_of new ≡ take at (clusters_of old) ++ (run_clusters run ++ drop (at + run.len) (clusters_of old))
    → times_covered new c + count_by (is_at c) (take run.len (drop at (clusters_of old))) ≡ times_covered old c + cond
    (has_cluster c run) 1 0
times-put old new at run c e =
    let all = clusters_of old in
    let count = λ (xs : List (Option ℕ)). count_by (is_at c) xs in
    let now : count (clusters_of new) ≡ count (take at all) + (count (run_clusters run) + count (drop (at + run.len) all)) =
    ap (count_by (is_at c)) e ∙ sum_by-append (λ x. cond (is_at c x) 1 0) (take at all) (run_clusters run ++ drop (at + run.len) all)
    ∙ ap (λ n. count_by (is_at c) (take at all) + n) (sum_by-append (λ x. cond (is_at c x) 1 0) (run_clusters run) (drop
    (at + run.len) all)) in
    let front = sum_by-append (λ x. cond (is_at c x) 1 0) (take at all) (drop at all) in
    let whole = ap (count_by (is_at c)) (take-append-drop at all) in
    let middle = sum_by-append (λ x. cond (is_at c x) 1 0) (take run.len (drop at all)) (drop run.len (drop at all)) in
    let rest = ap (count_by (is_at c)) (take-append-drop run.len (drop at all)) in
    let behind = ap (count_by (is_at c)) (drop-drop run.len at all) in
    omega (arith, now, front, whole, middle, rest, behind, times-clusters new c, times-clusters old c, run-times run c)

-- A LIST CUT OFF: where its clusters lie
get-take : {X : Type 0} → (n : ℕ) (xs : List X) (i : ℕ) → i < n → slice_get (take n xs) i ≡ slice_get xs i
get-take zero xs i h = absurd (omega arith)
get-take (suc n) [] i h = refl
get-take (suc n) (x ∷ xs) zero h = refl
get-take (suc n) (x ∷ xs) (suc i) h = get-take n xs i (omega arith)

get-past : {X : Type 0} → (n : ℕ) (xs : List X) (i : ℕ) → n ≤ i → slice_get (take n xs) i ≡ None
get-past zero xs i h = refl
get-past (suc n) [] i h = refl
get-past (suc n) (x ∷ xs) zero h = absurd (omega arith)
get-past (suc n) (x ∷ xs) (suc i) h = get-past n xs i (omega arith)

pub cut-inside : (old new : List Run) (n vcn : ℕ) → clusters_of new ≡ take n (clusters_of old) → vcn < n → spot_of new vcn ≡ spot_of old vcn
cut-inside old new n vcn e h = ap (λ c. spot_in (slice_get c vcn)) e ∙ ap spot_in (get-take n (clusters_of old) vcn h)

pub cut-past : (old new : List Run) (n vcn : ℕ) → clusters_of new ≡ take n (clusters_of old) → n ≤ vcn → spot_of new vcn ≡ Outside
cut-past old new n vcn e h = ap (λ c. spot_in (slice_get c vcn)) e ∙ ap spot_in (get-past n (clusters_of old) vcn h)

-- HOW MANY CLUSTERS runs own, by the clusters of their stream
hole-size : (from len : ℕ) → count_by is_some (map (λ k. option_map (λ (place : ℕ). place + k) None) (range_with_len from len)) ≡ 0
hole-size from zero = refl
hole-size from (suc len) =
    count-step is_some None (map (λ k. option_map (λ (place : ℕ). place + k) None) (range_with_len (from + 1) len)) ∙ omega (
      arith,
      hole-size (from + 1) len,
    )

placed-size : (p from len : ℕ) → count_by is_some (map (λ k. option_map (λ place. place + k) (Some p)) (range_with_len from len)) ≡ len
placed-size p from zero = refl
placed-size p from (suc len) =
    count-step is_some (Some (p + from)) (map (λ k. option_map (λ place. place + k) (Some p)) (range_with_len (from + 1) len))
    ∙ omega (arith, placed-size p (from + 1) len)

run-size : (run : Run) → count_by is_some (run_clusters run) ≡ run_size run
run-size run = by run.lcn
  where
    by : (lcn : Option ℕ) → count_by is_some (map (λ k. option_map (λ place. place + k) lcn) (range_with_len 0 run.len)) ≡ cond
        (is_some lcn) run.len 0
    by None = hole-size 0 run.len
    by (Some p) = placed-size p 0 run.len

pub size-clusters : (runs : List Run) → sum_by run_size runs ≡ count_by is_some (clusters_of runs)
unfolding clusters_of
size-clusters [] = refl
size-clusters (run ∷ runs) =
    omega (
      arith,
      sum_by-cons run_size run runs,
      sum_by-append (λ x. cond (is_some x) 1 0) (run_clusters run) (clusters_of runs),
      run-size run,
      size-clusters runs,
    )

-- A RUN IN PLACE OF AS MANY CLUSTERS: as many are owned more, or fewer
pub size-put : (old new : List Run) (at : ℕ) (run : Run)
    → clusters_of new ≡ take at (clusters_of old) ++ (run_clusters run ++ drop (at + run.len) (clusters_of old))
    → sum_by run_size new + count_by is_some (take run.len (drop at (clusters_of old))) ≡ sum_by run_size old + run_size run
size-put old new at run e =
    let all = clusters_of old in
    let count = λ (xs : List (Option ℕ)). count_by is_some xs in
    let now : count (clusters_of new) ≡ count (take at all) + (count (run_clusters run) + count (drop (at + run.len) all)) =
    ap (count_by is_some) e ∙ sum_by-append (λ x. cond (is_some x) 1 0) (take at all) (run_clusters run ++ drop (at + run.len) all)
    ∙ ap (λ n. count_by is_some (take at all) + n) (sum_by-append (λ x. cond (is_some x) 1 0) (run_clusters run) (drop
    (at + run.len) all)) in
    let front = sum_by-append (λ x. cond (is_some x) 1 0) (take at all) (drop at all) in
    let whole = ap (count_by is_some) (take-append-drop at all) in
    let middle = sum_by-append (λ x. cond (is_some x) 1 0) (take run.len (drop at all)) (drop run.len (drop at all)) in
    let rest = ap (count_by is_some) (take-append-drop run.len (drop at all)) in
    let behind = ap (count_by is_some) (drop-drop run.len at all) in
    omega (arith, now, front, whole, middle, rest, behind, size-clusters new, size-clusters old, run-size run)

pub size-cut : (old new : List Run) (n : ℕ) → clusters_of new ≡ take n (clusters_of old)
    → sum_by run_size new + count_by is_some (drop n (clusters_of old)) ≡ sum_by run_size old
size-cut old new n e =
    let all = clusters_of old in
    let whole = ap (count_by is_some) (take-append-drop n all) in
    let split = sum_by-append (λ x. cond (is_some x) 1 0) (take n all) (drop n all) in
    let cut = ap (count_by is_some) e in
    omega (arith, whole, split, cut, size-clusters old, size-clusters new)
