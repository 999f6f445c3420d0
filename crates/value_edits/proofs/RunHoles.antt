-- RUNS AND THEIR CLUSTERS: a list of runs has a hole where it owns fewer clusters than it covers, and as many as its places tell.
use Rattle.std.proofs.Common.{◌≡◌, ◌≤◌, ◌<◌, ◌+◌, ◌||◌, ℕ, zero, suc, Bool, true, false, cond, List, [], ◌∷◌, length, Option, Some, None}
use Rattle.std.proofs.Common.{refl, sym, ap, inl, inr, ◌∙◌, arith}
use Rattle.std.specs.List.{list_any, range_with_len}
use Rattle.std.specs.Prelude.{count_by, is_none, is_some, slice_get, sum_by}
use Rattle.std.proofs.lemmas.Bool.{cases_Bool, or_parts}
use Rattle.std.proofs.lemmas.List.Sums.{sum_by-cons}
use Rattle.ntfs_def.specs.Attribute.{Body, NonResident, Resident, ExtentHeader}
use Rattle.ntfs_def.specs.Runs.{IsRunListFrom, clusters_of, spot_in, spot_of, total_clusters}
use Rattle.ntfs_def.specs.declared.run_text.Run.{Run}
use Rattle.ntfs_def.proofs.RunLaws.{MeansFrom-IsRunList}
use Rattle.ntfs_def.proofs.RunsInLaws.{means-runs_in}
use Rattle.volume_def.specs.Files.{Clusters, content_of, content_runs}
use Rattle.tree_model.specs.StreamRoom.{is_cluster}
use Rattle.data_runs.proofs.PieceLaws.{total-is}
use Rattle.edit_def.specs.Purses.{run_size}
use Rattle.record_edits.proofs.RunTimes.{size-clusters}

-- one of them is a hole
abbrev pub has_hole_in : List Run → Bool
has_hole_in runs = list_any (λ run. is_none run.lcn) runs

size-most : (run : Run) → run_size run ≤ run.len
size-most run = by run.lcn
  where
    by : (lcn : Option ℕ) → cond (is_some lcn) run.len 0 ≤ run.len
    by None = omega arith
    by (Some place) = omega arith

size-by : (run : Run) → is_none run.lcn ≡ false → run_size run ≡ run.len
size-by run placed = by run.lcn placed
  where
    by : (lcn : Option ℕ) → is_none lcn ≡ false → cond (is_some lcn) run.len 0 ≡ run.len
    by None e = cc
    by (Some place) e = refl

size-hole : (run : Run) → is_none run.lcn ≡ true → run_size run ≡ 0
size-hole run hole = by run.lcn hole
  where
    by : (lcn : Option ℕ) → is_none lcn ≡ true → cond (is_some lcn) run.len 0 ≡ 0
    by None e = refl
    by (Some place) e = cc

sizes-most : (runs : List Run) → sum_by run_size runs ≤ total_clusters runs
sizes-most [] = omega arith
sizes-most (run ∷ runs) =
    omega (arith, sum_by-cons run_size run runs, sum_by-cons (λ (r : Run). r.len) run runs, size-most run, sizes-most runs)

-- without a hole they own all that they cover
pub placed-all : (runs : List Run) → has_hole_in runs ≡ false → sum_by run_size runs ≡ total_clusters runs
placed-all [] none = refl
placed-all (run ∷ runs) none =
    let both = or_parts (is_none run.lcn) (has_hole_in runs) none in
    omega (arith, sum_by-cons run_size run runs, sum_by-cons (λ (r : Run). r.len) run runs, size-by run both.0, placed-all runs both.1)

-- with one, where each has a cluster, fewer
pub holed-fewer : (total : ℕ) (runs : List Run) → IsRunListFrom total runs → has_hole_in runs ≡ true
    → sum_by run_size runs < total_clusters runs
holed-fewer total [] list some = cc
holed-fewer total (run ∷ runs) list some =
    let own = sum_by-cons run_size run runs in
    let all = sum_by-cons (λ (r : Run). r.len) run runs in
    elim (cases_Bool (is_none run.lcn)) as (λ _. sum_by run_size (run ∷ runs) < total_clusters (run ∷ runs)) [
      | inl hole ↦ omega (arith, own, all, size-hole run hole, sizes-most runs, list.0)
      | inr placed ↦
          let later : has_hole_in runs ≡ true = sym (ap (λ b. b || has_hole_in runs) placed) ∙ some in
          let fewer = holed-fewer (total + run.len) runs list.3 later in
          omega (arith, own, all, size-most run, fewer)
    ]

-- the runs of a text are such a list
pub text-list : (body : Body) (extent : ExtentHeader) (runs : List Run) → content_of body ≡ Clusters extent (Some runs)
    → IsRunListFrom 0 runs
text-list (Resident value) extent runs is = cc
text-list (NonResident other text) extent runs is =
    MeansFrom-IsRunList text 0 0 runs (means-runs_in text runs (ap content_runs is))

-- HOW MANY OF THEIR CLUSTERS have a place, counted by number
shifted : (p : ℕ → Bool) (from to n : ℕ) → to ≡ suc from
    → count_by p (range_with_len to n) ≡ count_by (λ k. p (suc k)) (range_with_len from n)
shifted p from to zero e = refl
shifted p from to (suc n) e =
    let next : to + 1 ≡ suc (from + 1) = omega (arith, e) in
    sum_by-cons (λ k. cond (p k) 1 0) to (range_with_len (to + 1) n)
    ∙ ap (λ k. cond (p k) 1 0 + count_by p (range_with_len (to + 1) n)) e
    ∙ ap (λ k. cond (p (suc from)) 1 0 + k) (shifted p (from + 1) (to + 1) n next)
    ∙ sym (sum_by-cons (λ k. cond (p (suc k)) 1 0) from (range_with_len (from + 1) n))

counted : (xs : List (Option ℕ))
    → count_by (λ k. is_cluster (spot_in (slice_get xs k))) (range_with_len 0 (length xs)) ≡ count_by is_some xs
counted [] = refl
counted (x ∷ xs) =
    sum_by-cons (λ k. cond (is_cluster (spot_in (slice_get (x ∷ xs) k))) 1 0) 0 (range_with_len 1 (length xs))
    ∙ ap (λ k. cond (is_cluster (spot_in (Some x))) 1 0 + k)
    (shifted (λ k. is_cluster (spot_in (slice_get (x ∷ xs) k))) 0 1 (length xs) refl ∙ counted xs)
    ∙ ap (λ (b : Bool). cond b 1 0 + count_by is_some xs) (its x)
    ∙ sym (sum_by-cons (λ (o : Option ℕ). cond (is_some o) 1 0) x xs)
  where
    its : (o : Option ℕ) → is_cluster (spot_in (Some o)) ≡ is_some o
    its None = refl
    its (Some c) = refl

pub owned-count : (runs : List Run)
    → count_by (λ k. is_cluster (spot_of runs k)) (range_with_len 0 (total_clusters runs)) ≡ sum_by run_size runs
owned-count runs =
    ap (λ n. count_by (λ k. is_cluster (spot_of runs k)) (range_with_len 0 n)) (sym (total-is runs))
    ∙ counted (clusters_of runs) ∙ sym (size-clusters runs)
