-- RUNS THAT COME, AND RUNS THAT GO: what an edit of one extent has to show of owners and bits.
use Rattle.std.proofs.Common.{◌≡◌, ◌<◌, ◌≤◌, ◌+◌, ℕ, Bool, true, false, cond, List, [], ◌∷◌, ◌++◌, length, take, drop, Some, None}
use Rattle.std.proofs.Common.{ap, inl, inr, arith}
use Rattle.std.specs.Prelude.{count_by, slice_get}
use Rattle.std.proofs.lemmas.Bool.{cases_eq}
use Rattle.std.proofs.lemmas.List.{append-nil, take-append-drop}
use Rattle.std.proofs.lemmas.List.Sums.{sum_by-append}
use Rattle.ntfs_def.specs.declared.run_text.Run.{Run}
use Rattle.ntfs_def.specs.Runs.{clusters_of, run_clusters}
use Rattle.volume_def.specs.Coverage.{has_cluster, times_covered}
use Rattle.volume_def.specs.Edits.{EditsAt}
use Rattle.volume_def.specs.Files.{Part, Records, joined_runs, part_runs}
use Rattle.volume_def.specs.OwnersClause.{times_owned}
use Rattle.record_edits.specs.Owners.{FollowsRuns, NamesRightly, is_at, one_of, times_at, times_in}
use Rattle.record_edits.proofs.OwnerEdits.{all_runs-edit}
use Rattle.record_edits.proofs.RunTimes.{times-clusters, times-put}

-- what an edited record names is owned
pub held : (old new : Records) (n : ℕ) (was now : List Part) → EditsAt old new n was now → (c : ℕ) → times_in was c ≤ times_owned old c
unfolding times_owned
held old new n was now e c =
    let r = all_runs-edit old new n was now e in
    let a = ap (count_by (has_cluster c)) r.old_is in
    let b = sum_by-append (λ run. cond (has_cluster c run) 1 0) r.before (joined_runs was ++ r.after) in
    let d = sum_by-append (λ run. cond (has_cluster c run) 1 0) (joined_runs was) r.after in
    omega (arith, a, b, d)

-- OWNERS: the parts of the edit have each cluster so often more, or less
pub names-came : (old new : Records) (clusters n : ℕ) (was now : List Part) (more : ℕ → ℕ) → EditsAt old new n was now
    → ((c : ℕ) → times_owned old c ≤ 1) → ((c : ℕ) → times_in now c ≡ times_in was c + more c) → ((c : ℕ) → more c ≤ 1)
    → ((c : ℕ) → 1 ≤ more c → (c < clusters) × (times_owned old c ≡ 0)) → NamesRightly old clusters was now
names-came old new clusters n was now more e once times few free = record {
  apart = λ c. elim (cases_eq (more c) 0) [
    | inl z ↦ omega (arith, times c, z, once c, held old new n was now e c)
    | inr ne ↦ omega (arith, times c, few c, (free c (omega arith)).1, held old new n was now e c)
  ];
  on_volume = λ c some none. (free c (omega (arith, times c, some, none))).0;
  free = λ c some none. (free c (omega (arith, times c, some, none))).1;
  held = held old new n was now e;
}

pub names-gone : (old new : Records) (clusters n : ℕ) (was now : List Part) (less : ℕ → ℕ) → EditsAt old new n was now
    → ((c : ℕ) → times_owned old c ≤ 1) → ((c : ℕ) → times_in was c ≡ times_in now c + less c) → NamesRightly old clusters was now
names-gone old new clusters n was now less e once times = record {
  apart = λ c. omega (arith, times c, once c, held old new n was now e c);
  on_volume = λ c some none. absurd (omega (arith, times c, some, none));
  free = λ c some none. absurd (omega (arith, times c, some, none));
  held = held old new n was now e;
}

-- THE BITS: set where clusters come, cleared where they go
pub follows-came : (before after : List Bool) (was now : List Part) (more : ℕ → ℕ) → length after ≡ length before
    → ((c : ℕ) → times_in now c ≡ times_in was c + more c) → ((c : ℕ) → c < length before → 1 ≤ more c → slice_get after c ≡ Some true)
    → ((c : ℕ) → more c ≡ 0 → slice_get after c ≡ slice_get before c) → FollowsRuns before after was now
follows-came before after was now more long times set kept = record {
  count = long;
  taken = λ c lt rise. set c lt (omega (arith, times c, rise));
  given = λ c lt fall. absurd (omega (arith, times c, fall));
  kept = λ c same. kept c (omega (arith, times c, same));
}

pub follows-gone : (before after : List Bool) (was now : List Part) (less : ℕ → ℕ) → length after ≡ length before
    → ((c : ℕ) → times_in was c ≡ times_in now c + less c) → ((c : ℕ) → c < length before → 1 ≤ less c → slice_get after c ≡ Some false)
    → ((c : ℕ) → less c ≡ 0 → slice_get after c ≡ slice_get before c) → FollowsRuns before after was now
follows-gone before after was now less long times clear kept = record {
  count = long;
  taken = λ c lt rise. absurd (omega (arith, times c, rise));
  given = λ c lt fall. clear c lt (omega (arith, times c, fall));
  kept = λ c same. kept c (omega (arith, times c, same));
}

-- ONE EXTENT: its runs are those of the part
one-part : (part : Part) (c : ℕ) → times_in (part ∷ []) c ≡ times_covered (part_runs part) c
one-part part c = ap (λ runs. times_covered runs c) (append-nil (part_runs part))

-- a hole is filled
pub times-filled : (a b : Part) (at : ℕ) (run : Run)
    → clusters_of (part_runs b) ≡ take at (clusters_of (part_runs a)) ++ (run_clusters run ++ drop (at + run.len) (clusters_of
    (part_runs a)))
    → ((c : ℕ) → times_at (take run.len (drop at (clusters_of (part_runs a)))) c ≡ 0)
    → (c : ℕ) → times_in (b ∷ []) c ≡ times_in (a ∷ []) c + one_of run c
times-filled a b at run e hole c =
    let t = times-put (part_runs a) (part_runs b) at run c e in
    omega (arith, t, hole c, one-part a c, one-part b c)

-- a hole is made
pub times-emptied : (a b : Part) (at len : ℕ)
    → clusters_of (part_runs b)
    ≡ take at (clusters_of (part_runs a)) ++ (run_clusters (record { len = len; lcn = None }) ++ drop (at + len) (clusters_of
    (part_runs a)))
    → (c : ℕ) → times_in (a ∷ []) c ≡ times_in (b ∷ []) c + times_at (take len (drop at (clusters_of (part_runs a)))) c
times-emptied a b at len e c =
    let t = times-put (part_runs a) (part_runs b) at (record { len = len; lcn = None }) c e in
    omega (arith, t, one-part a c, one-part b c)

-- the list is cut
pub times-cut : (a b : Part) (n : ℕ) → clusters_of (part_runs b) ≡ take n (clusters_of (part_runs a))
    → (c : ℕ) → times_in (a ∷ []) c ≡ times_in (b ∷ []) c + times_at (drop n (clusters_of (part_runs a))) c
times-cut a b n e c =
    let all = clusters_of (part_runs a) in
    let whole = ap (count_by (is_at c)) (take-append-drop n all) in
    let split = sum_by-append (λ x. cond (is_at c x) 1 0) (take n all) (drop n all) in
    let cut = ap (count_by (is_at c)) e in
    omega (arith, whole, split, cut, one-part a c, one-part b c, times-clusters (part_runs a) c, times-clusters (part_runs b) c)
