-- Where a cluster lies in runs that are put one list behind the other.
use Rattle.std.proofs.Common.{◌≡◌, ℕ, ◌+◌, ◌-◌, ◌<◌, ◌≤◌, List, [], ◌∷◌, ◌++◌, inl, inr, sym, ap, ◌∙◌, arith}
use Rattle.std.proofs.lemmas.Bool.{cases_lt}
use Rattle.std.proofs.lemmas.List.Sums.{sum_by-cons}
use Rattle.ntfs_def.specs.declared.run_text.Run.{Run}
use Rattle.ntfs_def.specs.declared.run_text.Spot.TheVariants.{Outside}
use Rattle.ntfs_def.specs.Runs.{spot_of, total_clusters}
use Rattle.ntfs_def.proofs.SpotLaws.{spot_of-first, spot_of-none, spot_of-past}

pub total-cons : (run : Run) (runs : List Run) → total_clusters (run ∷ runs) ≡ run.len + total_clusters runs
total-cons run runs = sum_by-cons (λ (r : Run). r.len) run runs

-- behind the last run
pub spot_of-behind : (runs : List Run) (vcn : ℕ) → total_clusters runs ≤ vcn → spot_of runs vcn ≡ Outside
spot_of-behind [] vcn h = spot_of-none vcn
spot_of-behind (run ∷ runs) vcn h =
    let t = total-cons run runs in
    spot_of-past run runs vcn (omega arith) ∙ spot_of-behind runs (vcn - run.len) (omega arith)

-- in the first list
pub spot_of-front : (xs ys : List Run) (vcn : ℕ) → vcn < total_clusters xs → spot_of (xs ++ ys) vcn ≡ spot_of xs vcn
spot_of-front [] ys vcn h = absurd (omega arith)
spot_of-front (run ∷ xs) ys vcn h = elim (cases_lt vcn run.len) [
  | inl lt ↦ spot_of-first run (xs ++ ys) vcn lt ∙ sym (spot_of-first run xs vcn lt)
  | inr ge ↦
      let t = total-cons run xs in
      spot_of-past run (xs ++ ys) vcn ge ∙ spot_of-front xs ys (vcn - run.len) (omega arith) ∙ sym (spot_of-past run xs vcn ge)
]

-- behind it
pub spot_of-back : (xs ys : List Run) (vcn : ℕ) → total_clusters xs ≤ vcn → spot_of (xs ++ ys) vcn ≡ spot_of ys (vcn - total_clusters xs)
spot_of-back [] ys vcn h = ap (spot_of ys) (omega arith)
spot_of-back (run ∷ xs) ys vcn h =
    let t = total-cons run xs in
    spot_of-past run (xs ++ ys) vcn (omega arith) ∙ spot_of-back xs ys (vcn - run.len) (omega arith) ∙ ap (spot_of ys) (omega arith)
