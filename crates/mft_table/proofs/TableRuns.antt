-- How many clusters the runs of a table can have.
use Rattle.std.proofs.Common.{ℕ, ◌+◌, ◌≤◌, ◌^◌, List, [], ◌∷◌, arith}
use Rattle.std.specs.Prelude.{sum_by}
use Rattle.std.proofs.lemmas.List.Sums.{sum_by-cons}
use Rattle.ntfs_def.specs.declared.run_text.Run.{Run}
use Rattle.ntfs_def.specs.Runs.{IsRunListFrom}

-- the clusters of all runs
pub clusters-IsRunList : (total : ℕ) (runs : List Run) → total ≤ 2 ^ 62 → IsRunListFrom total runs
    → total + sum_by (λ run. run.len) runs ≤ 2 ^ 62
clusters-IsRunList total [] most list = omega arith
clusters-IsRunList total (run ∷ runs) most list =
    omega (arith, sum_by-cons (λ (each : Run). each.len) run runs, clusters-IsRunList (total + run.len) runs list.1 list.3)
