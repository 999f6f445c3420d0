-- How many clusters runs have.
use Rattle.std.proofs.Common.{ℕ, ◌+◌, ◌^◌, ◌≤◌, List, [], ◌∷◌, arith}
use Rattle.std.proofs.lemmas.List.Sums.{sum_by-cons}
use Rattle.ntfs_def.specs.declared.run_text.Run.{Run}
use Rattle.ntfs_def.specs.Runs.{IsRunListFrom, total_clusters}

pub IsRunListFrom-total : (total : ℕ) (runs : List Run) → total ≤ 2 ^ 62 → IsRunListFrom total runs → total + total_clusters runs ≤ 2 ^ 62
IsRunListFrom-total total [] low list = omega arith
IsRunListFrom-total total (run ∷ runs) low (some, bounded, near, list) =
    let all = sum_by-cons (λ (run : Run). run.len) run runs in
    let rest = IsRunListFrom-total (total + run.len) runs bounded list in
    omega arith
