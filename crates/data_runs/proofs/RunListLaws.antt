-- One run more behind a list.
use Rattle.std.proofs.Common.{ℕ, ◌+◌, ◌^◌, ◌<◌, ◌≤◌, List, [], ◌∷◌, ◌++◌, arith}
use Rattle.std.proofs.lemmas.List.Sums.{sum_by-cons}
use Rattle.ntfs_def.specs.declared.run_text.Run.{Run}
use Rattle.ntfs_def.specs.Runs.{EndsInReach, IsRunListFrom, total_clusters}

pub IsRunListFrom-push : (total : ℕ) (runs : List Run) (run : Run) → IsRunListFrom total runs → 0 < run.len
    → EndsInReach run.len run.lcn → total + (total_clusters runs + run.len) ≤ 2 ^ 62 → IsRunListFrom total (runs ++ run ∷ [])
IsRunListFrom-push total [] run list some reach fits = (some, omega arith, reach, tt)
IsRunListFrom-push total (next ∷ runs) run (one, bounded, near, list) some reach fits =
    let all = sum_by-cons (λ (run : Run). run.len) next runs in
    (one, bounded, near, IsRunListFrom-push (total + next.len) runs run list some reach (omega arith))
