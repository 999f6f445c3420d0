-- How the clusters_with of a run text goes on by one run.
use Rattle.std.proofs.Common.{◌∷◌, ◌+◌, List, drop, ℕ}
use Rattle.std.proofs.lemmas.List.{drop-drop}
use Rattle.ntfs_def.specs.Runs.{BeginsWith, BreaksAfter, MeansFrom, RunRule, place_after, run_width}
use Rattle.ntfs_def.specs.declared.run_text.Run.{Run}

pub MeansFrom-next : (text : List ℕ) (at last total : ℕ) (run : Run) (more : List Run)
    → BeginsWith (drop at text) last total run
    → MeansFrom (drop (at + run_width (drop at text)) text) (place_after last run) (total + run.len) more
    → MeansFrom (drop at text) last total (run ∷ more)
MeansFrom-next text at last total run more first rest = (first, rw (drop-drop (run_width (drop at text)) at text) rest)

pub BreaksAfter-next : (text : List ℕ) (at last total : ℕ) (run : Run) (more : List Run) (rule : RunRule) (place : ℕ)
    → BeginsWith (drop at text) last total run
    → BreaksAfter (drop (at + run_width (drop at text)) text) (at + run_width (drop at text)) (place_after last run) (total + run.len)
    more rule place
    → BreaksAfter (drop at text) at last total (run ∷ more) rule place
BreaksAfter-next text at last total run more rule place first rest = (first, rw (drop-drop (run_width (drop at text)) at text) rest)
