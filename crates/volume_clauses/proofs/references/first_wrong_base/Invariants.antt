use Rattle.std.proofs.Common.{◌<◌, ℕ}
use Rattle.volume_def.specs.Files.{Records}
use Rattle.record_notes.specs.Heads.{EndsAtCount, HeadsNote}
use Rattle.volume_clauses.specs.References.{MeetsBase}
use Rattle.volume_clauses.proofs.references.first_wrong_base.Given as goal

abbrev pub invariant-loop-n : goal.invariant-loop-n
invariant-loop-n l =
    (records : Records) → EndsAtCount records → HeadsNote records records.count l.heads → (k : ℕ) → k < l.n → MeetsBase records k
