use Rattle.std.proofs.Common.{take}
use Rattle.std.specs.List.{All}
use Rattle.ntfs_def.specs.Record.{reference_in}
use Rattle.volume_def.specs.Files.{Records}
use Rattle.volume_def.specs.ReferencesClause.{NamesDirectory}
use Rattle.record_notes.specs.Heads.{EndsAtCount, HeadsNote}
use Rattle.record_notes.specs.declared.names.NameFact.{NameFact}
use Rattle.volume_clauses.proofs.references.first_wrong_parent.Given as goal

abbrev pub invariant-loop-name : goal.invariant-loop-name
invariant-loop-name l =
    (records : Records) → EndsAtCount records → HeadsNote records records.count l.heads
    → All (λ (name : NameFact). NamesDirectory records (reference_in name.parent)) (take l.name-index l.name-items)
