use Rattle.std.proofs.Common.{◌≡◌, take}
use Rattle.volume_def.specs.Coverage.{times_covered}
use Rattle.record_notes.proofs.owners.note.cover_first_cluster.Given as goal

abbrev pub invariant-loop-run : goal.invariant-loop-run
invariant-loop-run l = times_covered (take l.run-index l.runs) 0 ≡ 0
