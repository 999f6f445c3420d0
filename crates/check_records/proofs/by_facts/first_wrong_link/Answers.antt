use Rattle.std.proofs.Common.{arith}
use Rattle.volume_def.specs.Files.{records_of}
use Rattle.volume_def.specs.Sound.Clause.{References}
use Rattle.record_notes.proofs.HeadLaws.{EndsAtCount-view}
use Rattle.check_records.proofs.FactsGiven.{RightNote-all}
use Rattle.check_records.proofs.by_facts.first_wrong_link.Goals as goal

pub returns : goal.returns
returns c = λ view note before.
    let right = RightNote-all view c.args.facts.now 8 (omega arith) before note in
    c.in_ok-first.ensures (records_of view) (EndsAtCount-view view) right.heads right.names (before References (omega arith))
