use Rattle.std.proofs.Common.{arith}
use Rattle.volume_def.specs.Sound.Clause.{References}
use Rattle.check_records.proofs.FactsGiven.{RightNote-all}
use Rattle.check_records.proofs.by_facts.first_long_file.Goals as goal

pub returns : goal.returns
returns c = λ view note before.
    let right = RightNote-all view c.args.facts.now 14 (omega arith) before note in
    c.first_long_file.ensures view right.long (before References (omega arith))
