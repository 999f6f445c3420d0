use Rattle.volume_def.specs.AttributesClause.{MeetsAttributes}
use Rattle.record_notes.proofs.FactsLaws.{MeetsAttributes-none}
use Rattle.list_laws.proofs.LeastLaws.{least-whole}
use Rattle.record_notes.proofs.facts.Facts.first_wrong_record.Goals as goal

pub returns : goal.returns
returns c = λ records ends note.
    least-whole (MeetsAttributes records) records.count c.args.self.now.first_wrong
    (λ n past. MeetsAttributes-none records n (ends n past)) note.attributes
