use Rattle.in_place.proofs.OtherParts.{at-other}
use Rattle.in_place.proofs.SameRecords.{records-same, spots-same}
use Rattle.in_place.proofs.laws.rewritten_records.Goals as goal

pub returns : goal.returns
returns c = record { records = records-same; spots = spots-same; others = at-other }
