use Rattle.std.specs.Prelude.{true}
use Rattle.cluster_bitmap.proofs.TakenLaws.{put-inside, put-outside, taken-free}
use Rattle.cluster_bitmap.proofs.laws.taken_range_laws.Goals as goal

pub returns-clause-inside : goal.returns-clause-inside
returns-clause-inside c = put-inside true

pub returns-clause-outside : goal.returns-clause-outside
returns-clause-outside c = put-outside true

pub returns-clause-free : goal.returns-clause-free
returns-clause-free c = taken-free
