use Rattle.std.specs.Prelude.{false}
use Rattle.cluster_bitmap.proofs.TakenLaws.{given-free, put-inside, put-outside}
use Rattle.cluster_bitmap.proofs.laws.given_range_laws.Goals as goal

pub returns-clause-inside : goal.returns-clause-inside
returns-clause-inside c = put-inside false

pub returns-clause-outside : goal.returns-clause-outside
returns-clause-outside c = put-outside false

pub returns-clause-free : goal.returns-clause-free
returns-clause-free c = given-free
