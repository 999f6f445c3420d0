use Rattle.std.proofs.Common.{subst}
use Rattle.list_laws.specs.Least.{IsLeastFailing}
use Rattle.volume_clauses.specs.Pairs.{ArePaired}
use Rattle.volume_clauses.proofs.LinkLaws.{least-pair}
use Rattle.volume_clauses.proofs.links.first_wrong_pair.Goals as goal

pub returns : goal.returns
returns c records names =
    least-pair records c.args.names.now.names.items c.in_ok-keys.keys.items _ names c.in_ok-keys.ensures.same
    (subst (λ keys. IsLeastFailing (ArePaired keys) c.first_unpaired.result) c.deref.ensures.value c.first_unpaired.ensures)
