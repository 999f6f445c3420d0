use Rattle.std.proofs.Common.{subst, arith}
use Rattle.volume_def.specs.Files.{records_of}
use Rattle.volume_def.specs.OwnersClause.{MeetsOwners}
use Rattle.list_laws.specs.Least.{IsLeastFailing}
use Rattle.check_records.proofs.FactsGiven.{RightNote-all}
use Rattle.check_records.proofs.by_facts.first_wrong_owner.Goals as goal

pub returns : goal.returns
returns c = λ view volume note before.
    let right = RightNote-all view c.args.facts.now 4 (omega arith) before note in
    subst (λ n. IsLeastFailing (MeetsOwners (records_of view) n) c.first_wrong_cluster.result) volume.clusters
    (c.first_wrong_cluster.ensures (records_of view) right.owners)
