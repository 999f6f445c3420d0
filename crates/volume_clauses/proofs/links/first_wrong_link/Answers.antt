use Rattle.std.proofs.Common.{sym, subst}
use Rattle.volume_def.specs.LinksClause.{MeetsLinks}
use Rattle.list_laws.specs.Least.{IsLeastFailing}
use Rattle.volume_clauses.proofs.LinkLaws.{least-link}
use Rattle.volume_clauses.proofs.links.first_wrong_link.Goals as goal

pub returns : goal.returns
returns c records ends heads names references =
    subst (IsLeastFailing (MeetsLinks records)) (sym c.least_of.ensures)
    (least-link records _ _ references (c.in_ok-unpaired.ensures records names)
    (c.in_ok-misfiled.ensures records ends heads names references))
