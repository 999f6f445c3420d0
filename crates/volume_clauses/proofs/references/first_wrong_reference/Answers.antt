use Rattle.std.proofs.Common.{sym, subst}
use Rattle.volume_def.specs.ReferencesClause.{MeetsReferences}
use Rattle.list_laws.specs.Least.{IsLeastFailing}
use Rattle.volume_clauses.proofs.ReferenceLaws.{least-reference}
use Rattle.volume_clauses.proofs.references.first_wrong_reference.Goals as goal

pub returns : goal.returns
returns c records ends heads names =
    subst (IsLeastFailing (MeetsReferences records)) (sym c.least_of.ensures)
    (least-reference records c.first_wrong_base.result c.first_wrong_parent.result (c.first_wrong_base.ensures records ends heads)
    (c.first_wrong_parent.ensures records ends heads names))
