use Rattle.std.proofs.Common.{sym, subst}
use Rattle.volume_def.specs.Files.{records_of}
use Rattle.volume_def.specs.LimitsClause.{MeetsLimits}
use Rattle.list_laws.specs.Least.{IsLeastFailing}
use Rattle.volume_clauses.proofs.LimitLaws.{long-all}
use Rattle.volume_clauses.proofs.limits.first_long_file.Goals as goal

pub returns : goal.returns
returns c = λ view note right.
    subst (IsLeastFailing (MeetsLimits (records_of view))) (sym c.least.ensures) (long-all view c.args.long.now.least right note)
