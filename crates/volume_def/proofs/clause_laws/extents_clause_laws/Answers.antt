use Rattle.volume_def.proofs.ExtentsClauseLaws.{MeetsExtents-freed, MeetsExtents-moved, MeetsExtents-other, MeetsExtents-taken}
use Rattle.volume_def.proofs.clause_laws.extents_clause_laws.Goals as goal

pub returns : goal.returns
returns c = record {
  other = MeetsExtents-other;
  moved = MeetsExtents-moved;
  freed = MeetsExtents-freed;
  taken = MeetsExtents-taken;
}
