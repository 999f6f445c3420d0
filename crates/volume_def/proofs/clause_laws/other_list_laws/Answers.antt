use Rattle.volume_def.proofs.OtherListLaws.{HasRightList-freed, HasRightList-other, HasRightList-taken, HasRightList-unmoved}
use Rattle.volume_def.proofs.clause_laws.other_list_laws.Goals as goal

pub returns : goal.returns
returns c = record {
  other = HasRightList-other;
  unmoved = HasRightList-unmoved;
  taken = HasRightList-taken;
  freed = HasRightList-freed;
}
