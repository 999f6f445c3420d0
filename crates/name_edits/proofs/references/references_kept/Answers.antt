use Rattle.name_edits.proofs.ReferencesAfter as laws
use Rattle.name_edits.proofs.references.references_kept.Goals as goal

pub returns : goal.returns
returns c = record {
  kept = laws.references-kept;
  gets = laws.references-gets;
  loses = laws.references-loses;
  comes = laws.references-comes;
  goes = laws.references-goes;
}
