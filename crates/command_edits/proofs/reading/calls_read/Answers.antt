use Rattle.command_edits.proofs.CallsRead as laws
use Rattle.command_edits.proofs.reading.calls_read.Goals as goal

pub returns : goal.returns
returns c = record {
  adds = laws.read-adds;
  drops = laws.read-drops;
  refreshes = laws.read-refreshes;
  makes = laws.read-makes;
  goes = laws.read-gone;
  sets = laws.read-sets;
}
