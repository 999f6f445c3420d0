use Rattle.command_edits.proofs.LinksBetween as links
use Rattle.command_edits.proofs.NodesBetween as nodes
use Rattle.command_edits.proofs.between.calls_between.Goals as goal

pub returns : goal.returns
returns c = record {
  adds = links.between-adds;
  drops = links.between-drops;
  refreshes = links.between-refreshes;
  makes = nodes.between-makes;
  goes = nodes.between-goes;
  sets = nodes.between-sets;
}
