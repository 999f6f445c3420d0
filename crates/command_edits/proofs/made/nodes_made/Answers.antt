use Rattle.command_edits.proofs.NodesMade as laws
use Rattle.command_edits.proofs.made.nodes_made.Goals as goal

pub returns : goal.returns
returns c = record { file = laws.make-file; directory = laws.make-directory }
