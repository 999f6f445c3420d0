use Rattle.reading_edits.proofs.NewNodes as laws
use Rattle.reading_edits.proofs.nodes.new_nodes.Goals as goal

pub returns : goal.returns
returns c = record { file = laws.new-file; directory = laws.new-directory }
