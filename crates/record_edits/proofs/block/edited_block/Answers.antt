use Rattle.record_edits.proofs.BlockEdits.{edit-of}
use Rattle.record_edits.proofs.WholeEdits as laws
use Rattle.record_edits.proofs.block.edited_block.Goals as goal

pub returns : goal.returns
returns c = record { records = edit-of; whole = laws.whole }
