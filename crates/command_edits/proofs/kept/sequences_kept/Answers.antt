use Rattle.command_edits.proofs.NumbersKept as laws
use Rattle.command_edits.proofs.kept.sequences_kept.Goals as goal

pub returns : goal.returns
returns c = record { link = laws.link-sequence; unlink = laws.unlink-sequence; move_to = laws.move-sequence }
