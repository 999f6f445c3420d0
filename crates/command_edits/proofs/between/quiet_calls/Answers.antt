use Rattle.command_edits.proofs.QuietCalls as laws
use Rattle.command_edits.proofs.between.quiet_calls.Goals as goal

pub returns : goal.returns
returns c = record { quiet = laws.stands-quiet; stored = laws.stands-stored }
