use Rattle.command_edits.proofs.CallsMade as laws
use Rattle.command_edits.proofs.made.calls_made.Goals as goal

pub returns : goal.returns
returns c = record { adds = laws.add-link; drops = laws.drop-link; refreshes = laws.refresh-entry }
