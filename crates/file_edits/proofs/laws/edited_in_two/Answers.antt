use Rattle.file_edits.proofs.TwoRecords.{edited-two, ready-two}
use Rattle.file_edits.proofs.laws.edited_in_two.Goals as goal

pub returns : goal.returns
returns c = record { edited = edited-two; ready = ready-two }
