use Rattle.mft_table.proofs.ChangeLaws.{ShowAll-none, before_all-none}
use Rattle.mft_table.proofs.mft.Mft.resume.Goals as goal

pub invariant_of-result : goal.invariant_of-result
invariant_of-result g c = record { stands = c.requires; shown = ShowAll-none _ _ c.new-changes.ensures.items }

pub returns-clause-committed : goal.returns-clause-committed
returns-clause-committed g c = before_all-none _ _ c.new-changes.ensures.items
