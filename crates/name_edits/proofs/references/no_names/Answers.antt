use Rattle.name_edits.proofs.NamesInTurn.{file-no-names, no-names-lost}
use Rattle.name_edits.proofs.NoNames.{empty-names}
use Rattle.name_edits.proofs.references.no_names.Goals as goal

pub returns : goal.returns
returns c = record { empty = empty-names; file = file-no-names; lost = no-names-lost }
