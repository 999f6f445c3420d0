use Rattle.edit_def.proofs.NamesLaws.{bases-of, stand-of}
use Rattle.name_edits.proofs.ReferencesAfter.{references-whole}
use Rattle.name_edits.proofs.references.reference_parts.Goals as goal

pub returns : goal.returns
returns c = record { bases = bases-of; stand = stand-of; whole = references-whole }
