use Rattle.std.proofs.Common.{ap, ◌∙◌}
use Rattle.ntfs_def.specs.Fixup.{bare_of, sequence_number}
use Rattle.ntfs_def.proofs.FixupLaws.{HasArray-opened_of, sequence_number-opened_of}
use Rattle.ntfs_fixup.proofs.BareEdits.{bare_of-sealed}
use Rattle.ntfs_fixup.proofs.laws.sealed_opens.Goals as goal

pub returns-clause-bare : goal.returns-clause-bare
returns-clause-bare c block stored opened array seals opens = ap bare_of opens.is ∙ bare_of-sealed block stored array seals

pub returns-clause-array : goal.returns-clause-array
returns-clause-array c stored opened opens = rw opens.is (HasArray-opened_of stored opens.sealed.array)

pub returns-clause-number : goal.returns-clause-number
returns-clause-number c stored opened opens = ap sequence_number opens.is ∙ sequence_number-opened_of stored opens.sealed.array
