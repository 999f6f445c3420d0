use Rattle.ntfs_fixup.proofs.BareEdits.{HasArray-edit, bare_of-edit}
use Rattle.ntfs_fixup.proofs.laws.edited_alike.Goals as goal

pub returns-clause-array : goal.returns-clause-array
returns-clause-array c = HasArray-edit

pub returns-clause-bare : goal.returns-clause-bare
returns-clause-bare c = bare_of-edit
