use Rattle.ntfs_fixup.proofs.OpenedLaws.{HasArray-opens}
use Rattle.ntfs_fixup.proofs.unseal.Goals as goal

pub returns-clause-array : goal.returns-clause-array
returns-clause-array c = HasArray-opens c.args.block.now c.restore.new.block c.in_default.ensures c.restore.ensures
