use Rattle.ntfs_fixup.proofs.OneSealed.{Seals-exact}
use Rattle.ntfs_fixup.proofs.laws.one_answer.Goals as goal

pub returns-clause-sealed : goal.returns-clause-sealed
returns-clause-sealed c block a b array bytes_a bytes_b seals_a seals_b = Seals-exact block a b array bytes_a bytes_b seals_a seals_b
