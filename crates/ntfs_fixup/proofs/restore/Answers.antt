use Rattle.std.proofs.Common.{ℕ, ◌<◌, length, arith}
use Rattle.ntfs_fixup.proofs.OpenedLaws.{opened_of-exact}
use Rattle.ntfs_fixup.proofs.restore.Goals as goal

pub returns : goal.returns
returns c =
    let bytes = λ (k : ℕ) (inside : k < length c.args.block.now). c.loop-stride.invariant.done k (omega (arith, c.requires.whole)) in
    opened_of-exact c.args.block.now c.loop-stride.block (omega arith) bytes
