use Rattle.std.proofs.Common.{arith}
use Rattle.mft_table.proofs.Joined.{put_mid-halves}
use Rattle.mount_check.proofs.mirror.join.Goals as goal

pub returns : goal.returns
returns c =
    rw (c.copy_from_slice.ensures.after, c.copy_from_slice-2.ensures.after)
    (put_mid-halves c.args.into.now c.args.first.now c.args.second.now (omega arith) (omega arith))
