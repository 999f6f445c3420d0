use Rattle.std.proofs.Common.{arith}
use Rattle.list_laws.proofs.BitLaws.{SetsBit-set}
use Rattle.record_notes.proofs.bits.set_bit.Goals as goal

pub returns : goal.returns
returns c = SetsBit-set c.args.bits.now c.args.k (omega arith)
