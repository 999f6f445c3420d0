use Rattle.std.proofs.Common.{arith}
use Rattle.record_notes.proofs.owners.bitmap.cluster_bits_laws.Goals as goal

pub returns-clause-packed : goal.returns-clause-packed
returns-clause-packed c = λ view packed. (λ meets. packed meets.plain, λ m low. absurd (omega arith))

pub returns-clause-unplaced : goal.returns-clause-unplaced
returns-clause-unplaced c = λ view unplaced. (λ meets. unplaced meets.placed, λ m low. absurd (omega arith))
