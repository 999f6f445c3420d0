use Rattle.std.proofs.Common.{ℕ, Ok}
use Rattle.tree_read.specs.Above.{AreAbove}
use Rattle.tree_read.specs.Answered.{Finds}
use Rattle.tree_read.proofs.KindLaws.{IsUp}
use Rattle.tree_read.proofs.below.leads_to_system.Given as goal
use Rattle.volume_def.specs.Readable.{IsDirectory}

-- what is left to climb leads where all of it does
abbrev pub invariant-steps : goal.invariant-steps
invariant-steps g l =
    Finds g.D.Disk l.fn.mft l.mft (λ volume (_ : ℕ). AreAbove volume l.above × IsDirectory volume l.at × IsUp volume l.fn.dir l.at l.left)
    (Ok 0)

abbrev pub decreases-steps : goal.decreases-steps
decreases-steps g l = l.left
