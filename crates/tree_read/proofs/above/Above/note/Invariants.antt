use Rattle.std.proofs.Common.{◌≡◌}
use Rattle.volume_def.specs.Sound.{IsSound}
use Rattle.volume_def.specs.View.{VolumeView}
use Rattle.tree_read.specs.Above.{AreAbove, leads_hidden}
use Rattle.tree_read.proofs.above.Above.note.Given as goal
use Rattle.volume_def.specs.Readable.{IsDirectory}

-- what is noted is so, and the next one leads where the first one does
abbrev pub invariant-steps : goal.invariant-steps
invariant-steps l = (volume : VolumeView) → IsSound volume → IsDirectory volume l.fn.dir → leads_hidden volume l.fn.dir ≡ l.known
    → AreAbove volume l.fn.self → AreAbove volume l.self × IsDirectory volume l.at × (leads_hidden volume l.at ≡ l.known)

abbrev pub decreases-steps : goal.decreases-steps
decreases-steps l = l.left
