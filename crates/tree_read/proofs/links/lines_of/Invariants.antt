use Rattle.std.proofs.Common.{◌≡◌, ℕ, Ok, map, take}
use Rattle.tree_model.specs.Answers.{shown_link}
use Rattle.tree_model.specs.Reading.{read}
use Rattle.tree_read.specs.Above.{AreAbove}
use Rattle.tree_read.specs.Answered.{Finds}
use Rattle.tree_read.specs.Lines.{shown_in}
use Rattle.tree_read.proofs.links.lines_of.Given as goal

-- the lines of the links so far
abbrev pub invariant-loop-link : goal.invariant-loop-link
invariant-loop-link g l =
    Finds g.D.Disk l.fn.mft l.mft (λ volume (_ : ℕ). AreAbove volume l.above
    × (shown_in l.lines.items ≡ map (shown_link (read volume)) (take l.link-index l.links))) (Ok 0)
