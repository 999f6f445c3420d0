use Rattle.std.proofs.Common.{◌≡◌, ℕ, Ok, false, take}
use Rattle.std.specs.List.{list_any}
use Rattle.tree_model.specs.declared.tree.Link.{Link}
use Rattle.tree_read.specs.Above.{AreAbove, leads_hidden}
use Rattle.tree_read.specs.Answered.{Finds}
use Rattle.tree_read.proofs.below.stands_in_hidden.Given as goal

-- none of the names so far stands there
abbrev pub invariant-loop-link : goal.invariant-loop-link
invariant-loop-link g l =
    Finds g.D.Disk l.fn.mft l.mft (λ volume (_ : ℕ). AreAbove volume l.above
    × (list_any (λ (link : Link). leads_hidden volume link.parent) (take l.link-index l.links) ≡ false))
    (Ok 0)
