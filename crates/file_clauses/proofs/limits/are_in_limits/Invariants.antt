use Rattle.std.proofs.Common.{ℕ, map}
use Rattle.std.specs.Prelude.{◌↔◌, All}
use Rattle.attr_view.specs.Left.{attributes_left}
use Rattle.attr_view.specs.View.{attributes_of}
use Rattle.volume_def.specs.Files.{part_of}
use Rattle.volume_def.specs.LimitsClause.{IsInLimits}
use Rattle.file_clauses.proofs.limits.are_in_limits.Given as goal

-- all are in their limits exactly where those are that are left
abbrev pub invariant-loop-attribute : goal.invariant-loop-attribute
invariant-loop-attribute l = (n : ℕ) → All (IsInLimits l.f) (map (part_of n) (attributes_left l.attribute-iterator))
    ↔ All (IsInLimits l.f) (map (part_of n) (attributes_of l.opened))
