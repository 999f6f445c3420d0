use Rattle.std.proofs.Common.{◌+◌, ◌≤◌, ℕ, length, map}
use Rattle.volume_def.specs.Files.{part_of}
use Rattle.attr_view.specs.Left.{attributes_left}
use Rattle.attr_view.specs.View.{attributes_of}
use Rattle.file_clauses.specs.Attributes.{AreRight}
use Rattle.file_clauses.proofs.attributes.are_right.Given as goal

-- all attributes are right exactly where those to come are
abbrev pub invariant-loop-attribute : goal.invariant-loop-attribute
invariant-loop-attribute l = record {
  to : (n : ℕ) → AreRight l.base l.least l.standards (map (part_of n) (attributes_left l.left))
      → AreRight l.base 0 0 (map (part_of n) (attributes_of l.view));
  from : (n : ℕ) → AreRight l.base 0 0 (map (part_of n) (attributes_of l.view))
      → AreRight l.base l.least l.standards (map (part_of n) (attributes_left l.left));
  few : l.standards + length (attributes_left l.left) ≤ length (attributes_of l.view);
}

abbrev pub decreases-loop-attribute : goal.decreases-loop-attribute
decreases-loop-attribute l = length (attributes_left l.left)
