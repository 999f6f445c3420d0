use Rattle.std.proofs.Common.{◌≡◌, ℕ, ◌++◌, map}
use Rattle.attr_view.specs.Left.{attributes_left}
use Rattle.attr_view.specs.View.{attributes_of}
use Rattle.volume_def.specs.Files.{part_of}
use Rattle.file_clauses.specs.Extents.{outline_of, outlined}
use Rattle.file_clauses.proofs.extents.add_extents.Given as goal

-- what was taken, and what is to come, is all
abbrev pub invariant-loop-attribute : goal.invariant-loop-attribute
invariant-loop-attribute l = (n : ℕ) → map outlined l.extents.items ++ map outline_of (map (part_of n)
    (attributes_left l.attribute-iterator))
    ≡ map outlined l.fn.extents.items ++ map outline_of (map (part_of n) (attributes_of l.view))
