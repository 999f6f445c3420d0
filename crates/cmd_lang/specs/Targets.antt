-- Targets that are read.
use Rattle.std.specs.Prelude.{ℕ, List, Option, Some, None}
use Rattle.cmd_lang.specs.Words.{IsTargetOf}
use Rattle.cmd_lang.specs.declared.paths.Target.{Target}

-- a target that the pieces of a text stand for, and none only where they stand for none
abbrev pub FindsTarget : List (List ℕ) → Option Target → Type 0
FindsTarget pieces (Some target) = IsTargetOf pieces target.path target.stream
FindsTarget pieces None = (path : List (List ℕ)) (stream : Option (List ℕ)) → IsTargetOf pieces path stream → ⊥
