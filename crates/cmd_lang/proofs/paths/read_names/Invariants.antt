use Rattle.std.proofs.Common.{◌++◌, ℕ, List, length}
use Rattle.cmd_lang.specs.Words.{AreNames, pieces}
use Rattle.cmd_lang.proofs.paths.read_names.Given as goal

abbrev pub invariant-parts : goal.invariant-parts
invariant-parts l = record {
  onto : (more : List (List ℕ)) → AreNames (pieces 47 l.rest) more → AreNames (pieces 47 l.fn.text) (l.names.items ++ more);
  back : (all : List (List ℕ)) → AreNames (pieces 47 l.fn.text) all → (more : List (List ℕ)) × AreNames (pieces 47 l.rest) more;
}

abbrev pub decreases-parts : goal.decreases-parts
decreases-parts l = length l.rest
