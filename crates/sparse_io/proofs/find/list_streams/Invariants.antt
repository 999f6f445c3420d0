use Rattle.std.proofs.Common.{◌≡◌, ◌++◌, map}
use Rattle.sparse_io.proofs.KeptLaws.{shown_kept}
use Rattle.sparse_io.proofs.find.list_streams.Given as goal

-- the lines of what was gone over, and those of what is left
abbrev pub invariant-streams : goal.invariant-streams
invariant-streams l =
    l.shown.items ++ map shown_kept l.kept-iterator.rest.items ≡ map shown_kept l.initial.kept-iterator.rest.items
