use Rattle.std.proofs.Common.{◌≡◌, ◌++◌, map}
use Rattle.attr_list.specs.Left.{entries_left}
use Rattle.attr_list.specs.View.{entries_of, entry_shown}
use Rattle.file_clauses.proofs.lists.entries_of.Given as goal

abbrev pub invariant-loop-entry : goal.invariant-loop-entry
invariant-loop-entry l = map entry_shown l.entries.items ++ entries_left l.entry-iterator ≡ entries_of l.list
