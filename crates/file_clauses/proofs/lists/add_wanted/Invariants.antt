use Rattle.std.proofs.Common.{◌≡◌, ◌<◌, ◌^◌, ◌++◌, map}
use Rattle.attr_list.specs.View.{entry_shown}
use Rattle.attr_view.specs.Left.{attributes_left}
use Rattle.attr_view.specs.View.{attributes_of}
use Rattle.file_clauses.proofs.WantedLaws.{wanted_in}
use Rattle.file_clauses.proofs.lists.add_wanted.Given as goal

abbrev pub invariant-loop-attribute : goal.invariant-loop-attribute
invariant-loop-attribute l =
    l.n < 2 ^ 48 → map entry_shown l.wanted.items ++ wanted_in l.n l.sequence (attributes_left l.attribute-iterator)
    ≡ map entry_shown l.fn.wanted.items ++ wanted_in l.n l.sequence (attributes_of l.view)
