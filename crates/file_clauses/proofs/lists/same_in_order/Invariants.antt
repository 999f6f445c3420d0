use Rattle.std.proofs.Common.{◌≡◌, ◌<◌, ℕ, slice_index_or}
use Rattle.attr_list.specs.declared.EntryView.{EntryView}
use Rattle.attr_list.specs.View.{entry_shown}
use Rattle.file_clauses.proofs.lists.same_in_order.Given as goal

abbrev pub invariant-loop-i : goal.invariant-loop-i
invariant-loop-i l = (k : ℕ) (d : EntryView) → k < l.i → entry_shown (slice_index_or l.a k d) ≡ entry_shown (slice_index_or l.b k d)
