use Rattle.std.proofs.Common.{length, ◌-◌}
use Rattle.ntfs_def.specs.KeyOrder.{fold_of}
use Rattle.attr_list.specs.View.{entry_shown}
use Rattle.attr_list.proofs.PlaceLaws.{IsPassed}
use Rattle.attr_list.proofs.edit.place_for.Given as goal

abbrev pub invariant-loop-at : goal.invariant-loop-at
invariant-loop-at l = IsPassed (fold_of l.upcase) l.list (entry_shown l.entry) l.at

abbrev pub decreases-loop-at : goal.decreases-loop-at
decreases-loop-at l = length l.list - l.at
