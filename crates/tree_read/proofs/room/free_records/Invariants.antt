use Rattle.std.proofs.Common.{◌≡◌, ◌+◌, not, take}
use Rattle.std.specs.Prelude.{count_by}
use Rattle.tree_read.proofs.room.free_records.Given as goal

-- those that were passed over count no more
abbrev pub invariant-loop-number : goal.invariant-loop-number
invariant-loop-number l = l.free + count_by not (take l.number l.records) ≡ count_by not l.records
