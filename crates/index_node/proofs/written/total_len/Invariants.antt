use Rattle.std.proofs.Common.{◌≡◌, ◌-◌, ◌^◌, take}
use Rattle.std.specs.Prelude.{min}
use Rattle.index_node.specs.LayOut.{total_len}
use Rattle.index_node.proofs.written.total_len.Given as goal

abbrev pub invariant-loop-entry : goal.invariant-loop-entry
invariant-loop-entry l = l.total ≡ min (total_len (take l.entry-index l.entries)) (2 ^ 64 - 1)
