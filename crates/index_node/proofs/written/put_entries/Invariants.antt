use Rattle.std.proofs.Common.{◌≡◌, ◌+◌, take}
use Rattle.vol_bytes.specs.Field.{SameOutside}
use Rattle.index_node.specs.LayOut.{HoldsPieces, total_len}
use Rattle.index_node.proofs.written.put_entries.Given as goal

abbrev pub invariant-loop-entry : goal.invariant-loop-entry
invariant-loop-entry l = record {
  at : l.at ≡ l.first + total_len (take l.entry-index l.entries);
  holds : HoldsPieces l.node l.first (take l.entry-index l.entries);
  rest : SameOutside l.fn.node l.node l.first (l.first + total_len (take l.entry-index l.entries));
}
