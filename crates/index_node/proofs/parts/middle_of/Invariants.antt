use Rattle.std.proofs.Common.{◌<◌, ◌*◌}
use Rattle.index_node.specs.Edit.{entries_len, front_len}
use Rattle.index_node.specs.View.{node_of_view}
use Rattle.index_node.proofs.parts.middle_of.Given as goal

abbrev pub invariant-loop-i : goal.invariant-loop-i
invariant-loop-i l = record {
  before : 2 * front_len l.node l.i < entries_len l.node (node_of_view l.whole.view);
}
