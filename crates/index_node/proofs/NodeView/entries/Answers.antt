use Rattle.std.proofs.Common.{sym}
use Rattle.index_node.proofs.NodeLaws.{length-entries_from}
use Rattle.index_node.specs.View.{node_of_view}
use Rattle.index_node.proofs.NodeView.entries.Goals as goal

pub returns : goal.returns
unfolding node_of_view
returns c = let view = c.args.self.now in sym (length-entries_from view.node.now view.children view.first view.count)
