use Rattle.std.proofs.Common.{◌≡◌, ◌-◌}
use Rattle.ntfs_def.specs.Node.{are_short_from}
use Rattle.index_node.specs.View.{place_of}
use Rattle.index_node.proofs.NodeView.is_short.Given as goal

abbrev pub invariant-loop-k : goal.invariant-loop-k
invariant-loop-k l = record {
  place : l.at ≡ place_of l.self l.k;
  short : are_short_from l.self.node.now l.most l.at (l.self.count - l.k)
      ≡ are_short_from l.self.node.now l.most l.self.first l.self.count;
}
