use Rattle.std.proofs.Common.{◌≡◌, ◌-◌, length, take}
use Rattle.std.specs.declared.cmp.Ordering.TheVariants.{Less}
use Rattle.ntfs_def.specs.Node.{Entry}
use Rattle.ntfs_def.specs.IndexTree.{Each}
use Rattle.index_node.specs.View.{node_of_view, number_of, view_of}
use Rattle.index_node.proofs.seek.seek_in.Given as goal

abbrev pub invariant-places : goal.invariant-places
invariant-places g l = record {
  view : view_of l.place ≡ l.node;
  before : Each (λ (e : Entry). g.C.Collation.order l.order e.item.key l.key ≡ Less)
      (take (number_of l.place) (node_of_view l.node).entries);
}

abbrev pub decreases-places : goal.decreases-places
decreases-places g l = length (node_of_view (view_of l.place)).entries - number_of l.place
