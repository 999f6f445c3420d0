use Rattle.std.proofs.Common.{◌≡◌, ◌+◌, ◌*◌, ◌-◌, ◌≤◌, length}
use Rattle.ntfs_def.specs.IndexTree.{Each}
use Rattle.ntfs_def.specs.Node.{IsOwnEntry}
use Rattle.vol_disk.specs.Contents.{WhereTold}
use Rattle.index_node.specs.View.{form_of_view, node_of_view, number_of, view_of}
use Rattle.check_dirs.specs.Gathered.{AreMet}
use Rattle.check_dirs.specs.Records.{short_nodes}
use Rattle.check_dirs.proofs.GatherLaws.{GathersFront}
use Rattle.check_dirs.proofs.gather.+gathering.Given as goal

abbrev pub decreases-gather_tree : goal.decreases-gather_tree
decreases-gather_tree g l = 3 * l.depth + 1

abbrev pub decreases-gather_record : goal.decreases-gather_record
decreases-gather_record g l = 3 * l.depth

abbrev pub decreases-gather_node : goal.decreases-gather_node
decreases-gather_node g l = 3 * l.depth + 2

abbrev pub invariant-gather_node-places : goal.invariant-gather_node-places
invariant-gather_node-places g l = record {
  view : view_of l.place ≡ l.node;
  front : WhereTold (g.R.IndexRecords.records l.fn.records) (λ r. GathersFront (short_nodes (form_of_view l.node) r) l.depth
      (node_of_view l.node) (number_of l.place) l.fn.met l.met l.fn.out.items l.out.items);
  own : Each (IsOwnEntry (form_of_view l.node)) l.fn.out.items → Each (IsOwnEntry (form_of_view l.node)) l.out.items;
  met : WhereTold (g.R.IndexRecords.records l.fn.records) (λ r. AreMet r l.fn.met → AreMet r l.met);
  records : g.R.IndexRecords.records l.records ≡ g.R.IndexRecords.records l.fn.records;
  ready : g.R.IndexRecords.ready l.records;
  only_reads : g.R.IndexRecords.only_reads l.fn.records l.records;
  fetched : g.R.IndexRecords.fetched l.records + 9 * length l.fn.met ≤ g.R.IndexRecords.fetched l.fn.records + 9 * length l.met;
  faults : g.R.IndexRecords.faults l.records ≡ g.R.IndexRecords.faults l.fn.records;
}

abbrev pub decreases-gather_node-places : goal.decreases-gather_node-places
decreases-gather_node-places g l = length (node_of_view (view_of l.place)).entries - number_of l.place
