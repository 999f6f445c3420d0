use Rattle.ntfs_def.specs.KeyOrder.{fold_order, name_order}
use Rattle.ntfs_def.proofs.KeyOrderLaws.{fold_total, name_fold}
use Rattle.list_laws.proofs.OrderLaws.{less_not_greater}
use Rattle.index_tree.proofs.RisingOrders.{rises_of}
use Rattle.index_tree.proofs.laws.ordered_walks.Goals as goal

pub returns : goal.returns
returns c = record {
  ascending = λ order laws key items h. rises_of order laws order (λ x y e. less_not_greater (order x y) e) key items h;
  folded = λ fold key items h. rises_of (fold_order fold) (fold_total fold) (name_order fold) (name_fold fold) key items h;
}
