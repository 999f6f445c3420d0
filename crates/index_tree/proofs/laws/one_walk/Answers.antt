use Rattle.index_tree.proofs.IndexTreeLaws.{one_depth, one_list}
use Rattle.index_tree.proofs.laws.one_walk.Goals as goal

pub returns : goal.returns
returns c = record { items = one_list; depth = one_depth }
