use Rattle.std.proofs.Common.{IsTrue, subst}
use Rattle.ntfs_def.specs.Node.{has_children, is_one_entry}
use Rattle.ntfs_def.specs.declared.index.NodeForm.TheVariants.{Names}
use Rattle.index_node.specs.View.{bytes_of}
use Rattle.index_store.proofs.OwnEntries.{one_own}
use Rattle.dir_index.proofs.tests.fresh_of_first.Goals as goal

pub fresh_entry-requires : goal.fresh_entry-requires
fresh_entry-requires c =
    let children = has_children (bytes_of c.in_ok-node.node) in
    one_own Names children c.entry.result.now
    (subst (λ form. IsTrue (is_one_entry form children c.entry.result.now)) c.in_ok-node.ensures.form c.entry.ensures.own)
