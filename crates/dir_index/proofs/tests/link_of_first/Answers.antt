use Rattle.std.proofs.Common.{IsTrue, subst}
use Rattle.ntfs_def.specs.Node.{has_children, is_one_entry}
use Rattle.ntfs_def.specs.declared.index.NodeForm.TheVariants.{Names}
use Rattle.index_node.specs.View.{bytes_of}
use Rattle.index_store.proofs.OwnEntries.{one_own}
use Rattle.dir_index.proofs.tests.link_of_first.Goals as goal

pub link_of_entry-requires : goal.link_of_entry-requires
link_of_entry-requires c =
    let children = has_children (bytes_of c.in_ok-node.node) in
    one_own Names children c.entry.result.now
    (subst (λ form. IsTrue (is_one_entry form children c.entry.result.now)) c.in_ok-node.ensures.form c.entry.ensures.own)
