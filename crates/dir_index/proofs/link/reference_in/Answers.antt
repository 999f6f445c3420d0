use Rattle.std.proofs.Common.{sym, ◌∙◌, arith}
use Rattle.ntfs_def.specs.Node.{has_child, item_at}
use Rattle.ntfs_def.specs.declared.index.NodeForm.TheVariants.{Names}
use Rattle.index_node.proofs.NodeLaws.{u64_within}
use Rattle.index_store.proofs.OwnEntries.{own_whole}
use Rattle.dir_index.proofs.link.reference_in.Goals as goal

pub u64_at-requires : goal.u64_at-requires
u64_at-requires c =
    let whole = own_whole Names (has_child c.args.entry.now 0) c.args.entry.now c.requires in
    omega arith

pub returns : goal.returns
unfolding item_at
returns c = c.u64_at.ensures ∙ sym (u64_within c.args.entry.now 0 8 0 (omega arith))
