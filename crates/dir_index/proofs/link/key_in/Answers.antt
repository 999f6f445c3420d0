use Rattle.std.proofs.Common.{arith}
use Rattle.ntfs_def.specs.Node.{has_child}
use Rattle.ntfs_def.specs.declared.index.NodeForm.TheVariants.{Names}
use Rattle.index_store.proofs.OwnEntries.{own_whole}
use Rattle.dir_index.proofs.link.key_in.Goals as goal

pub u16_at-requires : goal.u16_at-requires
u16_at-requires c =
    let whole = own_whole Names (has_child c.args.entry.now 0) c.args.entry.now c.requires in
    omega arith

pub slice_bounds-result-end : goal.slice_bounds-result-end
slice_bounds-result-end c =
    let whole = own_whole Names (has_child c.args.entry.now 0) c.args.entry.now c.requires in
    omega (arith, c.u16_at.ensures)
