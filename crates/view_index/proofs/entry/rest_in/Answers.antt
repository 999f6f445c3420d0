use Rattle.std.proofs.Common.{arith}
use Rattle.ntfs_def.specs.Node.{has_child}
use Rattle.ntfs_def.specs.declared.index.NodeForm.TheVariants.{View}
use Rattle.index_tree.proofs.OwnEntries.{own_whole}
use Rattle.view_index.proofs.entry.rest_in.Goals as goal

pub u16_at-key-requires : goal.u16_at-key-requires
u16_at-key-requires c =
    let whole = own_whole View (has_child c.args.entry.now 0) c.args.entry.now c.requires in
    omega (arith, whole.header)

pub u16_at-len-requires : goal.u16_at-len-requires
u16_at-len-requires c =
    let whole = own_whole View (has_child c.args.entry.now 0) c.args.entry.now c.requires in
    omega (arith, whole.header)

pub child_len-child-requires : goal.child_len-child-requires
child_len-child-requires c =
    let whole = own_whole View (has_child c.args.entry.now 0) c.args.entry.now c.requires in
    omega (arith, whole.header)

pub slice_bounds-result-count : goal.slice_bounds-result-count
slice_bounds-result-count c =
    let whole = own_whole View (has_child c.args.entry.now 0) c.args.entry.now c.requires in
    omega (arith, whole.holds, c.u16_at-key.ensures, c.u16_at-len.ensures, c.child_len-child.ensures)

pub slice_bounds-result-start : goal.slice_bounds-result-start
slice_bounds-result-start c =
    let whole = own_whole View (has_child c.args.entry.now 0) c.args.entry.now c.requires in
    omega (arith, whole.holds, c.u16_at-key.ensures, c.u16_at-len.ensures, c.child_len-child.ensures)
