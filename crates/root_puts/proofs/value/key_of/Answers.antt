use Rattle.std.proofs.Common.{slice_range, ◌+◌, ap, sym, ◌∙◌}
use Rattle.ntfs_def.specs.Node.{has_child}
use Rattle.index_node.proofs.NodeLaws.{item_key}
use Rattle.root_puts.proofs.value.key_of.Goals as goal

pub returns : goal.returns
returns c =
    ap (λ n. slice_range c.args.entry.now 16 (16 + n)) c.u16_at-len.ensures
    ∙ sym (item_key c.args.entry.now (has_child c.args.entry.now 0) 0)
