use Rattle.std.proofs.Common.{arith, subst}
use Rattle.ntfs_def.proofs.ShapeLaws.{IsWhole-long, header_failing-used}
use Rattle.attr_view.specs.Edit.{IsInsertedAt}
use Rattle.attr_view.proofs.InsertLaws.{Inserts-inserted}
use Rattle.attr_view.proofs.record_mut.insert_in.Goals as goal

pub insert_bytes-requires-clause-header : goal.insert_bytes-requires-clause-header
insert_bytes-requires-clause-header c =
    omega (arith, IsWhole-long c.args.attr.now 0 c.requires.one.whole, c.requires.one.len)

pub returns-clause-ok : goal.returns-clause-ok
returns-clause-ok c =
    let shape = c.requires.shape in
    Inserts-inserted _ _ c.args.attr.now _ c.args.i shape c.requires.place c.requires.one
    (omega (arith, c.u32_at.ensures, c.if-need-free.false, header_failing-used c.args.block.now shape.header))
    (subst (IsInsertedAt _ _ _) c.place_in-at.ensures.place c.insert_bytes.ensures)
