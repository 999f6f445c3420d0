use Rattle.std.proofs.Common.{refl, arith}
use Rattle.attr_view.specs.View.{attribute_of}
use Rattle.value_moves.proofs.MovedBytes.{MovesAttribute-made, kind-other}
use Rattle.value_moves.proofs.bytes.moved_attribute.Goals as goal

pub non_resident-requires-clause-kind : goal.non_resident-requires-clause-kind
non_resident-requires-clause-kind c =
    let attr = c.args.attr.now in
    rw c.kind.ensures (kind-other attr.block.now attr.at attr.shape.whole)

pub returns-clause-moved : goal.returns-clause-moved
returns-clause-moved c =
    let was = attribute_of c.args.attr.now in
    let new = c.in_ok-bytes.bytes.items in
    let sizes = c.sizes_over-sizes.result in
    MovesAttribute-made was new c.args.cluster c.args.real c.args.initialized c.args.run sizes c.sizes_over-sizes.ensures
    (rw (c.kind.ensures, c.name_of.ensures.name, c.id.ensures) at c.in_ok-bytes.ensures.bytes)
    c.in_ok-bytes.ensures.one
    (rw (c.kind.ensures, c.name_of.ensures.name, c.id.ensures) at c.in_ok-bytes.ensures.part)
    (c.can_be_moved.ensures.0 (rw c.if-not-can_be_moved.false refl))
    (omega (arith, c.id.ensures))
    (rw c.name_of.ensures.name at c.in_ok-bytes.ensures.len)
