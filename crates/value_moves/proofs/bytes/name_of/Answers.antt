use Rattle.std.proofs.Common.{◌+◌, ◌*◌, ◌≤◌, List, ℕ, length, sym, ap, ◌∙◌, arith}
use Rattle.std.specs.Prelude.{slice_index}
use Rattle.ntfs_def.specs.Attribute.{Attribute, attribute_len}
use Rattle.ntfs_def.proofs.ShapeLaws.{IsWhole-long}
use Rattle.attr_view.specs.View.{attribute_of}
use Rattle.extent_edits.proofs.AloneLaws.{attribute-alone, length-attribute, one-alone}
use Rattle.value_moves.proofs.MovedBytes.{length-name}
use Rattle.value_moves.proofs.bytes.name_of.Goals as goal

pub bounds-bytes-9 : goal.bounds-bytes-9
bounds-bytes-9 c =
    let attr = c.args.attr.now in
    let inside : attr.at + attribute_len attr.block.now attr.at ≤ length attr.block.now =
    omega (arith, attr.shape.below_used, attr.used, attr.size) in
    let long = IsWhole-long attr.block.now attr.at attr.shape.whole in
    omega (arith, ap length c.bytes.ensures, length-attribute attr.block.now attr.at attr.shape.whole inside, long)

pub prove-unreachable-requires : goal.prove-unreachable-requires
prove-unreachable-requires c =
    let attr = c.args.attr.now in
    let bytes = (attribute_of attr).bytes in
    let inside : attr.at + attribute_len attr.block.now attr.at ≤ length attr.block.now =
    omega (arith, attr.shape.below_used, attr.used, attr.size) in
    let alone = attribute-alone attr.block.now attr.at attr.shape.whole inside in
    let one = one-alone attr.block.now attr.at attr.shape.whole inside in
    let units = length-name bytes 0 one.whole (omega (arith, one.len)) in
    c.if-prove.true
    (ap length c.name-name.ensures ∙ ap (λ (a : Attribute). length a.name) (sym alone) ∙ units
    ∙ ap (λ (xs : List ℕ). 2 * slice_index xs 9) (sym c.bytes.ensures))
