use Rattle.std.proofs.Common.{◌≡◌, ◌+◌, ap, arith, subst, ◌∙◌}
use Rattle.ntfs_def.specs.Attribute.{attribute_len, attribute_place}
use Rattle.ntfs_def.proofs.ShapeLaws.{header_failing-used}
use Rattle.attr_view.specs.Values.{IsResizedAt, len_with, resized_len, value_begin}
use Rattle.attr_view.proofs.ValueLaws.{Resizes-resized, resident-some}
use Rattle.attr_view.proofs.record_mut.resize_in.Goals as goal

pub returns-clause-ok : goal.returns-clause-ok
returns-clause-ok c =
    let old = c.args.block.now in
    let new = c.resize_bytes.new.block in
    let r = c.requires in
    let n = c.args.n in
    let place = c.place_in-at.ensures.place in
    let begin = c.value_begin.ensures.begin ∙ ap (value_begin old) place in
    let len : c.resized_len-len.result ≡ len_with old c.args.i n = c.resized_len-len.ensures ∙ ap (λ b. resized_len b n) begin in
    let was = c.u32_at-was.ensures ∙ ap (attribute_len old) place in
    let moved = subst (λ at. IsResizedAt old new at c.resized_len-len.result n) place c.resize_bytes.ensures in
    Resizes-resized old new _ c.args.i n r.shape r.within (resident-some old _ r.resident)
    (omega (arith, len, was, c.u32_at.ensures, c.if-len-was.false, header_failing-used old r.shape.header))
    (subst (λ m. IsResizedAt old new (attribute_place old c.args.i) m n) len moved)
