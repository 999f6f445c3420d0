use Rattle.std.proofs.Common.{length, slice_get, ap, sym, refl, ◌∙◌, arith}
use Rattle.ntfs_def.specs.Attribute.{attributes}
use Rattle.ntfs_def.proofs.AttributeLaws.{length-attributes}
use Rattle.attr_view.specs.View.{attribute_of}
use Rattle.file_record.specs.declared.held.Held.{Held}
use Rattle.file_record.proofs.HeldLaws.{attribute-at, part-at}
use Rattle.file_record.proofs.parts.FileParts.attr.Goals as goal

pub attr-requires : goal.attr-requires
attr-requires c =
    let one = c.index.result.now in
    let here = ap (λ (h : Held). h.count) c.index.ensures in
    omega (
      arith,
      c.place_of-place.ensures.attribute one,
      here,
      length-attributes one.block one.count one.shape,
      ap (λ block. length (attributes block)) c.view.ensures,
    )

pub returns-clause-attribute : goal.returns-clause-attribute
returns-clause-attribute c =
    let place = c.place_of-place.result in
    let one = c.index.result.now in
    attribute-at c.args.self.now.held.items place.record place.attribute c.args.i one (attribute_of c.attr.result)
    c.place_of-place.ensures.record c.place_of-place.ensures.place
    (ap (λ block. slice_get (attributes block) place.attribute) (sym (c.view.ensures ∙ ap (λ (h : Held). h.block) c.index.ensures))
    ∙ c.attr.ensures.attribute)

pub returns-clause-part : goal.returns-clause-part
returns-clause-part c =
    let place = c.place_of-place.result in
    let one = c.index.result.now in
    let read = part-at c.args.self.now.held.items place.record place.attribute c.args.i one (attribute_of c.attr.result)
    c.place_of-place.ensures.record c.place_of-place.ensures.place
    (ap (λ block. slice_get (attributes block) place.attribute) (sym (c.view.ensures ∙ ap (λ (h : Held). h.block) c.index.ensures))
    ∙ c.attr.ensures.attribute) in
    rw read refl
