use Rattle.std.proofs.Common.{◌≡◌, List, ℕ, Option, length, refl, sym, ap, subst, ◌∙◌}
use Rattle.std.specs.Option.{option_copied}
use Rattle.std.specs.Prelude.{IsSomeAnd, slice_get}
use Rattle.list_laws.proofs.OptionLaws.{some_same}
use Rattle.ntfs_def.specs.Attribute.{Attribute, attributes, value_of}
use Rattle.ntfs_def.specs.Shape.{HasShape}
use Rattle.ntfs_def.proofs.AttributeLaws.{length-attributes, slice_get-attributes}
use Rattle.file_record.proofs.PutLaws.{value-few}
use Rattle.file_record.proofs.held.Held.value_len.Goals as goal

pub returns-clause-few : goal.returns-clause-few
returns-clause-few c =
    let one = c.args.self.now in
    let shape = subst (HasShape one.block) (sym (length-attributes one.block one.count one.shape)) one.shape in
    let same = some_same (sym c.attr.ensures.attribute ∙ ap (λ (b : List ℕ). slice_get (attributes b) c.args.i) c.view.ensures
    ∙ slice_get-attributes one.block (length (attributes one.block)) c.args.i shape c.requires.within) in
    value-few one.block (length (attributes one.block)) c.args.i (length c.in-Some.value.now) shape
    (subst (λ (o : Option (List ℕ)). IsSomeAnd o (λ v. length c.in-Some.value.now ≡ length v))
    (sym (ap option_copied c.in-Some.is) ∙ c.value.ensures ∙ ap (λ (a : Attribute). value_of a.body) same) refl)
