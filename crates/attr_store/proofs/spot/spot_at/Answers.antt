use Rattle.std.proofs.Common.{ℕ, List, ap, ◌∙◌}
use Rattle.std.proofs.lemmas.Result.{IfOk-weaker}
use Rattle.ntfs_def.specs.declared.sizes.Sizes.{Sizes}
use Rattle.attr_view.specs.View.{attribute_of}
use Rattle.attr_store.specs.Sought.{parts_held_like, spot_in_text}
use Rattle.attr_store.proofs.Found.{body-spans}
use Rattle.attr_store.proofs.StoredLaws.{found-spot, unheld-spot}
use Rattle.attr_store.proofs.spot.spot_at.Goals as goal

pub returns-in-Some : goal.returns-in-Some
returns-in-Some c =
    let file = c.args.file.now in
    let a = attribute_of c.in-Some.extent in
    let wanted = attribute_of c.args.stream.now in
    let found = c.in-Some.ensures.some in
    let (extent, text, body, first, last) = body-spans a.body c.args.vcn found.spans in
    let sizes = c.extent_sizes-sizes.ensures extent text body in
    let its = c.extent_text.ensures extent text body in
    IfOk-weaker c.spot_in_text.result _ _ (λ spot is size f s.
    is ∙ ap (λ (told : Sizes). spot_in_text told.first c.extent_text.result.now c.args.vcn) sizes
    ∙ ap (λ (told : List ℕ). spot_in_text extent.sizes.first told c.args.vcn) its
    ∙ found-spot size f found.holder (parts_held_like file wanted) a c.args.vcn extent text s body found.among found.spans)
    c.spot_in_text.ensures

pub returns-in-None : goal.returns-in-None
returns-in-None c size f s =
    unheld-spot size f (parts_held_like c.args.file.now (attribute_of c.args.stream.now)) c.args.vcn s c.in-None.ensures.none
