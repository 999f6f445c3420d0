use Rattle.tree_edit.proofs.ChangePart.{in-record, tells-fit}
use Rattle.tree_edit.proofs.value.fits_value.Goals as goal

pub fits_at-requires : goal.fits_at-requires
fits_at-requires c =
    let p = c.place_of in
    in-record c.args.file.now p.result.record p.result.attribute c.args.i p.ensures.record p.ensures.place p.ensures.attribute

pub returns : goal.returns
returns c =
    let p = c.place_of in
    tells-fit c.args.file.now p.result.record p.result.attribute c.args.i p.ensures.record p.ensures.place p.ensures.attribute
    c.args.size c.fits_at.result c.fits_at.ensures
