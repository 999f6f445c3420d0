use Rattle.attr_view.specs.Values.{with_length}
use Rattle.tree_edit.proofs.Below.{reads-stage}
use Rattle.tree_edit.proofs.ChangePart.{fits, fits-not, in-record, most, part-changed, part-disk, part-staged, resident}
use Rattle.stream_changes.proofs.values.resize_part.Goals as goal

pub resize_attribute-requires-clause-place : goal.resize_attribute-requires-clause-place
resize_attribute-requires-clause-place g c =
    let p = c.place_of-place in
    in-record c.in_ok-file.file p.result.record p.result.attribute c.args.i p.ensures.record p.ensures.place p.ensures.attribute

pub resize_attribute-requires-clause-resident : goal.resize_attribute-requires-clause-resident
resize_attribute-requires-clause-resident g c =
    let p = c.place_of-place in
    resident c.in_ok-file.file p.result.record p.result.attribute c.args.i p.ensures.record p.ensures.place p.ensures.attribute c.args.size
    c.if-not-fits_at.ensures

pub resize_attribute-requires-clause-most : goal.resize_attribute-requires-clause-most
resize_attribute-requires-clause-most g c =
    let p = c.place_of-place in
    most c.in_ok-file.file p.result.record p.result.attribute c.args.i p.ensures.record p.ensures.place p.ensures.attribute c.args.size
    c.if-not-fits_at.ensures

pub resize_attribute-requires-clause-fits : goal.resize_attribute-requires-clause-fits
resize_attribute-requires-clause-fits g c =
    let p = c.place_of-place in
    fits c.in_ok-file.file p.result.record p.result.attribute c.args.i p.ensures.record p.ensures.place p.ensures.attribute c.args.size
    c.if-not-fits_at.ensures

pub returns-clause-resized : goal.returns-clause-resized
returns-clause-resized g c = λ told readable is_file apart initialized part there.
    let p = c.place_of-place in
    let e = c.in_ok-file.ensures in
    part-changed c.in_ok-file.file p.result.record p.result.attribute c.args.i p.ensures.record p.ensures.place p.ensures.attribute
    g.D.Disk c.args.number c.args.mft.now c.load.new.mft 20678 e.reads e.number e.rising e.own e.parts told readable is_file part there
    c.resize_attribute.new.mft apart initialized (with_length c.args.size) c.in_ok-resize_attribute.ensures.resized

pub returns-then-not-fits_at-clause-resized : goal.returns-then-not-fits_at-clause-resized
returns-then-not-fits_at-clause-resized g c = λ told readable is_file apart initialized part there.
    let p = c.place_of-place in
    let e = c.in_ok-file.ensures in
    fits-not c.in_ok-file.file p.result.record p.result.attribute c.args.i p.ensures.record p.ensures.place p.ensures.attribute
    g.D.Disk c.args.number c.args.mft.now c.load.new.mft 20678 e.reads e.number e.rising e.own e.parts told readable is_file part there
    c.args.size c.if-not-fits_at.ensures

pub returns-clause-places : goal.returns-clause-places
returns-clause-places g c =
    let p = c.place_of-place in
    let e = c.in_ok-file.ensures in
    part-staged c.in_ok-file.file p.result.record p.result.attribute c.args.i p.ensures.record p.ensures.place p.ensures.attribute
    g.D.Disk c.args.number c.args.mft.now c.load.new.mft 20678 e.reads e.number e.rising e.own e.parts
    c.resize_attribute.new.mft c.resize_attribute.result c.resize_attribute.ensures.stages c.resize_attribute.ensures.kept

pub returns-clause-disk : goal.returns-clause-disk
returns-clause-disk g c =
    let p = c.place_of-place in
    let e = c.in_ok-file.ensures in
    part-disk c.in_ok-file.file p.result.record p.result.attribute c.args.i p.ensures.record p.ensures.place p.ensures.attribute
    g.D.Disk c.args.number c.args.mft.now c.load.new.mft 20678 e.reads e.number e.rising e.own e.parts
    c.resize_attribute.new.mft c.resize_attribute.result c.requires.sound c.resize_attribute.ensures.stages c.resize_attribute.ensures.kept

pub fits_at-requires : goal.fits_at-requires
fits_at-requires g c =
    let p = c.place_of-place in
    in-record c.in_ok-file.file p.result.record p.result.attribute c.args.i p.ensures.record p.ensures.place p.ensures.attribute

pub returns-then-not-fits_at-clause-places : goal.returns-then-not-fits_at-clause-places
returns-then-not-fits_at-clause-places g c =
    reads-stage g.D.Disk c.args.number 20678 c.args.mft.now c.load.new.mft c.in_ok-file.ensures.reads

pub returns-in_err-resize_attribute-clause-places : goal.returns-in_err-resize_attribute-clause-places
returns-in_err-resize_attribute-clause-places g c =
    let p = c.place_of-place in
    let e = c.in_ok-file.ensures in
    part-staged c.in_ok-file.file p.result.record p.result.attribute c.args.i p.ensures.record p.ensures.place p.ensures.attribute
    g.D.Disk c.args.number c.args.mft.now c.load.new.mft 20678 e.reads e.number e.rising e.own e.parts
    c.resize_attribute.new.mft c.resize_attribute.result c.resize_attribute.ensures.stages c.resize_attribute.ensures.kept
