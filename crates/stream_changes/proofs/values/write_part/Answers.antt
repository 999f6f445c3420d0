use Rattle.std.proofs.Common.{◌+◌, length}
use Rattle.file_record.specs.Attributes.{with_bytes_at}
use Rattle.tree_edit.proofs.Below.{reads-stage}
use Rattle.tree_edit.proofs.ChangePart.{fits-not, in-record, most, part-changed, part-disk, part-staged, room-to-put}
use Rattle.stream_changes.proofs.values.write_part.Goals as goal

pub put_in_value-requires-clause-place : goal.put_in_value-requires-clause-place
put_in_value-requires-clause-place g c =
    let p = c.place_of-place in
    in-record c.in_ok-file.file p.result.record p.result.attribute c.args.i p.ensures.record p.ensures.place p.ensures.attribute

pub put_in_value-requires-clause-most : goal.put_in_value-requires-clause-most
put_in_value-requires-clause-most g c =
    let p = c.place_of-place in
    most c.in_ok-file.file p.result.record p.result.attribute c.args.i p.ensures.record p.ensures.place p.ensures.attribute
    (c.args.at + length c.args.bytes.now) c.if-not-fits_at.ensures

pub put_in_value-requires-clause-fits : goal.put_in_value-requires-clause-fits
put_in_value-requires-clause-fits g c =
    let p = c.place_of-place in
    room-to-put c.in_ok-file.file p.result.record p.result.attribute c.args.i p.ensures.record p.ensures.place p.ensures.attribute c.args.at
    (length c.args.bytes.now)
    c.if-not-fits_at.ensures

pub returns-clause-written : goal.returns-clause-written
returns-clause-written g c = λ told readable is_file apart initialized part there.
    let p = c.place_of-place in
    let e = c.in_ok-file.ensures in
    part-changed c.in_ok-file.file p.result.record p.result.attribute c.args.i p.ensures.record p.ensures.place p.ensures.attribute
    g.D.Disk c.args.number c.args.mft.now c.load.new.mft 20678 e.reads e.number e.rising e.own e.parts told readable is_file part there
    c.put_in_value.new.mft apart initialized (with_bytes_at c.args.at c.args.bytes.now) c.in_ok-put_in_value.ensures.put

pub returns-then-not-fits_at-clause-written : goal.returns-then-not-fits_at-clause-written
returns-then-not-fits_at-clause-written g c = λ told readable is_file apart initialized part there.
    let p = c.place_of-place in
    let e = c.in_ok-file.ensures in
    fits-not c.in_ok-file.file p.result.record p.result.attribute c.args.i p.ensures.record p.ensures.place p.ensures.attribute
    g.D.Disk c.args.number c.args.mft.now c.load.new.mft 20678 e.reads e.number e.rising e.own e.parts told readable is_file part there
    (c.args.at + length c.args.bytes.now) c.if-not-fits_at.ensures

pub returns-clause-places : goal.returns-clause-places
returns-clause-places g c =
    let p = c.place_of-place in
    let e = c.in_ok-file.ensures in
    part-staged c.in_ok-file.file p.result.record p.result.attribute c.args.i p.ensures.record p.ensures.place p.ensures.attribute
    g.D.Disk c.args.number c.args.mft.now c.load.new.mft 20678 e.reads e.number e.rising e.own e.parts
    c.put_in_value.new.mft c.put_in_value.result c.put_in_value.ensures.stages c.put_in_value.ensures.kept

pub returns-clause-disk : goal.returns-clause-disk
returns-clause-disk g c =
    let p = c.place_of-place in
    let e = c.in_ok-file.ensures in
    part-disk c.in_ok-file.file p.result.record p.result.attribute c.args.i p.ensures.record p.ensures.place p.ensures.attribute
    g.D.Disk c.args.number c.args.mft.now c.load.new.mft 20678 e.reads e.number e.rising e.own e.parts
    c.put_in_value.new.mft c.put_in_value.result c.requires.sound c.put_in_value.ensures.stages c.put_in_value.ensures.kept

pub fits_at-requires : goal.fits_at-requires
fits_at-requires g c =
    let p = c.place_of-place in
    in-record c.in_ok-file.file p.result.record p.result.attribute c.args.i p.ensures.record p.ensures.place p.ensures.attribute

pub returns-then-not-fits_at-clause-places : goal.returns-then-not-fits_at-clause-places
returns-then-not-fits_at-clause-places g c =
    reads-stage g.D.Disk c.args.number 20678 c.args.mft.now c.load.new.mft c.in_ok-file.ensures.reads

pub returns-in_err-put_in_value-clause-places : goal.returns-in_err-put_in_value-clause-places
returns-in_err-put_in_value-clause-places g c =
    let p = c.place_of-place in
    let e = c.in_ok-file.ensures in
    part-staged c.in_ok-file.file p.result.record p.result.attribute c.args.i p.ensures.record p.ensures.place p.ensures.attribute
    g.D.Disk c.args.number c.args.mft.now c.load.new.mft 20678 e.reads e.number e.rising e.own e.parts
    c.put_in_value.new.mft c.put_in_value.result c.put_in_value.ensures.stages c.put_in_value.ensures.kept
