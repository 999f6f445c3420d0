use Rattle.std.proofs.lemmas.Result.{on_ok_weaker}
use Rattle.tree_edit.proofs.ChangePart.{in-record, part-disk, part-removed, part-staged}
use Rattle.stream_changes.proofs.values.drop_part.Goals as goal

pub remove_attribute-requires-clause-place : goal.remove_attribute-requires-clause-place
remove_attribute-requires-clause-place g c =
    let p = c.place_of-place in
    in-record c.in_ok-file.file p.result.record p.result.attribute c.args.i p.ensures.record p.ensures.place p.ensures.attribute

pub returns-clause-dropped : goal.returns-clause-dropped
returns-clause-dropped g c =
    let p = c.place_of-place in
    let e = c.in_ok-file.ensures in
    on_ok_weaker c.remove_attribute.result (λ r told readable is_file apart initialized part there.
    part-removed c.in_ok-file.file p.result.record p.result.attribute c.args.i p.ensures.record p.ensures.place p.ensures.attribute
    g.D.Disk c.args.number c.args.mft.now c.load.new.mft 20678 e.reads e.number e.rising e.own e.parts told readable is_file part there
    c.remove_attribute.new.mft apart initialized r) c.remove_attribute.ensures.removed

pub returns-clause-places : goal.returns-clause-places
returns-clause-places g c =
    let p = c.place_of-place in
    let e = c.in_ok-file.ensures in
    part-staged c.in_ok-file.file p.result.record p.result.attribute c.args.i p.ensures.record p.ensures.place p.ensures.attribute
    g.D.Disk c.args.number c.args.mft.now c.load.new.mft 20678 e.reads e.number e.rising e.own e.parts
    c.remove_attribute.new.mft c.remove_attribute.result c.remove_attribute.ensures.stages c.remove_attribute.ensures.kept

pub returns-clause-disk : goal.returns-clause-disk
returns-clause-disk g c =
    let p = c.place_of-place in
    let e = c.in_ok-file.ensures in
    part-disk c.in_ok-file.file p.result.record p.result.attribute c.args.i p.ensures.record p.ensures.place p.ensures.attribute
    g.D.Disk c.args.number c.args.mft.now c.load.new.mft 20678 e.reads e.number e.rising e.own e.parts
    c.remove_attribute.new.mft c.remove_attribute.result c.requires.sound c.remove_attribute.ensures.stages c.remove_attribute.ensures.kept
