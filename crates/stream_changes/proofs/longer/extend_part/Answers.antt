use Rattle.std.proofs.lemmas.Result.{IfOk-weaker}
use Rattle.tree_edit.proofs.ChangePart.{in-record, part-disk, part-staged}
use Rattle.stream_changes.proofs.ExtendedPart.{part-extended}
use Rattle.stream_changes.proofs.longer.extend_part.Goals as goal

pub extend_extent-requires-clause-place : goal.extend_extent-requires-clause-place
extend_extent-requires-clause-place g c =
    let p = c.place_of-place in
    in-record c.in_ok-file.file p.result.record p.result.attribute c.args.i p.ensures.record p.ensures.place p.ensures.attribute

pub returns-clause-extended : goal.returns-clause-extended
returns-clause-extended g c =
    let p = c.place_of-place in
    let e = c.in_ok-file.ensures in
    IfOk-weaker c.extend_extent.result _ _ (λ done tells told readable is_file apart initialized part there.
    part-extended c.in_ok-file.file p.result.record p.result.attribute c.args.i p.ensures.record p.ensures.place p.ensures.attribute
    g.D.Disk c.args.number c.args.mft.now c.load.new.mft c.extend_extent.new.mft 20678 e.reads e.number e.rising e.own e.parts told readable
    is_file part there apart initialized done c.args.real c.args.initialized c.args.run tells) c.extend_extent.ensures.extended

pub returns-clause-places : goal.returns-clause-places
returns-clause-places g c =
    let p = c.place_of-place in
    let e = c.in_ok-file.ensures in
    part-staged c.in_ok-file.file p.result.record p.result.attribute c.args.i p.ensures.record p.ensures.place p.ensures.attribute
    g.D.Disk c.args.number c.args.mft.now c.load.new.mft 20678 e.reads e.number e.rising e.own e.parts
    c.extend_extent.new.mft c.extend_extent.result c.extend_extent.ensures.stages c.extend_extent.ensures.kept

pub returns-clause-disk : goal.returns-clause-disk
returns-clause-disk g c =
    let p = c.place_of-place in
    let e = c.in_ok-file.ensures in
    part-disk c.in_ok-file.file p.result.record p.result.attribute c.args.i p.ensures.record p.ensures.place p.ensures.attribute
    g.D.Disk c.args.number c.args.mft.now c.load.new.mft 20678 e.reads e.number e.rising e.own e.parts
    c.extend_extent.new.mft c.extend_extent.result c.requires.sound c.extend_extent.ensures.stages c.extend_extent.ensures.kept
