use Rattle.std.proofs.lemmas.Result.{IfOk-weaker}
use Rattle.tree_edit.proofs.ChangePart.{in-record, part-disk, part-staged}
use Rattle.stream_changes.proofs.CutPart.{part-cut}
use Rattle.stream_changes.proofs.extents.cut_part.Goals as goal

pub cut_extent-requires-clause-place : goal.cut_extent-requires-clause-place
cut_extent-requires-clause-place g c =
    let p = c.place_of-place in
    in-record c.in_ok-file.file p.result.record p.result.attribute c.args.i p.ensures.record p.ensures.place p.ensures.attribute

pub returns-clause-cut : goal.returns-clause-cut
returns-clause-cut g c =
    let p = c.place_of-place in
    let e = c.in_ok-file.ensures in
    IfOk-weaker c.cut_extent.result _ _ (λ done tells told readable is_file apart initialized part there.
    part-cut c.in_ok-file.file p.result.record p.result.attribute c.args.i p.ensures.record p.ensures.place p.ensures.attribute
    g.D.Disk c.args.number c.args.mft.now c.load.new.mft c.cut_extent.new.mft 20678 e.reads e.number e.rising e.own e.parts told readable
    is_file part there apart initialized done c.args.size tells) c.cut_extent.ensures.cut

pub returns-clause-places : goal.returns-clause-places
returns-clause-places g c =
    let p = c.place_of-place in
    let e = c.in_ok-file.ensures in
    part-staged c.in_ok-file.file p.result.record p.result.attribute c.args.i p.ensures.record p.ensures.place p.ensures.attribute
    g.D.Disk c.args.number c.args.mft.now c.load.new.mft 20678 e.reads e.number e.rising e.own e.parts
    c.cut_extent.new.mft c.cut_extent.result c.cut_extent.ensures.stages c.cut_extent.ensures.kept

pub returns-clause-disk : goal.returns-clause-disk
returns-clause-disk g c =
    let p = c.place_of-place in
    let e = c.in_ok-file.ensures in
    part-disk c.in_ok-file.file p.result.record p.result.attribute c.args.i p.ensures.record p.ensures.place p.ensures.attribute
    g.D.Disk c.args.number c.args.mft.now c.load.new.mft 20678 e.reads e.number e.rising e.own e.parts
    c.cut_extent.new.mft c.cut_extent.result c.requires.sound c.cut_extent.ensures.stages c.cut_extent.ensures.kept
