use Rattle.std.proofs.lemmas.Result.{on_ok_weaker}
use Rattle.file_changes.proofs.ValueLaws.{value-disk, value-staged, value-written}
use Rattle.file_changes.proofs.value.overwrite_value.Goals as goal

pub returns-clause-written : goal.returns-clause-written
returns-clause-written g c =
    let e = c.in_ok-file.ensures in
    on_ok_weaker c.write_bytes.result (λ w told readable is_file apart initialized part there holds.
    value-written g.D.Disk c.args.number c.args.i c.args.at c.args.bytes.now c.args.mft.now c.load.new.mft 20678 c.in_ok-file.file e.reads
    e.number e.rising e.own e.parts told readable is_file part there c.write_bytes.new.mft w apart initialized)
    c.write_bytes.ensures.written

pub returns-clause-places : goal.returns-clause-places
returns-clause-places g c =
    let e = c.in_ok-file.ensures in
    value-staged g.D.Disk c.args.number c.args.i c.args.at c.args.bytes.now c.args.mft.now c.load.new.mft 20678 c.in_ok-file.file e.reads
    e.number e.rising e.own e.parts c.write_bytes.new.mft c.write_bytes.result c.if-not-holds_bytes.ensures
    c.write_bytes.ensures.stages c.write_bytes.ensures.kept

pub returns-clause-disk : goal.returns-clause-disk
returns-clause-disk g c =
    let e = c.in_ok-file.ensures in
    value-disk g.D.Disk c.args.number c.args.i c.args.at c.args.bytes.now c.args.mft.now c.load.new.mft 20678 c.in_ok-file.file e.reads
    e.number e.rising e.own e.parts c.write_bytes.new.mft c.write_bytes.result c.requires.sound c.if-not-holds_bytes.ensures
    c.write_bytes.ensures.stages c.write_bytes.ensures.kept
