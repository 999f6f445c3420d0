use Rattle.std.proofs.Common.{◌+◌, length}
use Rattle.std.proofs.lemmas.Result.{on_ok_weaker}
use Rattle.file_record.specs.Attributes.{with_bytes_at}
use Rattle.value_edits.proofs.WrittenBytes.{written-put}
use Rattle.stream_changes.proofs.ValueChanged.{change-not, changed-can-write, changed-in-use}
use Rattle.stream_changes.proofs.ValueChanged.{changed-staged, changed-written, record-within}
use Rattle.stream_changes.proofs.values.write_value.Goals as goal

pub returns-in_err-write_part-clause-places : goal.returns-in_err-write_part-clause-places
returns-in_err-write_part-clause-places g c =
    record-within g.D.Disk c.args.number c.args.mft.now c.write_part.new.mft c.write_part.ensures.places

-- where it does not fit
pub returns-then-not-branch-clause-places : goal.returns-then-not-branch-clause-places
returns-then-not-branch-clause-places g c =
    record-within g.D.Disk c.args.number c.args.mft.now c.write_part.new.mft c.write_part.ensures.places

pub returns-then-not-branch-clause-written : goal.returns-then-not-branch-clause-written
returns-then-not-branch-clause-written g c = λ told can room.
    absurd (change-not g.D.Disk c.args.found.now c.args.number c.args.mft.now c.write_part.new.mft told can
    c.in_ok-write_part.field-0 (c.args.at + length c.args.bytes.now) (with_bytes_at c.args.at c.args.bytes.now)
    c.in_ok-write_part.ensures.written c.if-not-branch.true room)

pub returns-then-not-branch-clause-tables : goal.returns-then-not-branch-clause-tables
returns-then-not-branch-clause-tables g c = λ told can room.
    absurd (change-not g.D.Disk c.args.found.now c.args.number c.args.mft.now c.write_part.new.mft told can
    c.in_ok-write_part.field-0 (c.args.at + length c.args.bytes.now) (with_bytes_at c.args.at c.args.bytes.now)
    c.in_ok-write_part.ensures.written c.if-not-branch.true room)

pub set_attributes-requires-clause-volume : goal.set_attributes-requires-clause-volume
set_attributes-requires-clause-volume g c =
    changed-in-use g.D.Disk c.args.found.now c.args.number (c.args.at + length c.args.bytes.now)
    (with_bytes_at c.args.at c.args.bytes.now) c.args.mft.now c.write_part.new.mft c.requires.volume c.write_part.ensures.disk
    c.requires.can c.in_ok-write_part.field-0 c.if-not-branch.false c.in_ok-write_part.ensures.written

pub set_attributes-requires-clause-can : goal.set_attributes-requires-clause-can
set_attributes-requires-clause-can g c =
    changed-can-write g.D.Disk c.args.found.now c.args.number (c.args.at + length c.args.bytes.now)
    (with_bytes_at c.args.at c.args.bytes.now) c.args.mft.now c.write_part.new.mft c.requires.volume c.write_part.ensures.disk
    c.requires.can c.in_ok-write_part.field-0 c.if-not-branch.false c.in_ok-write_part.ensures.written

-- what was put in is what the machine writes
pub returns-clause-written : goal.returns-clause-written
returns-clause-written g c =
    on_ok_weaker c.set_attributes.result (λ sets told can room.
    changed-written g.D.Disk c.args.found.now c.args.number (c.args.at + length c.args.bytes.now)
    (with_bytes_at c.args.at c.args.bytes.now) c.args.mft.now c.write_part.new.mft c.requires.volume c.write_part.ensures.disk
    c.requires.can c.in_ok-write_part.field-0 c.if-not-branch.false c.in_ok-write_part.ensures.written
    c.args.at c.args.bytes.now c.args.times.now c.args.flags c.set_attributes.new.mft sets told can
    (written-put c.args.at c.args.bytes.now can.value.held)) c.set_attributes.ensures.set

pub returns-clause-places : goal.returns-clause-places
returns-clause-places g c =
    changed-staged g.D.Disk c.args.found.now c.args.number (c.args.at + length c.args.bytes.now)
    (with_bytes_at c.args.at c.args.bytes.now) c.args.mft.now c.write_part.new.mft c.requires.volume c.write_part.ensures.disk
    c.requires.can c.in_ok-write_part.field-0 c.if-not-branch.false c.in_ok-write_part.ensures.written
    c.set_attributes.new.mft c.write_part.ensures.places c.set_attributes.ensures.places

pub returns-clause-tables : goal.returns-clause-tables
returns-clause-tables g c = on_ok_weaker c.set_attributes.result (λ tells told can room. tells) c.set_attributes.ensures.tables
