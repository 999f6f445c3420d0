use Rattle.std.proofs.Common.{refl}
use Rattle.std.proofs.lemmas.Result.{on_ok_weaker}
use Rattle.attr_view.specs.Values.{with_length}
use Rattle.stream_changes.proofs.ValueChanged.{change-not, changed-can-write, changed-in-use}
use Rattle.stream_changes.proofs.ValueChanged.{changed-resized, changed-staged, record-within}
use Rattle.stream_changes.proofs.values.resize_value.Goals as goal

pub returns-in_err-resize_part-clause-places : goal.returns-in_err-resize_part-clause-places
returns-in_err-resize_part-clause-places g c =
    record-within g.D.Disk c.args.number c.args.mft.now c.resize_part.new.mft c.resize_part.ensures.places

-- where it does not fit
pub returns-then-not-branch-clause-places : goal.returns-then-not-branch-clause-places
returns-then-not-branch-clause-places g c =
    record-within g.D.Disk c.args.number c.args.mft.now c.resize_part.new.mft c.resize_part.ensures.places

pub returns-then-not-branch-clause-resized : goal.returns-then-not-branch-clause-resized
returns-then-not-branch-clause-resized g c = λ told can room.
    absurd (change-not g.D.Disk c.args.found.now c.args.number c.args.mft.now c.resize_part.new.mft told can
    c.in_ok-resize_part.field-0 c.args.size
    (with_length c.args.size) c.in_ok-resize_part.ensures.resized c.if-not-branch.true room)

pub returns-then-not-branch-clause-tables : goal.returns-then-not-branch-clause-tables
returns-then-not-branch-clause-tables g c = λ told can room.
    absurd (change-not g.D.Disk c.args.found.now c.args.number c.args.mft.now c.resize_part.new.mft told can
    c.in_ok-resize_part.field-0 c.args.size
    (with_length c.args.size) c.in_ok-resize_part.ensures.resized c.if-not-branch.true room)

pub set_attributes-requires-clause-volume : goal.set_attributes-requires-clause-volume
set_attributes-requires-clause-volume g c =
    changed-in-use g.D.Disk c.args.found.now c.args.number c.args.size (with_length c.args.size) c.args.mft.now
    c.resize_part.new.mft c.requires.volume c.resize_part.ensures.disk c.requires.can
    c.in_ok-resize_part.field-0 c.if-not-branch.false c.in_ok-resize_part.ensures.resized

pub set_attributes-requires-clause-can : goal.set_attributes-requires-clause-can
set_attributes-requires-clause-can g c =
    changed-can-write g.D.Disk c.args.found.now c.args.number c.args.size (with_length c.args.size) c.args.mft.now
    c.resize_part.new.mft c.requires.volume c.resize_part.ensures.disk c.requires.can
    c.in_ok-resize_part.field-0 c.if-not-branch.false c.in_ok-resize_part.ensures.resized

pub returns-clause-resized : goal.returns-clause-resized
returns-clause-resized g c =
    on_ok_weaker c.set_attributes.result (λ sets told can room.
    changed-resized g.D.Disk c.args.found.now c.args.number c.args.size (with_length c.args.size) c.args.mft.now
    c.resize_part.new.mft c.requires.volume c.resize_part.ensures.disk c.requires.can
    c.in_ok-resize_part.field-0 c.if-not-branch.false c.in_ok-resize_part.ensures.resized
    c.args.times.now c.args.flags c.set_attributes.new.mft sets told can refl) c.set_attributes.ensures.set

pub returns-clause-places : goal.returns-clause-places
returns-clause-places g c =
    changed-staged g.D.Disk c.args.found.now c.args.number c.args.size (with_length c.args.size) c.args.mft.now
    c.resize_part.new.mft c.requires.volume c.resize_part.ensures.disk c.requires.can
    c.in_ok-resize_part.field-0 c.if-not-branch.false c.in_ok-resize_part.ensures.resized
    c.set_attributes.new.mft c.resize_part.ensures.places c.set_attributes.ensures.places

pub returns-clause-tables : goal.returns-clause-tables
returns-clause-tables g c = on_ok_weaker c.set_attributes.result (λ tells told can room. tells) c.set_attributes.ensures.tables
