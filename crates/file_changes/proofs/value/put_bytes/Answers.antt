use Rattle.std.proofs.lemmas.Result.{on_ok_weaker}
use Rattle.file_changes.proofs.PutLaws.{can-write, in-use, put-then, staged-then}
use Rattle.file_changes.proofs.value.put_bytes.Goals as goal

pub set_attributes-requires-clause-volume : goal.set_attributes-requires-clause-volume
set_attributes-requires-clause-volume g c =
    in-use g.D.Disk c.args.number c.args.i c.args.at c.args.bytes.now c.args.mft.now c.overwrite_value.new.mft c.requires.volume
    c.overwrite_value.ensures.disk c.requires.can c.in_ok-overwrite_value.ensures.written

pub set_attributes-requires-clause-can : goal.set_attributes-requires-clause-can
set_attributes-requires-clause-can g c =
    can-write g.D.Disk c.args.number c.args.i c.args.at c.args.bytes.now c.args.mft.now c.overwrite_value.new.mft c.requires.volume
    c.overwrite_value.ensures.disk c.requires.can c.in_ok-overwrite_value.ensures.written

pub returns-clause-put : goal.returns-clause-put
returns-clause-put g c =
    on_ok_weaker c.set_attributes.result (put-then g.D.Disk c.args.number c.args.i c.args.at c.args.bytes.now c.args.mft.now
    c.overwrite_value.new.mft c.requires.volume c.overwrite_value.ensures.disk c.requires.can c.in_ok-overwrite_value.ensures.written
    c.args.times.now c.args.flags c.set_attributes.new.mft) c.set_attributes.ensures.set

pub returns-clause-places : goal.returns-clause-places
returns-clause-places g c =
    staged-then g.D.Disk c.args.number c.args.i c.args.at c.args.bytes.now c.args.mft.now c.overwrite_value.new.mft c.requires.volume
    c.overwrite_value.ensures.disk c.requires.can c.in_ok-overwrite_value.ensures.written c.set_attributes.new.mft
    c.overwrite_value.ensures.places c.set_attributes.ensures.places
