use Rattle.std.proofs.Common.{ℕ, List, None}
use Rattle.std.proofs.lemmas.Result.{on_ok_weaker}
use Rattle.stream_changes.proofs.ValueChanged.{can-write, drop-first, in-use, put-then, record-within, staged-then}
use Rattle.stream_changes.proofs.values.drop_value.Goals as goal

pub returns-in_err-drop_part-clause-places : goal.returns-in_err-drop_part-clause-places
returns-in_err-drop_part-clause-places g c =
    record-within g.D.Disk c.args.number c.args.mft.now c.drop_part.new.mft c.drop_part.ensures.places

pub set_attributes-requires-clause-volume : goal.set_attributes-requires-clause-volume
set_attributes-requires-clause-volume g c =
    in-use g.D.Disk c.args.found.now c.args.number (λ (held : List ℕ). None) c.args.mft.now c.drop_part.new.mft
    c.requires.volume c.drop_part.ensures.disk c.requires.can (λ t can. drop-first g.D.Disk c.args.found.now c.args.number c.args.mft.now
    c.drop_part.new.mft t can c.in_ok-drop_part.ensures.dropped)

pub set_attributes-requires-clause-can : goal.set_attributes-requires-clause-can
set_attributes-requires-clause-can g c =
    can-write g.D.Disk c.args.found.now c.args.number (λ (held : List ℕ). None) c.args.mft.now c.drop_part.new.mft
    c.requires.volume c.drop_part.ensures.disk c.requires.can (λ t can. drop-first g.D.Disk c.args.found.now c.args.number c.args.mft.now
    c.drop_part.new.mft t can c.in_ok-drop_part.ensures.dropped)

pub returns-clause-dropped : goal.returns-clause-dropped
returns-clause-dropped g c =
    on_ok_weaker c.set_attributes.result
    (put-then g.D.Disk c.args.found.now c.args.number (λ (held : List ℕ). None) c.args.mft.now c.drop_part.new.mft
    c.requires.volume c.drop_part.ensures.disk c.requires.can (λ t can. drop-first g.D.Disk c.args.found.now c.args.number c.args.mft.now
    c.drop_part.new.mft t can c.in_ok-drop_part.ensures.dropped)
    c.args.times.now c.args.flags c.set_attributes.new.mft) c.set_attributes.ensures.set

pub returns-clause-places : goal.returns-clause-places
returns-clause-places g c =
    staged-then g.D.Disk c.args.found.now c.args.number (λ (held : List ℕ). None) c.args.mft.now c.drop_part.new.mft
    c.requires.volume c.drop_part.ensures.disk c.requires.can (λ t can. drop-first g.D.Disk c.args.found.now c.args.number c.args.mft.now
    c.drop_part.new.mft t can c.in_ok-drop_part.ensures.dropped)
    c.set_attributes.new.mft c.drop_part.ensures.places c.set_attributes.ensures.places
