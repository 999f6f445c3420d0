use Rattle.std.proofs.Common.{ℕ, List, None, refl}
use Rattle.std.proofs.lemmas.Result.{on_ok_weaker}
use Rattle.stream_changes.proofs.ExtentChanged.{extent-can-write, extent-in-use, extent-put, extent-staged}
use Rattle.stream_changes.proofs.ExtentDone.{gone-behind, gone-puts}
use Rattle.stream_changes.proofs.extents.drop_extent.Goals as goal

pub set_attributes-requires-clause-volume : goal.set_attributes-requires-clause-volume
set_attributes-requires-clause-volume g c =
    let f = c.args.number in
    let a = c.args.mft.now in
    let back = c.give_behind.new.mft in
    let m = c.drop_part.new.mft in
    extent-in-use g.D.Disk c.args.found.now f 0 (λ (held : List ℕ). None) a back m c.give_behind.ensures.device c.drop_part.ensures.disk
    c.requires.can
    (gone-behind g.D.Disk c.args.found.now f 0 a back c.args.held.now c.requires.held c.requires.can c.in_ok-give_behind.ensures.gives)
    (gone-puts g.D.Disk c.args.found.now f 0 a back c.args.held.now c.requires.held c.requires.can c.in_ok-give_behind.ensures.gives
    c.give_behind.ensures.device m refl c.in_ok-drop_part.ensures.dropped)

pub set_attributes-requires-clause-can : goal.set_attributes-requires-clause-can
set_attributes-requires-clause-can g c =
    let f = c.args.number in
    let a = c.args.mft.now in
    let back = c.give_behind.new.mft in
    let m = c.drop_part.new.mft in
    extent-can-write g.D.Disk c.args.found.now f 0 (λ (held : List ℕ). None) a back m c.give_behind.ensures.device c.drop_part.ensures.disk
    c.requires.can
    (gone-behind g.D.Disk c.args.found.now f 0 a back c.args.held.now c.requires.held c.requires.can c.in_ok-give_behind.ensures.gives)
    (gone-puts g.D.Disk c.args.found.now f 0 a back c.args.held.now c.requires.held c.requires.can c.in_ok-give_behind.ensures.gives
    c.give_behind.ensures.device m refl c.in_ok-drop_part.ensures.dropped)

pub returns-clause-dropped : goal.returns-clause-dropped
returns-clause-dropped g c =
    let f = c.args.number in
    let a = c.args.mft.now in
    let back = c.give_behind.new.mft in
    let m = c.drop_part.new.mft in
    on_ok_weaker c.set_attributes.result (λ sets told can.
    extent-put g.D.Disk c.args.found.now f 0 (λ (held : List ℕ). None) a back m c.give_behind.ensures.device c.drop_part.ensures.disk
    (λ t. can)
    (gone-behind g.D.Disk c.args.found.now f 0 a back c.args.held.now c.requires.held (λ t. can) c.in_ok-give_behind.ensures.gives)
    (gone-puts g.D.Disk c.args.found.now f 0 a back c.args.held.now c.requires.held (λ t. can) c.in_ok-give_behind.ensures.gives
    c.give_behind.ensures.device m refl c.in_ok-drop_part.ensures.dropped)
    c.set_attributes.new.mft c.args.times.now c.args.flags sets told) c.set_attributes.ensures.set

pub returns-clause-places : goal.returns-clause-places
returns-clause-places g c =
    let f = c.args.number in
    let a = c.args.mft.now in
    let back = c.give_behind.new.mft in
    let m = c.drop_part.new.mft in
    on_ok_weaker c.set_attributes.result (λ sets told.
    extent-staged g.D.Disk c.args.found.now f 0 (λ (held : List ℕ). None) a back m c.give_behind.ensures.device c.drop_part.ensures.disk
    c.requires.can
    (gone-behind g.D.Disk c.args.found.now f 0 a back c.args.held.now c.requires.held c.requires.can c.in_ok-give_behind.ensures.gives)
    (gone-puts g.D.Disk c.args.found.now f 0 a back c.args.held.now c.requires.held c.requires.can c.in_ok-give_behind.ensures.gives
    c.give_behind.ensures.device m refl c.in_ok-drop_part.ensures.dropped)
    c.set_attributes.new.mft c.args.times.now c.args.flags sets c.drop_part.ensures.places c.set_attributes.ensures.places told)
    c.set_attributes.ensures.set

pub give_behind-requires-clause-owners : goal.give_behind-requires-clause-owners
give_behind-requires-clause-owners g c = λ told. (c.requires.can told).named.can.can.apart.owners
