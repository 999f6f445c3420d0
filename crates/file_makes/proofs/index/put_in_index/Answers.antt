use Rattle.std.proofs.Common.{length, inl, inr, sym, ◌∙◌}
use Rattle.std.proofs.lemmas.Result.{on_ok_weaker}
use Rattle.vol_stage.specs.Staged.{disk_of}
use Rattle.file_record.specs.Held.{file_number}
use Rattle.mft_table.specs.Mft.{mounted_of, stage_of, view}
use Rattle.made_edits.specs.Marks.{marks_of}
use Rattle.file_makes.proofs.EnterLaws.{alone, can-put, in-one-record, leaf-room, owners, staged-index, staged-own}
use Rattle.file_makes.proofs.index.put_in_index.Goals as goal

-- the root has room, or not
pub put_in_root-requires-clause-room : goal.put_in_root-requires-clause-room
put_in_root-requires-clause-room g c told =
    let v = view g.D.Disk c.args.mft.now in
    let lacks = (c.requires.can told).lacks in
    sym (c.has_root_room.ensures v lacks.items lacks.held.held lacks.held.has) ∙ c.if-has_root_room.true

pub put_in_root-requires-clause-can : goal.put_in_root-requires-clause-can
put_in_root-requires-clause-can g c told =
    let v = view g.D.Disk c.args.mft.now in
    let can = c.requires.can told in
    let lacks = can.lacks in
    can-put v (marks_of (mounted_of g.D.Disk c.args.mft.now)) c.args.dir.now c.args.upcase c.args.entry.now can
    (g.D.Disk.size (disk_of g.D.Disk (stage_of g.D.Disk c.args.mft.now))) c.args.mft.now.stands.table
    (sym (c.has_root_room.ensures v lacks.items lacks.held.held lacks.held.has) ∙ c.if-has_root_room.true)

pub put_item-requires-clause-owners : goal.put_item-requires-clause-owners
put_item-requires-clause-owners g c told =
    owners (view g.D.Disk c.args.mft.now) (marks_of (mounted_of g.D.Disk c.args.mft.now)) c.args.dir.now c.args.upcase c.args.entry.now
    (c.requires.can told)

pub put_item-requires-clause-room : goal.put_item-requires-clause-room
put_item-requires-clause-room g c told =
    let v = view g.D.Disk c.args.mft.now in
    let can = c.requires.can told in
    let lacks = can.lacks in
    leaf-room v (marks_of (mounted_of g.D.Disk c.args.mft.now)) c.args.dir.now c.args.upcase c.args.entry.now can
    (sym (c.has_root_room.ensures v lacks.items lacks.held.held lacks.held.has) ∙ c.if-has_root_room.false)

pub returns-then-has_root_room-clause-enters : goal.returns-then-has_root_room-clause-enters
returns-then-has_root_room-clause-enters g c = on_ok_weaker c.put_in_root.result (λ grows told.
    let v = view g.D.Disk c.args.mft.now in
    let can = c.requires.can told in
    let lacks = can.lacks in
    inr (record {
      grows = grows told;
      one = in-one-record v (marks_of (mounted_of g.D.Disk c.args.mft.now)) (file_number c.args.dir.now) can.ready_for
          (length c.args.entry.now)
          (sym (c.has_root_room.ensures v lacks.items lacks.held.held lacks.held.has) ∙ c.if-has_root_room.true);
    })) c.put_in_root.ensures.put

pub returns-then-has_root_room-clause-places : goal.returns-then-has_root_room-clause-places
returns-then-has_root_room-clause-places g c told =
    let v = view g.D.Disk c.args.mft.now in
    let can = c.requires.can told in
    let lacks = can.lacks in
    inr (staged-own g.D.Disk c.args.mft.now c.put_in_root.new.mft (file_number c.args.dir.now) told
    (alone v (marks_of (mounted_of g.D.Disk c.args.mft.now)) (file_number c.args.dir.now) can.ready_for (length c.args.entry.now)
    (sym (c.has_root_room.ensures v lacks.items lacks.held.held lacks.held.has) ∙ c.if-has_root_room.true))
    c.put_in_root.ensures.places)

pub returns-else-has_root_room-clause-places : goal.returns-else-has_root_room-clause-places
returns-else-has_root_room-clause-places g c told =
    inl (staged-index g.D.Disk c.args.mft.now c.put_item.new.mft c.args.dir.now (c.requires.can told).whole.parts c.put_item.ensures.places)
