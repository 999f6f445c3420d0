use Rattle.std.proofs.Common.{◌≡◌, ◌+◌, ◌/◌, ℕ, length, subst, sym, ◌∙◌, arith}
use Rattle.std.proofs.lemmas.Result.{on_ok_weaker}
use Rattle.volume_def.specs.Files.{parts, records_of}
use Rattle.mft_table.specs.Mft.{mounted_of, view}
use Rattle.stored_bits.proofs.DeviceKept.{device-disk}
use Rattle.tree_edit.specs.Below.{parts_in}
use Rattle.stream_changes.specs.Staged.{StagesGiving}
use Rattle.stream_changes.proofs.GivingLaws.{gives-more, gives-over, gives-value}
use Rattle.stream_changes.proofs.WaysWritten.{write-some, behind-writes, moving-can, moving-writes, over-can, over-writes, reach-can}
use Rattle.stream_changes.proofs.WaysWritten.{value-can, value-room, value-writes}
use Rattle.stream_changes.proofs.streams.write_stream.Goals as goal

-- over bytes in place
pub write_over-requires-clause-can : goal.write_over-requires-clause-can
write_over-requires-clause-can g c = λ told.
    let v = view g.D.Disk c.args.mft.now in
    let w = c.requires.can told in
    over-can v v c.args.found.now c.number-number.result c.number-number.ensures c.args.at c.args.bytes.now
    (mounted_of g.D.Disk c.args.mft.now).upcase (c.requires.volume told).stored.upcase_is c.in-InPlace.is w.0 w.1

pub returns-in-InPlace-clause-written : goal.returns-in-InPlace-clause-written
returns-in-InPlace-clause-written g c =
    let v = view g.D.Disk c.args.mft.now in
    let new = view g.D.Disk c.write_over.new.mft in
    on_ok_weaker c.write_over.result
    (over-writes v new c.args.found.now c.number-number.result c.number-number.ensures c.args.at c.args.bytes.now c.args.times.now
    (mounted_of g.D.Disk c.args.mft.now).upcase (λ told. (c.requires.volume told).stored.upcase_is) c.in-InPlace.is)
    c.write_over.ensures.over

pub returns-in-InPlace-clause-places : goal.returns-in-InPlace-clause-places
returns-in-InPlace-clause-places g c =
    let v = view g.D.Disk c.args.mft.now in
    let len = length c.args.bytes.now in
    on_ok_weaker c.write_over.result (λ any told.
    let w = c.requires.can told in
    let can = over-can v v c.args.found.now c.number-number.result c.number-number.ensures c.args.at c.args.bytes.now
    (mounted_of g.D.Disk c.args.mft.now).upcase (c.requires.volume told).stored.upcase_is c.in-InPlace.is w.0 w.1 in
    subst (λ k. StagesGiving g.D.Disk (12 + len / 512) k v c.args.mft.now c.write_over.new.mft) c.number-number.ensures
    (gives-more g.D.Disk (10 + len / 512) (12 + len / 512) c.number-number.result v c.args.mft.now c.write_over.new.mft (omega arith)
    (gives-over g.D.Disk c.number-number.result c.args.mft.now c.write_over.new.mft can.is.part.name c.args.at len
    (c.write_over.ensures.places told can))))
    c.write_over.ensures.tables

pub returns-in-InPlace-clause-device : goal.returns-in-InPlace-clause-device
returns-in-InPlace-clause-device g c = device-disk g.D.Disk c.args.mft.now c.write_over.new.mft c.write_over.ensures.disk

-- into a value
pub write_value-requires-clause-can : goal.write_value-requires-clause-can
write_value-requires-clause-can g c =
    let v = view g.D.Disk c.args.mft.now in
    value-can v v c.args.found.now c.number-number.result c.number-number.ensures c.args.at c.args.bytes.now c.in-InRecord.is
    c.requires.can

pub returns-in-InRecord-clause-written : goal.returns-in-InRecord-clause-written
returns-in-InRecord-clause-written g c =
    let v = view g.D.Disk c.args.mft.now in
    let new = view g.D.Disk c.write_value.new.mft in
    on_ok_weaker c.write_value.result
    (value-writes v new c.args.found.now c.number-number.result c.number-number.ensures c.args.at c.args.bytes.now c.args.times.now
    c.in-InRecord.is)
    c.write_value.ensures.written

pub returns-in-InRecord-clause-places : goal.returns-in-InRecord-clause-places
returns-in-InRecord-clause-places g c =
    let v = view g.D.Disk c.args.mft.now in
    let len = length c.args.bytes.now in
    on_ok_weaker c.write_value.result (λ any told.
    subst (λ k. StagesGiving g.D.Disk (12 + len / 512) k v c.args.mft.now c.write_value.new.mft) c.number-number.ensures
    (gives-value g.D.Disk (12 + len / 512) c.number-number.result c.args.mft.now c.write_value.new.mft (omega arith)
    (c.write_value.ensures.places told)))
    c.write_value.ensures.tables

pub returns-in-InRecord-clause-tables : goal.returns-in-InRecord-clause-tables
returns-in-InRecord-clause-tables g c =
    let v = view g.D.Disk c.args.mft.now in
    on_ok_weaker c.write_value.result (λ tells t.
    let told = sym c.write_value.ensures.disk.goes_on.told_image ∙ t in
    tells told
    (value-can v v c.args.found.now c.number-number.result c.number-number.ensures c.args.at c.args.bytes.now c.in-InRecord.is
    c.requires.can told)
    (value-room v v c.args.found.now c.number-number.result c.number-number.ensures c.args.at c.args.bytes.now c.in-InRecord.is
    c.requires.can told) t) c.write_value.ensures.tables

pub returns-in-InRecord-clause-device : goal.returns-in-InRecord-clause-device
returns-in-InRecord-clause-device g c = device-disk g.D.Disk c.args.mft.now c.write_value.new.mft c.write_value.ensures.disk

-- over and behind those in its clusters
pub write_behind-requires-clause-held : goal.write_behind-requires-clause-held
write_behind-requires-clause-held g c = λ told.
    subst (λ (k : ℕ). parts_in c.args.found.now.held ≡ parts (records_of (view g.D.Disk c.args.mft.now)) k) (sym c.number-number.ensures)
    (c.requires.can told).1.held.parts.parts

pub write_behind-requires-clause-can : goal.write_behind-requires-clause-can
write_behind-requires-clause-can g c =
    let v = view g.D.Disk c.args.mft.now in
    reach-can v v c.args.found.now c.number-number.result c.number-number.ensures c.args.at c.args.bytes.now c.in-InClusters.is
    c.requires.can

pub returns-in-InClusters-clause-written : goal.returns-in-InClusters-clause-written
returns-in-InClusters-clause-written g c =
    let v = view g.D.Disk c.args.mft.now in
    let new = view g.D.Disk c.write_behind.new.mft in
    on_ok_weaker c.write_behind.result
    (behind-writes v new c.args.found.now c.number-number.result c.number-number.ensures c.args.at c.args.bytes.now c.args.times.now
    c.in-InClusters.is)
    c.write_behind.ensures.written

pub returns-in-InClusters-clause-places : goal.returns-in-InClusters-clause-places
returns-in-InClusters-clause-places g c =
    let len = length c.args.bytes.now in
    on_ok_weaker c.write_behind.result (λ stages told.
    subst (λ k. StagesGiving g.D.Disk (12 + len / 512) k (view g.D.Disk c.args.mft.now) c.args.mft.now c.write_behind.new.mft)
    c.number-number.ensures
    (gives-more g.D.Disk (10 + len / 512) (12 + len / 512) c.number-number.result (view g.D.Disk c.args.mft.now) c.args.mft.now
    c.write_behind.new.mft (omega arith) (stages told))) c.write_behind.ensures.places

pub write_behind-requires-clause-some : goal.write_behind-requires-clause-some
write_behind-requires-clause-some g c =
    let v = view g.D.Disk c.args.mft.now in
    write-some v v c.args.found.now c.number-number.result c.number-number.ensures c.args.at c.args.bytes.now c.in-InClusters.is
    c.requires.can

-- out of its record
pub write_moving-requires-clause-held : goal.write_moving-requires-clause-held
write_moving-requires-clause-held g c = λ told.
    subst (λ (k : ℕ). parts_in c.args.found.now.held ≡ parts (records_of (view g.D.Disk c.args.mft.now)) k) (sym c.number-number.ensures)
    (c.requires.can told).1.held.parts.parts

pub write_moving-requires-clause-can : goal.write_moving-requires-clause-can
write_moving-requires-clause-can g c =
    let v = view g.D.Disk c.args.mft.now in
    moving-can v v c.args.found.now c.number-number.result c.number-number.ensures c.args.at c.args.bytes.now c.in-IntoClusters.is
    c.requires.can

pub returns-in-IntoClusters-clause-written : goal.returns-in-IntoClusters-clause-written
returns-in-IntoClusters-clause-written g c =
    let v = view g.D.Disk c.args.mft.now in
    let new = view g.D.Disk c.write_moving.new.mft in
    on_ok_weaker c.write_moving.result
    (moving-writes v new c.args.found.now c.number-number.result c.number-number.ensures c.args.at c.args.bytes.now c.args.times.now
    c.in-IntoClusters.is)
    c.write_moving.ensures.written

pub returns-in-IntoClusters-clause-places : goal.returns-in-IntoClusters-clause-places
returns-in-IntoClusters-clause-places g c =
    let len = length c.args.bytes.now in
    on_ok_weaker c.write_moving.result (λ stages told.
    subst (λ k. StagesGiving g.D.Disk (12 + len / 512) k (view g.D.Disk c.args.mft.now) c.args.mft.now c.write_moving.new.mft)
    c.number-number.ensures (stages told)) c.write_moving.ensures.places
