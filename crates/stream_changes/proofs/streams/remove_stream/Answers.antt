use Rattle.std.proofs.Common.{◌≡◌, ℕ, sym, subst, arith}
use Rattle.std.proofs.lemmas.Result.{on_ok_weaker}
use Rattle.volume_def.specs.Files.{parts, records_of}
use Rattle.mft_table.specs.Mft.{view}
use Rattle.stored_bits.proofs.DeviceKept.{device-disk, device-same}
use Rattle.tree_edit.specs.Below.{parts_in}
use Rattle.stream_changes.specs.Staged.{StagesGiving}
use Rattle.stream_changes.proofs.GivingLaws.{gives-value}
use Rattle.stream_changes.proofs.WaysDone.{go-extent-can, go-extent-puts, go-value-can, go-value-puts, goes-not_moved, goes-not_over}
use Rattle.stream_changes.proofs.streams.remove_stream.Goals as goal

-- no stream goes so
pub returns-in-InPlace-clause-removed : goal.returns-in-InPlace-clause-removed
returns-in-InPlace-clause-removed g c = λ told name can.
    let v = view g.D.Disk c.args.mft.now in
    absurd (goes-not_over v v c.args.found.now c.number-number.result c.number-number.ensures c.in-InPlace.is name can)

pub returns-in-InPlace-clause-places : goal.returns-in-InPlace-clause-places
returns-in-InPlace-clause-places g c = λ told.
    let v = view g.D.Disk c.args.mft.now in
    let w = c.requires.can told in
    absurd (goes-not_over v v c.args.found.now c.number-number.result c.number-number.ensures c.in-InPlace.is w.0 w.1)

pub returns-in-InPlace-clause-tables : goal.returns-in-InPlace-clause-tables
returns-in-InPlace-clause-tables g c = λ told.
    let v = view g.D.Disk c.args.mft.now in
    let w = c.requires.can told in
    absurd (goes-not_over v v c.args.found.now c.number-number.result c.number-number.ensures c.in-InPlace.is w.0 w.1)

pub returns-in-InPlace-clause-device : goal.returns-in-InPlace-clause-device
returns-in-InPlace-clause-device g c = device-same g.D.Disk c.args.mft.now

pub returns-in-IntoClusters-clause-removed : goal.returns-in-IntoClusters-clause-removed
returns-in-IntoClusters-clause-removed g c = λ told name can.
    let v = view g.D.Disk c.args.mft.now in
    absurd (goes-not_moved v v c.args.found.now c.number-number.result c.number-number.ensures c.in-IntoClusters.is name can)

pub returns-in-IntoClusters-clause-places : goal.returns-in-IntoClusters-clause-places
returns-in-IntoClusters-clause-places g c = λ told.
    let v = view g.D.Disk c.args.mft.now in
    let w = c.requires.can told in
    absurd (goes-not_moved v v c.args.found.now c.number-number.result c.number-number.ensures c.in-IntoClusters.is w.0 w.1)

pub returns-in-IntoClusters-clause-tables : goal.returns-in-IntoClusters-clause-tables
returns-in-IntoClusters-clause-tables g c = λ told.
    let v = view g.D.Disk c.args.mft.now in
    let w = c.requires.can told in
    absurd (goes-not_moved v v c.args.found.now c.number-number.result c.number-number.ensures c.in-IntoClusters.is w.0 w.1)

pub returns-in-IntoClusters-clause-device : goal.returns-in-IntoClusters-clause-device
returns-in-IntoClusters-clause-device g c = device-same g.D.Disk c.args.mft.now

-- a value
pub drop_value-requires-clause-can : goal.drop_value-requires-clause-can
drop_value-requires-clause-can g c = λ told.
    let v = view g.D.Disk c.args.mft.now in
    let w = c.requires.can told in
    go-value-can v v c.args.found.now c.number-number.result c.number-number.ensures c.in-InRecord.is w.0 w.1

pub returns-in-InRecord-clause-removed : goal.returns-in-InRecord-clause-removed
returns-in-InRecord-clause-removed g c =
    let v = view g.D.Disk c.args.mft.now in
    let new = view g.D.Disk c.drop_value.new.mft in
    on_ok_weaker c.drop_value.result (λ does told name can.
    go-value-puts v new c.args.found.now c.number-number.result c.number-number.ensures c.args.times.now c.in-InRecord.is name can
    (does told))
    c.drop_value.ensures.dropped

pub returns-in-InRecord-clause-places : goal.returns-in-InRecord-clause-places
returns-in-InRecord-clause-places g c =
    on_ok_weaker c.drop_value.result (λ any told.
    subst (λ k. StagesGiving g.D.Disk 8 k (view g.D.Disk c.args.mft.now) c.args.mft.now c.drop_value.new.mft) c.number-number.ensures
    (gives-value g.D.Disk 8 c.number-number.result c.args.mft.now c.drop_value.new.mft (omega arith)
    (c.drop_value.ensures.places told)))
    c.drop_value.ensures.tables

pub returns-in-InRecord-clause-device : goal.returns-in-InRecord-clause-device
returns-in-InRecord-clause-device g c = device-disk g.D.Disk c.args.mft.now c.drop_value.new.mft c.drop_value.ensures.disk

-- clusters
pub drop_extent-requires-clause-held : goal.drop_extent-requires-clause-held
drop_extent-requires-clause-held g c = λ told.
    subst (λ (k : ℕ). parts_in c.args.found.now.held ≡ parts (records_of (view g.D.Disk c.args.mft.now)) k) (sym c.number-number.ensures)
    (c.requires.can told).1.held.parts.parts

pub drop_extent-requires-clause-can : goal.drop_extent-requires-clause-can
drop_extent-requires-clause-can g c = λ told.
    let v = view g.D.Disk c.args.mft.now in
    let w = c.requires.can told in
    go-extent-can v v c.args.found.now c.number-number.result c.number-number.ensures c.in-InClusters.is w.0 w.1

pub returns-in-InClusters-clause-removed : goal.returns-in-InClusters-clause-removed
returns-in-InClusters-clause-removed g c =
    let v = view g.D.Disk c.args.mft.now in
    let new = view g.D.Disk c.drop_extent.new.mft in
    on_ok_weaker c.drop_extent.result (λ does told name can.
    go-extent-puts v new c.args.found.now c.number-number.result c.number-number.ensures c.args.times.now c.in-InClusters.is name can
    (does told)) c.drop_extent.ensures.dropped

pub returns-in-InClusters-clause-places : goal.returns-in-InClusters-clause-places
returns-in-InClusters-clause-places g c =
    on_ok_weaker c.drop_extent.result (λ stages told.
    subst (λ k. StagesGiving g.D.Disk 8 k (view g.D.Disk c.args.mft.now) c.args.mft.now c.drop_extent.new.mft) c.number-number.ensures
    (stages told)) c.drop_extent.ensures.places
