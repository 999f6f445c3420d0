use Rattle.std.proofs.Common.{◌≡◌, ℕ, sym, subst, ◌∙◌, arith}
use Rattle.std.proofs.lemmas.Result.{on_ok_weaker}
use Rattle.volume_def.specs.Files.{parts, records_of}
use Rattle.mft_table.specs.Mft.{view}
use Rattle.stored_bits.proofs.DeviceKept.{device-disk, device-same}
use Rattle.tree_edit.specs.Below.{parts_in}
use Rattle.tree_edit.specs.Staged.{TellsStored}
use Rattle.stream_changes.specs.Staged.{StagesGiving}
use Rattle.stream_changes.proofs.GivingLaws.{gives-more, gives-value}
use Rattle.stream_changes.proofs.WaysDone.{get-extent-ends, get-extent-can, get-extent-long, get-extent-puts, get-extent-short}
use Rattle.stream_changes.proofs.WaysDone.{get-longer-puts, get-moving-can, get-moving-puts, get-value-can}
use Rattle.stream_changes.proofs.WaysDone.{get-value-puts, get-value-room, gets-not_over}
use Rattle.stream_changes.proofs.streams.resize_stream.Goals as goal

-- no stream goes so
pub returns-in-InPlace-clause-resized : goal.returns-in-InPlace-clause-resized
returns-in-InPlace-clause-resized g c = λ told name can.
    let v = view g.D.Disk c.args.mft.now in
    absurd (gets-not_over v v c.args.found.now c.number-number.result c.number-number.ensures c.args.size c.in-InPlace.is name can)

pub returns-in-InPlace-clause-places : goal.returns-in-InPlace-clause-places
returns-in-InPlace-clause-places g c = λ told.
    let v = view g.D.Disk c.args.mft.now in
    let w = c.requires.can told in
    absurd (gets-not_over v v c.args.found.now c.number-number.result c.number-number.ensures c.args.size c.in-InPlace.is w.0 w.1)

pub returns-in-InPlace-clause-tables : goal.returns-in-InPlace-clause-tables
returns-in-InPlace-clause-tables g c = λ told.
    let v = view g.D.Disk c.args.mft.now in
    let w = c.requires.can told in
    absurd (gets-not_over v v c.args.found.now c.number-number.result c.number-number.ensures c.args.size c.in-InPlace.is w.0 w.1)

pub returns-in-InPlace-clause-device : goal.returns-in-InPlace-clause-device
returns-in-InPlace-clause-device g c = device-same g.D.Disk c.args.mft.now

-- a value
pub resize_value-requires-clause-can : goal.resize_value-requires-clause-can
resize_value-requires-clause-can g c = λ told.
    let v = view g.D.Disk c.args.mft.now in
    let w = c.requires.can told in
    get-value-can v v c.args.found.now c.number-number.result c.number-number.ensures c.args.size c.in-InRecord.is w.0 w.1

pub returns-in-InRecord-clause-resized : goal.returns-in-InRecord-clause-resized
returns-in-InRecord-clause-resized g c =
    let v = view g.D.Disk c.args.mft.now in
    let new = view g.D.Disk c.resize_value.new.mft in
    on_ok_weaker c.resize_value.result (λ does told name can.
    get-value-puts v new c.args.found.now c.number-number.result c.number-number.ensures c.args.size c.args.times.now c.in-InRecord.is name
    can (does told))
    c.resize_value.ensures.resized

pub returns-in-InRecord-clause-places : goal.returns-in-InRecord-clause-places
returns-in-InRecord-clause-places g c =
    on_ok_weaker c.resize_value.result (λ any told.
    subst (λ k. StagesGiving g.D.Disk 11 k (view g.D.Disk c.args.mft.now) c.args.mft.now c.resize_value.new.mft) c.number-number.ensures
    (gives-value g.D.Disk 11 c.number-number.result c.args.mft.now c.resize_value.new.mft (omega arith)
    (c.resize_value.ensures.places told)))
    c.resize_value.ensures.tables

pub returns-in-InRecord-clause-device : goal.returns-in-InRecord-clause-device
returns-in-InRecord-clause-device g c = device-disk g.D.Disk c.args.mft.now c.resize_value.new.mft c.resize_value.ensures.disk

-- a value that moves
pub lengthen_moving-requires-clause-held : goal.lengthen_moving-requires-clause-held
lengthen_moving-requires-clause-held g c = λ told.
    subst (λ (k : ℕ). parts_in c.args.found.now.held ≡ parts (records_of (view g.D.Disk c.args.mft.now)) k) (sym c.number-number.ensures)
    (c.requires.can told).1.held.parts.parts

pub lengthen_moving-requires-clause-can : goal.lengthen_moving-requires-clause-can
lengthen_moving-requires-clause-can g c = λ told.
    let v = view g.D.Disk c.args.mft.now in
    let w = c.requires.can told in
    get-moving-can v v c.args.found.now c.number-number.result c.number-number.ensures c.args.size c.in-IntoClusters.is w.0 w.1

pub returns-in-IntoClusters-clause-resized : goal.returns-in-IntoClusters-clause-resized
returns-in-IntoClusters-clause-resized g c =
    let v = view g.D.Disk c.args.mft.now in
    let new = view g.D.Disk c.lengthen_moving.new.mft in
    on_ok_weaker c.lengthen_moving.result (λ does told name can.
    get-moving-puts v new c.args.found.now c.number-number.result c.number-number.ensures c.args.size c.args.times.now c.in-IntoClusters.is
    name can (does told)) c.lengthen_moving.ensures.resized

pub returns-in-IntoClusters-clause-places : goal.returns-in-IntoClusters-clause-places
returns-in-IntoClusters-clause-places g c =
    on_ok_weaker c.lengthen_moving.result (λ stages told.
    subst (λ k. StagesGiving g.D.Disk 11 k (view g.D.Disk c.args.mft.now) c.args.mft.now c.lengthen_moving.new.mft) c.number-number.ensures
    (stages told)) c.lengthen_moving.ensures.places

-- clusters, of a stream that gets longer
pub lengthen_extent-requires-clause-held : goal.lengthen_extent-requires-clause-held
lengthen_extent-requires-clause-held g c = λ told.
    subst (λ (k : ℕ). parts_in c.args.found.now.held ≡ parts (records_of (view g.D.Disk c.args.mft.now)) k) (sym c.number-number.ensures)
    (c.requires.can told).1.held.parts.parts

pub lengthen_extent-requires-clause-can : goal.lengthen_extent-requires-clause-can
lengthen_extent-requires-clause-can g c = λ told.
    let v = view g.D.Disk c.args.mft.now in
    let w = c.requires.can told in
    get-extent-can v v c.args.found.now c.number-number.result c.number-number.ensures c.args.size c.in-InClusters.is w.0 w.1

pub returns-in-InClusters-clause-resized : goal.returns-in-InClusters-clause-resized
returns-in-InClusters-clause-resized g c =
    let v = view g.D.Disk c.args.mft.now in
    let new = view g.D.Disk c.lengthen_extent.new.mft in
    on_ok_weaker c.lengthen_extent.result (λ does told name can.
    get-longer-puts v new c.args.found.now c.number-number.result c.number-number.ensures c.args.size c.args.times.now c.in-InClusters.is
    name can
    c.if-size-stream.true (does told)) c.lengthen_extent.ensures.resized

pub returns-in-InClusters-clause-places : goal.returns-in-InClusters-clause-places
returns-in-InClusters-clause-places g c =
    let v = view g.D.Disk c.args.mft.now in
    on_ok_weaker c.lengthen_extent.result (λ stages told.
    let w = c.requires.can told in
    subst (λ k. StagesGiving g.D.Disk 11 k v c.args.mft.now c.lengthen_extent.new.mft) c.number-number.ensures
    (gives-more g.D.Disk 8 11 c.number-number.result v c.args.mft.now c.lengthen_extent.new.mft (omega arith)
    (get-extent-long v v c.args.found.now c.number-number.result c.number-number.ensures c.args.size c.in-InClusters.is w.0 w.1
    c.if-size-stream.true (stages told))))
    c.lengthen_extent.ensures.places

pub returns-in-InClusters-clause-tables : goal.returns-in-InClusters-clause-tables
returns-in-InClusters-clause-tables g c =
    let v = view g.D.Disk c.args.mft.now in
    on_ok_weaker c.lengthen_extent.result (λ tells t.
    let told = sym c.lengthen_extent.ensures.device.goes_on.told_image ∙ t in
    let w = c.requires.can told in
    get-extent-long v v c.args.found.now c.number-number.result c.number-number.ensures c.args.size c.in-InClusters.is w.0 w.1
    {P = TellsStored g.D.Disk c.lengthen_extent.new.mft} c.if-size-stream.true (tells told) t)
    c.lengthen_extent.ensures.tables

-- .. and of one that does not
pub shorten_extent-requires-clause-held : goal.shorten_extent-requires-clause-held
shorten_extent-requires-clause-held g c = λ told.
    subst (λ (k : ℕ). parts_in c.args.found.now.held ≡ parts (records_of (view g.D.Disk c.args.mft.now)) k) (sym c.number-number.ensures)
    (c.requires.can told).1.held.parts.parts

pub shorten_extent-requires-clause-can : goal.shorten_extent-requires-clause-can
shorten_extent-requires-clause-can g c = λ told.
    let v = view g.D.Disk c.args.mft.now in
    let w = c.requires.can told in
    get-extent-can v v c.args.found.now c.number-number.result c.number-number.ensures c.args.size c.in-InClusters-2.is w.0 w.1

pub returns-in-InClusters-2-clause-resized : goal.returns-in-InClusters-2-clause-resized
returns-in-InClusters-2-clause-resized g c =
    let v = view g.D.Disk c.args.mft.now in
    let new = view g.D.Disk c.shorten_extent.new.mft in
    on_ok_weaker c.shorten_extent.result (λ does told name can.
    get-extent-puts v new c.args.found.now c.number-number.result c.number-number.ensures c.args.size c.args.times.now c.in-InClusters-2.is
    name can
    c.if-size-stream.false (does told)) c.shorten_extent.ensures.resized

pub returns-in-InClusters-2-clause-places : goal.returns-in-InClusters-2-clause-places
returns-in-InClusters-2-clause-places g c =
    let v = view g.D.Disk c.args.mft.now in
    on_ok_weaker c.shorten_extent.result (λ stages told.
    let w = c.requires.can told in
    subst (λ k. StagesGiving g.D.Disk 11 k v c.args.mft.now c.shorten_extent.new.mft) c.number-number.ensures
    (gives-more g.D.Disk 8 11 c.number-number.result v c.args.mft.now c.shorten_extent.new.mft (omega arith)
    (get-extent-short v v c.args.found.now c.number-number.result c.number-number.ensures c.args.size c.in-InClusters-2.is w.0 w.1
    c.if-size-stream.false (stages told))))
    c.shorten_extent.ensures.places

pub returns-in-InClusters-2-clause-tables : goal.returns-in-InClusters-2-clause-tables
returns-in-InClusters-2-clause-tables g c =
    let v = view g.D.Disk c.args.mft.now in
    on_ok_weaker c.shorten_extent.result (λ tells t.
    let told = sym c.shorten_extent.ensures.device.goes_on.told_image ∙ t in
    let w = c.requires.can told in
    get-extent-short v v c.args.found.now c.number-number.result c.number-number.ensures c.args.size c.in-InClusters-2.is w.0 w.1
    {P = TellsStored g.D.Disk c.shorten_extent.new.mft} c.if-size-stream.false (tells told) t)
    c.shorten_extent.ensures.tables

pub returns-in-InRecord-clause-tables : goal.returns-in-InRecord-clause-tables
returns-in-InRecord-clause-tables g c =
    let v = view g.D.Disk c.args.mft.now in
    on_ok_weaker c.resize_value.result (λ tells t.
    let told = sym c.resize_value.ensures.disk.goes_on.told_image ∙ t in
    let w = c.requires.can told in
    tells told
    (get-value-can v v c.args.found.now c.number-number.result c.number-number.ensures c.args.size c.in-InRecord.is w.0 w.1)
    (get-value-room v v c.args.found.now c.number-number.result c.number-number.ensures c.args.size c.in-InRecord.is w.0 w.1) t)
    c.resize_value.ensures.tables

pub lengthen_extent-requires-clause-ends : goal.lengthen_extent-requires-clause-ends
lengthen_extent-requires-clause-ends g c = λ told.
    let v = view g.D.Disk c.args.mft.now in
    let w = c.requires.can told in
    get-extent-ends v v c.args.found.now c.number-number.result c.number-number.ensures c.args.size c.in-InClusters.is w.0 w.1
    c.if-size-stream.true
