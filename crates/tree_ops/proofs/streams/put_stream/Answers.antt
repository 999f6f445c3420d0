use Rattle.std.proofs.Common.{◌+◌, ◌/◌, ℕ, List, length, refl, sym, subst}
use Rattle.std.proofs.lemmas.Result.{on_ok_weaker}
use Rattle.std.specs.Prelude.{IsTrue, OnOk, Result, Ok, Err}
use Rattle.volume_def.specs.FileNames.{names_of}
use Rattle.volume_def.specs.Files.{records_of}
use Rattle.mft_table.specs.Mft.{view}
use Rattle.stream_changes.proofs.DeviceKept.{device-disk}
use Rattle.tree_read.specs.Nodes.{number_of}
use Rattle.stream_changes.specs.Below.{StagesValue}
use Rattle.stream_changes.specs.Staged.{StagesGiving}
use Rattle.stream_changes.proofs.GivingLaws.{gives-none}
use Rattle.tree_ops.specs.Edits.{StagesSo}
use Rattle.tree_ops.proofs.StagedEdits.{value-staged}
use Rattle.tree_ops.proofs.StreamPut.{CanEditSo, CanWrite, WasEditedSo, WasWritten, punch-can, punch-edits}
use Rattle.tree_ops.proofs.streams.put_stream.Goals as goal

on_ok_always : {T E : Type 0} {P : Type 0} (r : Result T E) → P → OnOk r P
on_ok_always (Ok done) p = p
on_ok_always (Err why) p = tt

pub write_stream-requires-clause-can : goal.write_stream-requires-clause-can
write_stream-requires-clause-can g c =
    let v = view g.D.Disk c.args.mft.now in
    let found = c.args.found.now in
    subst (λ (all : List ℕ). CanWrite v v found c.in-Write.from all) (sym c.as_slice.ensures)
    (subst (CanEditSo v v found (number_of found.held) refl) c.in-Write.is c.requires.can)

pub returns-in-Write-clause-edits : goal.returns-in-Write-clause-edits
returns-in-Write-clause-edits g c =
    let v = view g.D.Disk c.args.mft.now in
    let new = view g.D.Disk c.write_stream.new.mft in
    let found = c.args.found.now in
    subst (λ what. OnOk c.write_stream.result (WasEditedSo v new found (number_of found.held) refl c.args.times.now what))
    (sym c.in-Write.is)
    (subst (λ (all : List ℕ). OnOk c.write_stream.result (WasWritten v new found c.in-Write.from all c.args.times.now)) c.as_slice.ensures
    c.write_stream.ensures.written)

pub punch_value-requires-clause-can : goal.punch_value-requires-clause-can
punch_value-requires-clause-can g c =
    let v = view g.D.Disk c.args.mft.now in
    let found = c.args.found.now in
    let number = c.number-number in
    punch-can v v found number.result number.ensures c.in-Punch.from c.in-Punch.len
    (subst (CanEditSo v v found number.result number.ensures) c.in-Punch.is c.requires.can)

pub returns-in-Punch-clause-edits : goal.returns-in-Punch-clause-edits
returns-in-Punch-clause-edits g c =
    let v = view g.D.Disk c.args.mft.now in
    let new = view g.D.Disk c.punch_value.new.mft in
    let found = c.args.found.now in
    let number = c.number-number in
    subst (λ what. OnOk c.punch_value.result (WasEditedSo v new found number.result number.ensures c.args.times.now what))
    (sym c.in-Punch.is)
    (on_ok_weaker c.punch_value.result
    (punch-edits v new found number.result number.ensures c.args.times.now c.in-Punch.from c.in-Punch.len)
    c.punch_value.ensures.punched)

pub returns-in-Resize-clause-edits : goal.returns-in-Resize-clause-edits
returns-in-Resize-clause-edits g c =
    let v = view g.D.Disk c.args.mft.now in
    let new = view g.D.Disk c.resize_stream.new.mft in
    let found = c.args.found.now in
    subst (λ what. OnOk c.resize_stream.result (WasEditedSo v new found (number_of found.held) refl c.args.times.now what))
    (sym c.in-Resize.is) c.resize_stream.ensures.resized

pub resize_stream-requires-clause-can : goal.resize_stream-requires-clause-can
resize_stream-requires-clause-can g c =
    let v = view g.D.Disk c.args.mft.now in
    subst (CanEditSo v v c.args.found.now (number_of c.args.found.now.held) refl) c.in-Resize.is c.requires.can

pub remove_stream-requires-clause-can : goal.remove_stream-requires-clause-can
remove_stream-requires-clause-can g c =
    let v = view g.D.Disk c.args.mft.now in
    subst (CanEditSo v v c.args.found.now (number_of c.args.found.now.held) refl) c.in-Remove.is c.requires.can

pub returns-in-Remove-clause-edits : goal.returns-in-Remove-clause-edits
returns-in-Remove-clause-edits g c =
    let v = view g.D.Disk c.args.mft.now in
    let new = view g.D.Disk c.remove_stream.new.mft in
    let found = c.args.found.now in
    subst (λ what. OnOk c.remove_stream.result (WasEditedSo v new found (number_of found.held) refl c.args.times.now what))
    (sym c.in-Remove.is) c.remove_stream.ensures.removed

pub returns-in-Write-clause-places : goal.returns-in-Write-clause-places
returns-in-Write-clause-places g c =
    let v = view g.D.Disk c.args.mft.now in
    let f = number_of c.args.found.now.held in
    subst (λ what. OnOk c.write_stream.result (IsTrue v.told → StagesSo g.D.Disk what f c.args.mft.now c.write_stream.new.mft))
    (sym c.in-Write.is)
    (subst (λ (all : List ℕ). OnOk c.write_stream.result (IsTrue v.told
    → StagesGiving g.D.Disk (12 + length all / 512) f v c.args.mft.now c.write_stream.new.mft)) c.as_slice.ensures
    c.write_stream.ensures.places)

pub returns-in-Punch-clause-places : goal.returns-in-Punch-clause-places
returns-in-Punch-clause-places g c = on_ok_always c.punch_value.result (λ told.
    let v = view g.D.Disk c.args.mft.now in
    let f = number_of c.args.found.now.held in
    subst (λ what. StagesSo g.D.Disk what f c.args.mft.now c.punch_value.new.mft) (sym c.in-Punch.is)
    (gives-none g.D.Disk 8 f v c.args.mft.now c.punch_value.new.mft
    (value-staged g.D.Disk f (names_of (records_of v) f) c.args.mft.now c.punch_value.new.mft
    (subst (λ k. StagesValue g.D.Disk k (names_of (records_of v) k) c.args.mft.now c.punch_value.new.mft) c.number-number.ensures
    (c.punch_value.ensures.places told)))))

pub returns-in-Resize-clause-places : goal.returns-in-Resize-clause-places
returns-in-Resize-clause-places g c =
    let f = number_of c.args.found.now.held in
    subst (λ what. OnOk c.resize_stream.result (IsTrue (view g.D.Disk c.args.mft.now).told
    → StagesSo g.D.Disk what f c.args.mft.now c.resize_stream.new.mft)) (sym c.in-Resize.is) c.resize_stream.ensures.places

pub returns-in-Remove-clause-places : goal.returns-in-Remove-clause-places
returns-in-Remove-clause-places g c =
    let f = number_of c.args.found.now.held in
    subst (λ what. OnOk c.remove_stream.result (IsTrue (view g.D.Disk c.args.mft.now).told
    → StagesSo g.D.Disk what f c.args.mft.now c.remove_stream.new.mft)) (sym c.in-Remove.is) c.remove_stream.ensures.places

pub returns-in-Punch-clause-device : goal.returns-in-Punch-clause-device
returns-in-Punch-clause-device g c = device-disk g.D.Disk c.args.mft.now c.punch_value.new.mft c.punch_value.ensures.disk
