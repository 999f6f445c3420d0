use Rattle.std.proofs.Common.{◌+◌, ◌/◌, ◌∙◌, ap, length, sym, inl, inr, arith}
use Rattle.std.specs.Option.{option_copied}
use Rattle.list_laws.proofs.OptionLaws.{none_other, some_same}
use Rattle.ntfs_def.specs.Rounded.{clusters_for}
use Rattle.volume_def.specs.Table.{cluster_bytes}
use Rattle.mft_table.specs.Mft.{view}
use Rattle.tree_model.specs.Streams.{written}
use Rattle.stored_bits.proofs.DeviceKept.{device-same}
use Rattle.stream_changes.proofs.MovedCalls.{few-sectors, held-value, left-written, staged-more}
use Rattle.stream_changes.proofs.moving.write_moving.Goals as goal

pub leave_record-requires-clause-some : goal.leave_record-requires-clause-some
leave_record-requires-clause-some g c =
    let long = rw c.in-Some-2.is at c.in_ok-whole.ensures.len in
    let longer = rw c.in-Some-2.is at c.in_ok-whole.ensures.longer in
    omega (arith, long, longer, ap length c.deref.ensures.value)

pub leave_record-requires-clause-more : goal.leave_record-requires-clause-more
leave_record-requires-clause-more g c =
    let long = rw c.in-Some-2.is at c.in_ok-whole.ensures.len in omega (arith, long, ap length c.deref.ensures.value)

pub leave_record-requires-clause-last : goal.leave_record-requires-clause-last
leave_record-requires-clause-last g c = λ told.
    let long = rw c.in-Some-2.is at c.in_ok-whole.ensures.len in
    ap (λ n. clusters_for n (cluster_bytes (view g.D.Disk c.args.mft.now).layout)) (sym (ap length c.deref.ensures.value ∙ long))

pub leave_record-requires-clause-can : goal.leave_record-requires-clause-can
leave_record-requires-clause-can g c = λ told. (c.requires.can told).leave

pub returns-clause-written : goal.returns-clause-written
returns-clause-written g c = λ told can.
    let v = view g.D.Disk c.args.mft.now in
    let bytes = c.args.bytes.now in
    let shown = some_same (sym (ap option_copied c.in-Some.is) ∙ held-value v c.args.found.now c.args.number (c.args.at + length bytes)
    can.leave c.args.held.now (option_copied c.value_of_part.result) (c.requires.held told) c.value_of_part.ensures) in
    let whole = rw c.in-Some-2.is at c.in_ok-whole.ensures.written in
    left-written v (view g.D.Disk c.leave_record.new.mft) c.args.found.now c.args.number c.args.at bytes can c.deref.result.now
    (c.deref.ensures.value ∙ whole ∙ ap (written c.args.at bytes) shown) c.args.times.now c.args.flags
    (c.in_ok-leave_record.ensures.left told can.leave)

pub returns-clause-places : goal.returns-clause-places
returns-clause-places g c = λ told.
    let v = view g.D.Disk c.args.mft.now in
    let bytes = c.args.bytes.now in
    let can = c.requires.can told in
    let long = rw c.in-Some-2.is at c.in_ok-whole.ensures.len in
    let short = c.in_ok-leave_record.ensures.short told can.leave in
    staged-more g.D.Disk (10 + length c.deref.result.now / 512) (12 + length bytes / 512) c.args.number v c.args.mft.now
    c.leave_record.new.mft
    (few-sectors c.args.at (length bytes) (length c.deref.result.now) (omega (arith, can.begins, short))
    (ap length c.deref.ensures.value ∙ long))
    (c.in_ok-leave_record.ensures.places told)

-- the part is a value
pub returns-in_default-clause-written : goal.returns-in_default-clause-written
returns-in_default-clause-written g c = λ told can.
    absurd (none_other (sym (ap option_copied c.in_default.is) ∙ held-value (view g.D.Disk c.args.mft.now) c.args.found.now c.args.number
    (c.args.at + length c.args.bytes.now) can.leave c.args.held.now (option_copied c.value_of_part.result) (c.requires.held told)
    c.value_of_part.ensures))

pub returns-in_default-clause-places : goal.returns-in_default-clause-places
returns-in_default-clause-places g c = λ told.
    absurd (none_other (sym (ap option_copied c.in_default.is) ∙ held-value (view g.D.Disk c.args.mft.now) c.args.found.now c.args.number
    (c.args.at + length c.args.bytes.now) (c.requires.can told).leave c.args.held.now (option_copied c.value_of_part.result)
    (c.requires.held told) c.value_of_part.ensures))

pub returns-in_default-clause-device : goal.returns-in_default-clause-device
returns-in_default-clause-device g c = device-same g.D.Disk c.args.mft.now

-- .. and the bytes begin within it, or right behind it, and end past it
pub returns-in_default-2-clause-written : goal.returns-in_default-2-clause-written
returns-in_default-2-clause-written g c = λ told can.
    let shown = some_same (sym (ap option_copied c.in-Some.is) ∙ held-value (view g.D.Disk c.args.mft.now) c.args.found.now c.args.number
    (c.args.at + length c.args.bytes.now) can.leave c.args.held.now (option_copied c.value_of_part.result) (c.requires.held told)
    c.value_of_part.ensures) in
    elim (rw c.in_default-2.is at c.in_ok-whole.ensures.none) [
      | inl before ↦ absurd (omega (arith, before, can.begins, ap length shown))
      | inr within ↦ absurd (omega (arith, within, can.longer, ap length shown))
    ]

pub returns-in_default-2-clause-places : goal.returns-in_default-2-clause-places
returns-in_default-2-clause-places g c = λ told.
    let can = c.requires.can told in
    let shown = some_same (sym (ap option_copied c.in-Some.is) ∙ held-value (view g.D.Disk c.args.mft.now) c.args.found.now c.args.number
    (c.args.at + length c.args.bytes.now) can.leave c.args.held.now (option_copied c.value_of_part.result) (c.requires.held told)
    c.value_of_part.ensures) in
    elim (rw c.in_default-2.is at c.in_ok-whole.ensures.none) [
      | inl before ↦ absurd (omega (arith, before, can.begins, ap length shown))
      | inr within ↦ absurd (omega (arith, within, can.longer, ap length shown))
    ]

pub returns-in_default-2-clause-device : goal.returns-in_default-2-clause-device
returns-in_default-2-clause-device g c = device-same g.D.Disk c.args.mft.now

pub returns-in_err-whole-clause-device : goal.returns-in_err-whole-clause-device
returns-in_err-whole-clause-device g c = device-same g.D.Disk c.args.mft.now
