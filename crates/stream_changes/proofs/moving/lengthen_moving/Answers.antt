use Rattle.std.proofs.Common.{◌+◌, ◌/◌, ◌∙◌, ap, length, sym, arith}
use Rattle.std.specs.Option.{option_copied}
use Rattle.list_laws.proofs.OptionLaws.{none_other, some_same}
use Rattle.ntfs_def.specs.Rounded.{clusters_for}
use Rattle.volume_def.specs.Table.{cluster_bytes}
use Rattle.mft_table.specs.Mft.{view}
use Rattle.stored_bits.proofs.DeviceKept.{device-same}
use Rattle.stream_changes.proofs.MovedCalls.{held-value, left-resized, staged-more}
use Rattle.stream_changes.proofs.moving.lengthen_moving.Goals as goal

pub leave_record-requires-clause-last : goal.leave_record-requires-clause-last
leave_record-requires-clause-last g c = λ told.
    let v = view g.D.Disk c.args.mft.now in
    let can = c.requires.can told in
    let shown = some_same (sym (ap option_copied c.in-Some.is) ∙ held-value v c.args.found.now c.args.number c.args.size can.leave
    c.args.held.now (option_copied c.value_of_part.result) (c.requires.held told) c.value_of_part.ensures) in
    can.last ∙ ap (λ n. clusters_for n (cluster_bytes v.layout)) (sym (ap length shown))

pub leave_record-requires-clause-can : goal.leave_record-requires-clause-can
leave_record-requires-clause-can g c = λ told. (c.requires.can told).leave

pub returns-clause-resized : goal.returns-clause-resized
returns-clause-resized g c = λ told can.
    let v = view g.D.Disk c.args.mft.now in
    let shown = some_same (sym (ap option_copied c.in-Some.is) ∙ held-value v c.args.found.now c.args.number c.args.size can.leave
    c.args.held.now (option_copied c.value_of_part.result) (c.requires.held told) c.value_of_part.ensures) in
    left-resized v (view g.D.Disk c.leave_record.new.mft) c.args.found.now c.args.number c.args.size can c.in-Some.value.now
    c.args.times.now c.args.flags shown (c.in_ok-leave_record.ensures.left told can.leave)

pub returns-clause-places : goal.returns-clause-places
returns-clause-places g c = λ told.
    let v = view g.D.Disk c.args.mft.now in
    let can = c.requires.can told in
    let shown = some_same (sym (ap option_copied c.in-Some.is) ∙ held-value v c.args.found.now c.args.number c.args.size can.leave
    c.args.held.now (option_copied c.value_of_part.result) (c.requires.held told) c.value_of_part.ensures) in
    let short = c.in_ok-leave_record.ensures.short told can.leave in
    staged-more g.D.Disk (10 + length c.in-Some.value.now / 512) 11 c.args.number v c.args.mft.now c.leave_record.new.mft
    (omega (arith, short, ap length shown)) (c.in_ok-leave_record.ensures.places told)

-- the part is a value
pub returns-in_default-clause-resized : goal.returns-in_default-clause-resized
returns-in_default-clause-resized g c = λ told can.
    absurd (none_other (sym (ap option_copied c.in_default.is) ∙ held-value (view g.D.Disk c.args.mft.now) c.args.found.now c.args.number
    c.args.size can.leave c.args.held.now (option_copied c.value_of_part.result) (c.requires.held told)
    c.value_of_part.ensures))

pub returns-in_default-clause-places : goal.returns-in_default-clause-places
returns-in_default-clause-places g c = λ told.
    absurd (none_other (sym (ap option_copied c.in_default.is) ∙ held-value (view g.D.Disk c.args.mft.now) c.args.found.now c.args.number
    c.args.size (c.requires.can told).leave c.args.held.now (option_copied c.value_of_part.result) (c.requires.held told)
    c.value_of_part.ensures))

pub returns-in_default-clause-device : goal.returns-in_default-clause-device
returns-in_default-clause-device g c = device-same g.D.Disk c.args.mft.now

pub returns-then-is_empty-clause-device : goal.returns-then-is_empty-clause-device
returns-then-is_empty-clause-device g c = device-same g.D.Disk c.args.mft.now
