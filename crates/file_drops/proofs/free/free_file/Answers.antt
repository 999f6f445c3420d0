use Rattle.std.proofs.Common.{sym, subst, ◌∙◌, arith}
use Rattle.std.specs.Prelude.{IsTrue}
use Rattle.std.proofs.lemmas.Result.{on_ok_weaker}
use Rattle.mft_table.specs.declared.mounted.Mounted.{Mounted}
use Rattle.mft_table.specs.Mft.{view}
use Rattle.record_bits.specs.HeldRecordBits.{HasRows}
use Rattle.file_drops.proofs.FreeLaws.{cleared-few, cleared-places, left-layout, left-places}
use Rattle.file_drops.proofs.free.free_file.Goals as goal

pub leave_record-requires-clause-one : goal.leave_record-requires-clause-one
leave_record-requires-clause-one g c told = (c.requires.may told).one

pub clear_record_bit-requires-clause-rows : goal.clear_record_bit-requires-clause-rows
clear_record_bit-requires-clause-rows g c told_then =
    let told = subst IsTrue c.leave_record.ensures.device.goes_on.told_image told_then in
    let freed = view g.D.Disk c.leave_record.new.mft in
    let flag = (c.requires.may told).after freed (c.in_ok-leave_record.ensures.leaves told) in
    subst (λ (m : Mounted). HasRows freed m) (sym c.in_ok-leave_record.ensures.bits) flag.rows

pub returns-in_err-leave_record-clause-places : goal.returns-in_err-leave_record-clause-places
returns-in_err-leave_record-clause-places g c told =
    left-places g.D.Disk (view g.D.Disk c.args.mft.now) c.args.n c.args.mft.now c.leave_record.new.mft (c.leave_record.ensures.places told)

pub returns-in_err-leave_record-clause-few : goal.returns-in_err-leave_record-clause-few
returns-in_err-leave_record-clause-few g c told =
    cleared-few g.D.Disk (view g.D.Disk c.args.mft.now) c.args.n c.args.mft.now c.leave_record.new.mft (c.leave_record.ensures.places told)
    c.leave_record.new.mft (c.requires.may told).ordinary (omega arith)

pub returns-clause-goes : goal.returns-clause-goes
returns-clause-goes g c = on_ok_weaker c.clear_record_bit.result (λ cleared told.
    let told_then = subst IsTrue (sym c.leave_record.ensures.device.goes_on.told_image) told in
    let freed = view g.D.Disk c.leave_record.new.mft in
    let leaves = c.in_ok-leave_record.ensures.leaves told in
    let flag = (c.requires.may told).after freed leaves in
    record {
      counted = leaves.counted;
      quits = leaves.quits;
      frees = record {
        freed = freed;
        frees = leaves.frees;
        given = c.clear_record_bit.ensures.device.mounted ∙ c.in_ok-leave_record.ensures.bits;
        clears = cleared told_then flag.flag;
      };
    }) c.clear_record_bit.ensures.cleared

pub returns-clause-bits : goal.returns-clause-bits
returns-clause-bits g c = on_ok_weaker c.clear_record_bit.result
    (λ cleared. c.clear_record_bit.ensures.device.mounted ∙ c.in_ok-leave_record.ensures.bits) c.clear_record_bit.ensures.cleared

pub returns-clause-places : goal.returns-clause-places
returns-clause-places g c told =
    let old = view g.D.Disk c.args.mft.now in
    let told_then = subst IsTrue (sym c.leave_record.ensures.device.goes_on.told_image) told in
    let freed = view g.D.Disk c.leave_record.new.mft in
    let leaves = c.in_ok-leave_record.ensures.leaves told in
    let flag = (c.requires.may told).after freed leaves in
    cleared-places g.D.Disk old c.args.n c.args.mft.now c.leave_record.new.mft (c.leave_record.ensures.places told)
    c.clear_record_bit.new.mft freed (left-layout old freed c.args.n leaves) flag.same (c.clear_record_bit.ensures.places told_then)

pub returns-clause-few : goal.returns-clause-few
returns-clause-few g c told =
    cleared-few g.D.Disk (view g.D.Disk c.args.mft.now) c.args.n c.args.mft.now c.leave_record.new.mft (c.leave_record.ensures.places told)
    c.clear_record_bit.new.mft (c.requires.may told).ordinary c.clear_record_bit.ensures.few
