use Rattle.std.proofs.Common.{[], None, refl, sym, subst, inl, ◌∙◌, arith}
use Rattle.std.specs.Prelude.{IsTrue}
use Rattle.std.proofs.lemmas.List.Sums.{sum_by_more, sum_by_more_le}
use Rattle.ntfs_def.specs.declared.run_text.Run.{Run}
use Rattle.edit_def.specs.Purses.{run_size}
use Rattle.mft_table.specs.Mft.{mounted_of, view}
use Rattle.stored_bits.proofs.DeviceKept.{device-same, device-then}
use Rattle.stored_bits.proofs.GivenBack.{gives-none}
use Rattle.stored_bits.proofs.GivenRuns.{gives-next, next-taken, stages-next}
use Rattle.stored_bits.proofs.HeldStill.{stays-then}
use Rattle.stored_bits.proofs.give.give_runs.Goals as goal

-- no run
abbrev none : Run
none = record { len = 0; lcn = None }

pub loop-run-init : goal.loop-run-init
loop-run-init g c = record {
  device = device-same g.D.Disk c.args.mft.now;
  faults = refl;
  few = omega arith;
  places = λ told sector there. inl there;
  stays = λ told. record { holds = c.requires.holds told; told = refl; layout = refl; bits = refl };
  gave = λ told owned. (gives-none (view g.D.Disk c.args.mft.now) [] (λ k. refl), (c.requires.volume told).stored);
}

pub returns-in_err-give_run-clause-places : goal.returns-in_err-give_run-clause-places
returns-in_err-give_run-clause-places g c told =
    let first = view g.D.Disk c.args.mft.now in
    let now = view g.D.Disk c.loop-run.mft in
    let table = (mounted_of g.D.Disk c.loop-run.mft).upcase in
    let stays = c.loop-run.invariant.stays told in
    stages-next g.D.Disk first now c.args.mft.now c.loop-run.mft c.give_run.new.mft table c.args.bits.now.file c.args.bits.now.found stays
    (c.loop-run.invariant.places told) (c.give_run.ensures.places (subst IsTrue (sym stays.told) told) table stays.holds)

pub returns-in_err-give_run-clause-few : goal.returns-in_err-give_run-clause-few
returns-in_err-give_run-clause-few g c =
    let runs = c.args.runs.now in
    let k = c.loop-run.run-index in
    omega (
      arith,
      c.give_run.ensures.few,
      c.loop-run.invariant.few,
      sum_by_more_le run_size runs k none c.loop-run-test.true,
    )

pub loop-run-preserved : goal.loop-run-preserved
loop-run-preserved g c =
    let first = view g.D.Disk c.args.mft.now in
    let now = view g.D.Disk c.loop-run.mft in
    let next = view g.D.Disk c.give_run.new.mft in
    let mounted = mounted_of g.D.Disk c.loop-run.mft in
    let runs = c.args.runs.now in
    let k = c.loop-run.run-index in
    let file = c.args.bits.now.file in
    let found = c.args.bits.now.found in
    let table = (mounted_of g.D.Disk c.give_run.new.mft).upcase in
    let inv = c.loop-run.invariant in
    let lt = c.loop-run-test.true in
    record {
      device = device-then g.D.Disk c.args.mft.now c.loop-run.mft c.give_run.new.mft inv.device c.give_run.ensures.device;
      faults = c.in_ok-give_run.ensures.faults ∙ inv.faults;
      few = omega (arith, c.give_run.ensures.few, inv.few, sum_by_more run_size runs k none lt);
      places = λ told.
          let stays = inv.stays told in
          stages-next g.D.Disk first now c.args.mft.now c.loop-run.mft c.give_run.new.mft mounted.upcase file found stays (inv.places told)
          (c.give_run.ensures.places (subst IsTrue (sym stays.told) told) mounted.upcase stays.holds);
      stays = λ told.
          let stays = inv.stays told in
          stays-then first now next mounted.upcase table file found stays
          (c.in_ok-give_run.ensures.stays (subst IsTrue (sym stays.told) told) stays.holds);
      gave = λ told owned.
          let stays = inv.stays told in
          let was = inv.gave told owned in
          let its = c.in_ok-give_run.ensures.given (subst IsTrue (sym stays.told) told) stays.holds was.1
          (next-taken first now mounted runs k none (c.requires.volume told).sound lt owned was.0 was.1) in
          (gives-next first now next runs k none lt was.0 its.0, its.1);
    }
