use Rattle.std.proofs.lemmas.Result.{on_ok_weaker}
use Rattle.mft_table.specs.Mft.{view}
use Rattle.stored_bits.proofs.DeviceKept.{device-same}
use Rattle.stored_bits.proofs.GivenBack.{gives-one}
use Rattle.stored_bits.proofs.give.give_run.Goals as goal

pub returns-in_default-clause-device : goal.returns-in_default-clause-device
returns-in_default-clause-device g c = device-same g.D.Disk c.args.mft.now

pub returns-then-run-eq0-clause-device : goal.returns-then-run-eq0-clause-device
returns-then-run-eq0-clause-device g c = device-same g.D.Disk c.args.mft.now

pub returns-clause-given : goal.returns-clause-given
returns-clause-given g c = on_ok_weaker c.put_range.result (λ given told h stored taken.
    let its = given told h stored (taken c.in-Some.at c.in-Some.is) in (
      gives-one (view g.D.Disk c.args.mft.now) (view g.D.Disk c.put_range.new.mft) h.can c.in-Some.at c.args.run c.in-Some.is its.0,
      its.1,
    )) c.put_range.ensures.put
