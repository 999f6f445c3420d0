use Rattle.std.proofs.lemmas.Result.{on_ok_weaker}
use Rattle.mft_table.specs.Mft.{view}
use Rattle.stored_bits.proofs.DeviceKept.{device-same}
use Rattle.stored_bits.proofs.GivenBack.{takes-one}
use Rattle.stored_bits.proofs.take.take_held.Goals as goal

pub returns-in_default-clause-device : goal.returns-in_default-clause-device
returns-in_default-clause-device g c = device-same g.D.Disk c.args.mft.now

pub returns-then-run-eq0-clause-device : goal.returns-then-run-eq0-clause-device
returns-then-run-eq0-clause-device g c = device-same g.D.Disk c.args.mft.now

pub returns-clause-taken : goal.returns-clause-taken
returns-clause-taken g c = on_ok_weaker c.put_range.result (λ put told h stored free.
    let its = put told h stored (free c.in-Some.at c.in-Some.is) in (
      takes-one (view g.D.Disk c.args.mft.now) (view g.D.Disk c.put_range.new.mft) h.can c.in-Some.at c.args.run c.in-Some.is its.0,
      its.1,
    )) c.put_range.ensures.put
