use Rattle.std.proofs.Common.{◌≡◌, ◌≤◌, ◌-◌, length, take}
use Rattle.vol_disk.specs.Stream.{IsAppended}
use Rattle.vol_disk.proofs.print.write_all.Given as goal

abbrev pub invariant-loop-done : goal.invariant-loop-done
invariant-loop-done g l =
    let sink = g.K.Sink in
    record {
      within : l.done ≤ length l.text;
      got : IsAppended (sink.got l.fn.out) (take l.done l.text) (sink.got l.out);
      quiet : sink.faults l.out ≡ sink.faults l.fn.out;
    }

abbrev pub decreases-loop-done : goal.decreases-loop-done
decreases-loop-done g l = length l.text - l.done
