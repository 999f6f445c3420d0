use Rattle.std.proofs.Common.{◌≡◌, ◌+◌, None}
use Rattle.session_def.specs.State.{State}
use Rattle.tree_ops.specs.Runs.{Ready}
use Rattle.tree_ops.specs.Serves.{Serves}
use Rattle.tree_ops.specs.Volumes.{VolumeGoesOn, disk_under, mark_of}
use Rattle.script_run.specs.Drawn.{drawn}
use Rattle.script_run.specs.Draws.{Drew}
use Rattle.script_run.proofs.draws.take_draws.Given as goal

-- the lines of the first numbers were done
abbrev pub invariant-lines : goal.invariant-lines
invariant-lines g l =
    let d = g.D.Disk in
    record {
      serves : Serves d l.volume;
      keeps : VolumeGoesOn d l.fn.volume l.volume;
      quiet : d.faults (disk_under d l.volume) ≡ d.faults (disk_under d l.fn.volume);
      last : l.drawn ≡ drawn l.seed l._place;
      sum : l.tally.oks + l.tally.nos ≡ l._place;
      drew : (first : State) → Ready d first.view l.fn.volume first → mark_of d l.fn.volume ≡ None
          → Drew d first l.seed l._place (d.settled (disk_under d l.fn.volume)) l.tally l.volume;
    }
