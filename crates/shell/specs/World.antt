-- What a word did to the outside. What is known of it at one moment is told by `World` of `script_run`.
use Rattle.std.specs.Prelude.{◌≡◌, ◌⊎◌}
use Rattle.vol_disk.specs.Count.{Rose}
pub use Rattle.script_run.specs.World.{NoFaults, World, world}
use Rattle.shell.specs.declared.ending.Ending.{Ending}
use Rattle.shell.specs.declared.ending.Ending.TheVariants as ending

-- the contents of the disk are as they were, and so is what it counts of writes
pub record KeepsContents (old new : World) : Type 0 where
  pub now : new.now ≡ old.now
  pub settled : new.settled ≡ old.settled
  pub fenced : new.fenced ≡ old.fenced
  pub sectors : new.sectors ≡ old.sectors
  pub written : new.written ≡ old.written
  pub late : new.late ≡ old.late

-- nothing of the disk and nothing of the source changed, but for what reading counts
pub record OnlyReads (old new : World) : Type 0 where
  pub contents : KeepsContents old new
  pub left : new.left ≡ old.left
  pub source_faults : new.source_faults ≡ old.source_faults

-- the disk is as it was, and so are its counts
pub record KeepsDisk (old new : World) : Type 0 where
  pub contents : KeepsContents old new
  pub fetched : new.fetched ≡ old.fetched
  pub faults : new.disk_faults ≡ old.disk_faults

-- The count that rose says how a run ended: the disk's by `Device`, the sink's by `Sink`, the source's by `Source`, and none by
-- another. Beside the disk's the source's or the sink's may have risen too, but not both.
abbrev pub Blames : Ending → World → World → Type 0
Blames ending.Done old new = NoFaults old new
Blames ending.Refused old new = NoFaults old new
Blames ending.Source old new =
    (new.disk_faults ≡ old.disk_faults) × Rose old.source_faults new.source_faults × (new.sink_faults ≡ old.sink_faults)
Blames ending.Sink old new =
    (new.disk_faults ≡ old.disk_faults) × (new.source_faults ≡ old.source_faults) × Rose old.sink_faults new.sink_faults
Blames ending.Device old new =
    Rose old.disk_faults new.disk_faults × ((new.source_faults ≡ old.source_faults) ⊎ (new.sink_faults ≡ old.sink_faults))
Blames ending.Memory old new = NoFaults old new
Blames ending.TooMuch old new = NoFaults old new
