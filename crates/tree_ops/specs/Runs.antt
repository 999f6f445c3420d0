-- A run on a volume in use: where it stands, and what every command promises of it.
use Rattle.std.specs.Prelude.{◌≡◌, ◌++◌, ℕ, List, Some, Ok, false, is_some}
use Rattle.vol_disk.specs.Contents.{map_told}
use Rattle.vol_disk.specs.declared.Disk.{Ghosts}
use Rattle.volume_def.specs.View.{VolumeView}
use Rattle.tree_model.specs.Facts.{TellsFacts}
use Rattle.tree_model.specs.Reading.{read}
use Rattle.tree_model.specs.Refusals.{Facts}
use Rattle.session_def.specs.State.{Stands, State}
use Rattle.session_def.specs.Session.{Takes, is_due_edit}
use Rattle.tree_model.specs.Subjects.{Machine}
use Rattle.tree_model.specs.declared.command.Command.{Command}
use Rattle.tree_model.specs.declared.reply.Reply.{Reply}
use Rattle.volume_mark.specs.Closing.{Closes, CountsClosing, MarkStands}
use Rattle.volume_mark.specs.Mark.{IsHarmed}
use Rattle.tree_ops.specs.declared.volume.Volume.{Volume}
use Rattle.tree_ops.specs.Volumes.{disk_under, mark_of, moment_of, opens_of, view_under}

-- the machine as the volume keeps it: the tree that it reads as, the opens, and the moment
abbrev pub machine_under : {D : Type 0} (g : Ghosts D) → Volume D g → Machine
machine_under g volume = record { tree = read (view_under g volume); opens = opens_of g volume; now = moment_of g volume }

-- A RUN STANDS in this state on the volume; it began on the volume `first`.
pub record Ready {D : Type 0} (g : Ghosts D) (first : VolumeView) (volume : Volume D g) (state : State) : Type 0 where
  pub now : g.now (disk_under g volume) ≡ Some state.image
  pub view : view_under g volume ≡ state.view
  pub stands : Stands state
  pub machine : state.machine ≡ machine_under g volume
  pub written : g.written (disk_under g volume) ≡ state.written
  pub mark : MarkStands first state (mark_of g volume)

-- WHAT EVERY COMMAND PROMISES, read or edit, done or refused, but where the disk failed: the run goes on in a state to which the
-- machine's step leads, as its image is.
pub record Applied {D : Type 0} (g : Ghosts D) (first : VolumeView) (before : State) (session : ℕ) (command : Command) (given : Reply)
    (new : Volume D g) : Type 0 where
  pub next : State
  pub takes : Takes before (Ok (session, command)) given next
  pub ready : Ready g first new next

-- THE DISK FAILED within a command: the volume is marked, or whole. Unless an edit was to be done, its bytes are as before.
pub record Failed {D : Type 0} (g : Ghosts D) (first : VolumeView) (before : State) (session : ℕ) (command : Command) (new : Volume D g)
    : Type 0 where
  pub harmed : IsHarmed first before.machine.tree (g.now (disk_under g new))
  pub same : (facts : Facts) → TellsFacts before.view facts → is_due_edit facts before.machine (Ok (session, command)) ≡ false
      → g.now (disk_under g new) ≡ Some before.image

-- The volume was closed: what it leaves, how many sectors were written, and what was settled of it.
pub record Closed {D : Type 0} (g : Ghosts D) (first : VolumeView) (state : State) (old new : Volume D g) : Type 0 where
  pub finals : List (List ℕ)
  pub closes : Closes first state (is_some (mark_of g old)) finals (g.now (disk_under g new))
  pub count : CountsClosing (is_some (mark_of g old)) (g.written (disk_under g old)) (g.written (disk_under g new))
  pub settled : g.settled (disk_under g new) ≡ map_told (λ past. past ++ finals) (g.settled (disk_under g old))
