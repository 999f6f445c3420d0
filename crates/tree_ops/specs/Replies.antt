-- WHAT A COMMAND LEAVES of a volume in use, by the reply that it has.
use Rattle.std.specs.Prelude.{◌≡◌, ◌≢◌, ◌||◌, ℕ, Result, Ok, Err, false, is_some}
use Rattle.vol_disk.specs.Count.{Rose}
use Rattle.vol_disk.specs.declared.Disk.{Ghosts}
use Rattle.volume_def.specs.View.{VolumeView}
use Rattle.tree_model.specs.declared.command.Command.{Command}
use Rattle.tree_model.specs.declared.reply.Answer.TheVariants as a
use Rattle.tree_model.specs.declared.reply.Reply.{Reply}
use Rattle.tree_model.specs.declared.reply.Reply.TheVariants as reply
use Rattle.session_def.specs.Session.{is_done_edit}
use Rattle.session_def.specs.State.{State}
use Rattle.tree_read.specs.declared.stop.Stop.{Stop}
use Rattle.tree_read.specs.declared.stop.Stop.TheVariants as stop
use Rattle.tree_ops.specs.declared.volume.Volume.{Volume}
use Rattle.tree_ops.specs.Runs.{Applied, Failed, Ready}
use Rattle.tree_ops.specs.Serves.{Serves}
use Rattle.tree_ops.specs.Volumes.{VolumeGoesOn, VolumeStill, disk_under, mark_of}

-- These are the clauses of `Volume::apply`.
pub record Replies {D : Type 0} (g : Ghosts D) (old new : Volume D g) (session : ℕ) (command : Command) (given : Reply) : Type 0 where
  pub serves : given ≢ reply.Device → Serves g new
  pub goes_on : VolumeGoesOn g old new
  pub settled : g.settled (disk_under g new) ≡ g.settled (disk_under g old)
  pub still : given ≢ reply.Device → is_done_edit (Ok (session, command)) given ≡ false → VolumeStill g old new
  pub marks : given ≢ reply.Device
      → is_some (mark_of g new) ≡ (is_some (mark_of g old) || is_done_edit (Ok (session, command)) given)
  pub applied : given ≢ reply.Device → (first : VolumeView) (before : State) → Ready g first old before
      → Applied g first before session command given new
  pub failed : given ≡ reply.Device → (first : VolumeView) (before : State) → Ready g first old before
      → Failed g first before session command new
  pub quiet : given ≢ reply.Device → g.faults (disk_under g new) ≡ g.faults (disk_under g old)
  pub device : given ≡ reply.Device → Rose (g.faults (disk_under g old)) (g.faults (disk_under g new))

-- the reply to an edit, by how it ended
abbrev pub edit_reply : {A : Type 0} → Result A Stop → Reply
edit_reply (Ok done) = reply.Ok a.Done
edit_reply (Err (stop.No refused)) = reply.No refused
edit_reply (Err stop.Device) = reply.Device
