-- One turn of a run on a volume in use.
use Rattle.std.specs.Prelude.{◌≡◌, ◌⊎◌, ◌||◌, ℕ, List, Option, Some, false, is_some}
use Rattle.vol_disk.specs.declared.Disk as disk
use Rattle.vol_disk.specs.declared.Sink as sink
use Rattle.vol_disk.specs.Contents.{settled_more}
use Rattle.vol_disk.specs.Count.{Rose}
use Rattle.vol_disk.specs.Stream.{IsAppended, IsAppendedPart}
use Rattle.volume_def.specs.View.{VolumeView}
use Rattle.cmd_lang.specs.Printed.{text_of}
use Rattle.session_def.specs.State.{State}
use Rattle.session_def.specs.Session.{IsCutShort, Said, Takes, is_done_edit}
use Rattle.tree_model.specs.declared.reply.No.TheVariants as no
use Rattle.tree_model.specs.declared.reply.Reply.{Reply}
use Rattle.tree_model.specs.declared.reply.Reply.TheVariants as reply
use Rattle.tree_ops.specs.declared.volume.Volume.{Volume}
use Rattle.tree_ops.specs.Runs.{Ready}
use Rattle.tree_ops.specs.Volumes.{disk_under, mark_of}
use Rattle.script_run.specs.declared.turn.Went.{Went}
use Rattle.script_run.specs.declared.turn.Went.TheVariants as went
use Rattle.volume_mark.specs.Mark.{IsHarmed}
use Rattle.script_run.specs.Says.{SaysLine}

-- A line has this reply, which is not settled yet. Behind the first edit that was done the volume is marked.
pub record Replied {D : Type 0} (Says : List ℕ → Said → Type 0) (g : disk.Ghosts D) (first : VolumeView) (before : State) (old : Volume D g)
    (line : List ℕ) (given : Reply) (volume : Volume D g) : Type 0 where
  pub said : Said
  pub says : Says line said ⊎ (given ≡ reply.No no.Memory)
  pub next : State
  pub takes : Takes before said given next
  pub ready : Ready g first volume next
  pub marks : is_some (mark_of g volume) ≡ (is_some (mark_of g old) || is_done_edit said given)

-- A line was answered, and settled; what was printed of the reply is told beside.
pub record Turned {D K : Type 0} (g : disk.Ghosts D) (k : sink.Ghosts K) (Prints : Option (List ℕ) → List ℕ → Option (List ℕ) → Type 0)
    (first : VolumeView) (before : State) (old : Volume D g) (line : List ℕ) (out : K) (volume : Volume D g) (out' : K) : Type 0 where
  pub given : Reply
  pub replied : Replied SaysLine g first before old line given volume
  pub more : g.settled (disk_under g volume) ≡ settled_more (g.settled (disk_under g old)) (Some replied.next.image)
  pub printed : Prints (k.got out) (text_of given) (k.got out')

-- THE DISK FAILED in a line: it leaves the volume marked, or whole, and what the line leaves that it cut short.
pub record LineFailed {D : Type 0} (Says : List ℕ → Said → Type 0) (g : disk.Ghosts D) (first : VolumeView) (before : State)
    (line : List ℕ) (volume : Volume D g) : Type 0 where
  pub harmed : IsHarmed first before.machine.tree (g.now (disk_under g volume))
  pub cut : IsCutShort Says before line (g.now (disk_under g volume))

-- That was before the reply was settled, and nothing was printed.
pub record Broke {D K : Type 0} (g : disk.Ghosts D) (k : sink.Ghosts K) (first : VolumeView) (before : State) (old : Volume D g)
    (line : List ℕ) (out : K) (volume : Volume D g) (out' : K) : Type 0 where
  pub failed : LineFailed SaysLine g first before line volume
  pub same : g.settled (disk_under g volume) ≡ g.settled (disk_under g old)
  pub unprinted : k.got out' ≡ k.got out

-- How a turn went.
abbrev pub TurnDid : {D K : Type 0} (g : disk.Ghosts D) → sink.Ghosts K → Went → VolumeView → State → Volume D g → List ℕ → K → Volume D g
    → K → Type 0
TurnDid g k went.On first before old line out volume out' = Turned g k IsAppended first before old line out volume out'
TurnDid g k went.Sink first before old line out volume out' = Turned g k IsAppendedPart first before old line out volume out'
TurnDid g k went.Device first before old line out volume out' = Broke g k first before old line out volume out'

-- what it did to the counts of faults of the disk and of the sink
abbrev pub CountsTurn : Went → ℕ → ℕ → ℕ → ℕ → Type 0
CountsTurn went.On disk disk' sink sink' = (disk' ≡ disk) × (sink' ≡ sink)
CountsTurn went.Sink disk disk' sink sink' = (disk' ≡ disk) × Rose sink sink'
CountsTurn went.Device disk disk' sink sink' = Rose disk disk' × (sink' ≡ sink)

-- what a reply did to the disk's
abbrev pub CountsReply : Reply → ℕ → ℕ → Type 0
CountsReply (reply.Ok answer) before after = after ≡ before
CountsReply (reply.No refused) before after = after ≡ before
CountsReply reply.Device before after = Rose before after
