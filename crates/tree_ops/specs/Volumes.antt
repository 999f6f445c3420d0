-- A volume whose commands are done: what it tells, and what its calls keep.
use Rattle.std.specs.Prelude.{◌≡◌, ◌≤◌, ℕ, List, Option}
use Rattle.std.specs.Borrow.{GName}
use Rattle.vol_disk.specs.declared.Disk.{Ghosts}
use Rattle.vol_stage.specs.Staged.{disk_of, reference_of}
use Rattle.volume_def.specs.View.{VolumeView}
use Rattle.mft_table.specs.Mft.{stage_of, view}
use Rattle.mark_write.specs.declared.flag.Flag.{Flag}
use Rattle.tree_model.specs.declared.opens.OpenEntry.{OpenEntry}
use Rattle.tree_ops.specs.declared.volume.Volume.{Volume}

-- the disk below, and the reference by which it is borrowed
abbrev pub disk_under : {D : Type 0} (g : Ghosts D) → Volume D g → D
disk_under g volume = disk_of g (stage_of g volume.mft)

abbrev pub reference_under : {D : Type 0} (g : Ghosts D) → Volume D g → GName
reference_under g volume = reference_of g (stage_of g volume.mft)

-- the volume as it is read
abbrev pub view_under : {D : Type 0} (g : Ghosts D) → Volume D g → VolumeView
view_under g volume = view g volume.mft

-- where the mark lies, once an edit was done; the opens of all sessions; and the moment that edits write
abbrev pub mark_of : {D : Type 0} (g : Ghosts D) → Volume D g → Option Flag
mark_of g volume = volume.mark

abbrev pub opens_of : {D : Type 0} (g : Ghosts D) → Volume D g → List OpenEntry
opens_of g volume = volume.opens

abbrev pub moment_of : {D : Type 0} (g : Ghosts D) → Volume D g → ℕ
moment_of g volume = volume.moment

-- What a call keeps that only reads: the same disk stands below, of which nothing changes but what it counts of reads and of
-- faults, and what it was asked to settle; the volume reads as before, is marked as before, and the opens and the moment are as before.
pub record VolumeReads {D : Type 0} (g : Ghosts D) (old new : Volume D g) : Type 0 where
  pub same_reference : reference_under g new ≡ reference_under g old
  pub now : g.now (disk_under g new) ≡ g.now (disk_under g old)
  pub fenced : g.fenced (disk_under g new) ≡ g.fenced (disk_under g old)
  pub size : g.size (disk_under g new) ≡ g.size (disk_under g old)
  pub written : g.written (disk_under g new) ≡ g.written (disk_under g old)
  pub late : g.late (disk_under g new) ≡ g.late (disk_under g old)
  pub faults : g.faults (disk_under g old) ≤ g.faults (disk_under g new)
  pub view : view_under g new ≡ view_under g old
  pub mark : mark_of g new ≡ mark_of g old
  pub opens : opens_of g new ≡ opens_of g old
  pub moment : moment_of g new ≡ moment_of g old

-- What every call keeps: the same disk stands below, its faults never fall, and no write comes behind one.
pub record VolumeGoesOn {D : Type 0} (g : Ghosts D) (old new : Volume D g) : Type 0 where
  pub same_reference : reference_under g new ≡ reference_under g old
  pub size : g.size (disk_under g new) ≡ g.size (disk_under g old)
  pub faults : g.faults (disk_under g old) ≤ g.faults (disk_under g new)
  pub on_time : g.faults (disk_under g old) ≡ 0 → g.late (disk_under g new) ≡ g.late (disk_under g old)

-- What a command keeps that was no edit that was done: nothing of the disk changes, and it reads and is marked as before.
pub record VolumeStill {D : Type 0} (g : Ghosts D) (old new : Volume D g) : Type 0 where
  pub now : g.now (disk_under g new) ≡ g.now (disk_under g old)
  pub fenced : g.fenced (disk_under g new) ≡ g.fenced (disk_under g old)
  pub written : g.written (disk_under g new) ≡ g.written (disk_under g old)
  pub view : view_under g new ≡ view_under g old
  pub mark : mark_of g new ≡ mark_of g old
