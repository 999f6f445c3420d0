-- When a volume in use can do a command.
use Rattle.std.specs.Prelude.{IfSome, IsTrue}
use Rattle.vol_disk.specs.declared.Disk.{Ghosts}
use Rattle.tree_ops.specs.declared.volume.Volume.{Volume}
use Rattle.tree_read.specs.Standings.{IsStanding}
use Rattle.share_table.specs.Held.{HoldsOpens}
use Rattle.tree_ops.specs.Edits.{CanEdit}
use Rattle.tree_ops.specs.Runs.{machine_under}
use Rattle.tree_ops.specs.Volumes.{mark_of, view_under}

-- An edit can be done on it; and where the disk tells its contents, the directory in which the last path ended is theirs, and the opens go
-- together, and their files are there.
pub record Serves {D : Type 0} (g : Ghosts D) (volume : Volume D g) : Type 0 where
  pub can : CanEdit g volume.mft (mark_of g volume)
  pub last : IsTrue (view_under g volume).told → IfSome volume.last (IsStanding (view_under g volume))
  pub held : IsTrue (view_under g volume).told → HoldsOpens (machine_under g volume)
