-- The writing of an edit: when it can be done, and what it leaves.
use Rattle.std.specs.Prelude.{◌≡◌, ◌+◌, ◌≤◌, ℕ, Bool, List, [], true, false, All, Contains}
use Rattle.vol_disk.specs.declared.Disk.{Ghosts}
use Rattle.vol_disk.specs.Contents.{IsTold, sector_in}
use Rattle.vol_stage.specs.declared.stage.Stage.{Stage}
use Rattle.vol_stage.specs.Staged.{disk_of, image, is_broken, places}
use Rattle.mark_write.specs.declared.flag.Flag.{Flag}
use Rattle.mark_write.specs.declared.log.Span.{Span}
use Rattle.mark_write.specs.Flags.{IsCopySet, IsSafe, IsSet, LiesAt, cleared_sector}
use Rattle.mark_write.specs.Logs.{IsEmptied, IsOutside}

-- THE EDIT CAN BE WRITTEN: the mark and the log lie on the disk, and where it tells its contents apart from one another, with nothing
-- staged of either. A volume that is said to be marked before is so, in both sectors.
pub record CanFinish {D : Type 0} (g : Ghosts D) (flag : Flag) (before : Bool) (log : List Span) (stage : Stage D g) : Type 0 where
  pub place : LiesAt (g.size (disk_of g stage)) flag
  pub spans : All (λ span. span.first + span.len ≤ g.size (disk_of g stage)) log
  pub sound : is_broken g stage ≡ false
  pub home : IsTold (image g stage) → ¬ (Contains (places g stage) flag.home)
  pub copy : IsTold (image g stage) → ¬ (Contains (places g stage) flag.copy)
  pub plain : IsTold (image g stage) → (n : ℕ) → Contains (places g stage) n → IsOutside log n
  pub apart : IsTold (image g stage) → IsOutside log flag.home
  pub apart_copy : IsTold (image g stage) → IsOutside log flag.copy
  pub marked : before ≡ true → IsTold (image g stage) → IsSet flag (sector_in (g.now (disk_of g stage)))
  pub copied : before ≡ true → IsTold (image g stage) → IsCopySet flag (sector_in (g.now (disk_of g stage)))

-- The mark is set, and the log is empty unless the volume was marked before; what is staged is staged still.
pub record Prepares {D : Type 0} (g : Ghosts D) (flag : Flag) (before : Bool) (log : List Span) (old new : Stage D g) : Type 0 where
  pub cleared : IsTold (image g old) → (n : ℕ) → IsOutside log n
      → cleared_sector flag (sector_in (image g new)) n ≡ cleared_sector flag (sector_in (image g old)) n
  pub marked : IsTold (image g old) → IsSet flag (sector_in (g.now (disk_of g new)))
  pub copied : IsTold (image g old) → IsCopySet flag (sector_in (g.now (disk_of g new)))
  pub emptied : before ≡ false → IsTold (image g old) → IsEmptied log (sector_in (g.now (disk_of g new)))
  pub sound : is_broken g new ≡ false

-- IT WAS WRITTEN: the disk holds what was staged, but for the mark, which is set in both sectors, and the log, which was emptied
-- unless the volume was marked before. Nothing is staged any more.
pub record Finishes {D : Type 0} (g : Ghosts D) (flag : Flag) (before : Bool) (log : List Span) (old new : Stage D g) : Type 0 where
  pub written : IsTold (image g old) → (n : ℕ) → IsOutside log n
      → cleared_sector flag (sector_in (g.now (disk_of g new))) n ≡ cleared_sector flag (sector_in (image g old)) n
  pub marked : IsTold (image g old) → IsSet flag (sector_in (g.now (disk_of g new)))
  pub copied : IsTold (image g old) → IsCopySet flag (sector_in (g.now (disk_of g new)))
  pub emptied : before ≡ false → IsTold (image g old) → IsEmptied log (sector_in (g.now (disk_of g new)))
  pub places : places g new ≡ []
  pub image : image g new ≡ g.now (disk_of g new)
  pub sound : is_broken g new ≡ false

-- THE VOLUME CAN BE CLOSED: the mark lies on the disk, and where that tells its contents it is set, and nothing is staged of it.
pub record CanClose {D : Type 0} (g : Ghosts D) (flag : Flag) (stage : Stage D g) : Type 0 where
  pub place : LiesAt (g.size (disk_of g stage)) flag
  pub sound : is_broken g stage ≡ false
  pub home : IsTold (image g stage) → ¬ (Contains (places g stage) flag.home)
  pub copy : IsTold (image g stage) → ¬ (Contains (places g stage) flag.copy)
  pub marked : IsTold (image g stage) → IsSet flag (sector_in (g.now (disk_of g stage)))

-- THE DISK FAILED: the volume is marked, or as it was but for the mark.
abbrev pub FailsSafe : {D : Type 0} (g : Ghosts D) (flag : Flag) (old new : Stage D g) → Type 0
FailsSafe g flag old new =
    IsTold (image g old) → IsSafe flag (sector_in (g.now (disk_of g old))) (sector_in (g.now (disk_of g new)))
