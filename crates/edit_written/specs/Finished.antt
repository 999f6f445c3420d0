-- AN EDIT THAT WAS STAGED, AND WRITTEN: in bytes, `staged` and `written`. Before the first edit of a run the volume is marked and its log
-- emptied; a later one is written alone.
use Rattle.std.specs.Prelude.{◌≡◌, ℕ, Bool, false, true, List, [], Some, length}
use Rattle.vol_disk.specs.Contents.{sector_in}
use Rattle.volume_def.specs.View.{VolumeView}
use Rattle.session_def.specs.Done.{HasEmptyLog}
use Rattle.mark_write.specs.Flags.{IsCopySet, IsSet, cleared_sector}
use Rattle.mark_write.specs.Logs.{IsEmptied, IsOutside}
use Rattle.mark_write.specs.declared.flag.Flag.{Flag}
use Rattle.mark_write.specs.declared.log.Span.{Span}
use Rattle.first_mark.specs.Below.{AreLogSpans}
use Rattle.volume_mark.specs.Mark.{IsFlagOf}

-- WHERE THE MARK AND THE LOG LIE of the volume before, whose bytes are `before`. One that was marked has an empty log, of which nothing is
-- written again.
pub record IsPlaceOf (view : VolumeView) (before : List ℕ) (flag : Flag) (marked : Bool) (spans : List Span) : Type 0 where
  pub flag_is : IsFlagOf view flag
  pub spans_are : marked ≡ false → AreLogSpans view spans
  pub none : marked ≡ true → spans ≡ []
  pub set : marked ≡ true → IsSet flag (sector_in (Some before))
  pub log : marked ≡ true → HasEmptyLog view

-- WHAT WAS WRITTEN: what was staged, but for the mark, which is set in both sectors, and the log, which is empty unless it was before.
pub record IsFinished (flag : Flag) (marked : Bool) (spans : List Span) (staged written : List ℕ) : Type 0 where
  pub long : length written ≡ length staged
  pub same : (n : ℕ) → IsOutside spans n
      → cleared_sector flag (sector_in (Some written)) n ≡ cleared_sector flag (sector_in (Some staged)) n
  pub set : IsSet flag (sector_in (Some written))
  pub copied : IsCopySet flag (sector_in (Some written))
  pub emptied : marked ≡ false → IsEmptied spans (sector_in (Some written))
