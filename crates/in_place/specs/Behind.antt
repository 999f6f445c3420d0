-- WHAT COMES BEHIND AN EDIT THAT WAS WRITTEN: the first mark of a run, as far as it is told record by record.
use Rattle.std.specs.Prelude.{◌≡◌, ◌≢◌, ℕ}
use Rattle.ntfs_def.specs.declared.records.TheConstants.{VOLUME}
use Rattle.volume_def.specs.View.{VolumeView}
use Rattle.session_def.specs.FirstMark.{IsMarkedFrom, is_first_key}
use Rattle.session_def.specs.Room.{KeepsLogEnd}
use Rattle.in_place.specs.InPlace.{KeepsBlock, Rewrites}

-- THE FIRST MARK, behind the edit: the flag and the log were rewritten. No block was written, nor a copy, but those of the record of the
-- flag, and its copy not alone; and of the log nothing was written behind what is emptied. Behind a later edit nothing is written.
pub record MarksBehind (staged next : VolumeView) : Type 0 where
  pub rewrites : Rewrites is_first_key staged next
  pub marked : IsMarkedFrom staged next
  pub others : (n : ℕ) → n ≢ VOLUME → KeepsBlock staged next n
  pub copy : next.block VOLUME ≡ staged.block VOLUME → next.copy VOLUME ≡ staged.copy VOLUME
  pub log_end : KeepsLogEnd staged next
