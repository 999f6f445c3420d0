-- WHAT THE FIRST EDIT OF A RUN DOES beside its own: the flag is set, and the log emptied. `staged` is the volume as the edit made it. Of a
-- later edit nothing but the edit is written, and this holds of the staged volume itself.
use Rattle.std.specs.Prelude.{◌≡◌, ℕ, ◌||◌, Bool, false, is_some}
use Rattle.ntfs_def.specs.declared.records.TheConstants.{LOG_FILE}
use Rattle.volume_def.specs.Files.{record_on, records_of}
use Rattle.volume_def.specs.View.{VolumeView}
use Rattle.edit_def.specs.Edited.{is_bare, is_table_key}
use Rattle.edit_def.specs.Forms.{KeepsForms}
use Rattle.edit_def.specs.Kept.{KeepsBut, Key, either}
use Rattle.edit_def.specs.Names.{numbers_at}
use Rattle.edit_def.specs.Places.{KeepsPlaces, StaysInPlace}
use Rattle.edit_def.specs.Purses.{in_use}
use Rattle.session_def.specs.Done.{HasEmptyLog}
use Rattle.session_def.specs.Kept.{versions}
use Rattle.session_def.specs.Named.{is_log_key, is_mark_key}
use Rattle.session_def.specs.State.{IsDirty}
use Rattle.list_laws.specs.SameItems.{SameItems}
use Rattle.volume_def.specs.Room.{unowned_clusters}

-- the attributes that it writes; it changes the header of none
abbrev pub is_first_key : Key → Bool
is_first_key key = is_log_key key || is_mark_key key

abbrev pub is_no_key : Key → Bool
is_no_key key = false

pub record IsMarkedFrom (staged next : VolumeView) : Type 0 where
  pub layout : next.layout ≡ staged.layout
  pub rest : (k : ℕ) → next.rest k ≡ staged.rest k
  -- the record of the flag lies in a cluster of the table, and its copy in one of the mirror
  pub kept : KeepsBut (either is_table_key is_first_key) staged next
  pub forms : (f : ℕ) → KeepsForms is_no_key staged next f
  pub places : StaysInPlace staged next
  pub log : KeepsPlaces staged next LOG_FILE
  pub mark : SameItems (versions staged) (versions next)
  pub numbers : (f : ℕ) → numbers_at (records_of next) f ≡ numbers_at (records_of staged) f
  pub used : (n : ℕ) → is_some (record_on next n) ≡ is_some (record_on staged n)
  pub bare : (n : ℕ) → is_bare (record_on next n) ≡ is_bare (record_on staged n)
  pub owners : unowned_clusters next ≡ unowned_clusters staged
  pub in_use_is : in_use (records_of next) ≡ in_use (records_of staged)
  pub dirty : IsDirty next
  pub emptied : HasEmptyLog next
