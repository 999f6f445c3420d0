-- AN ITEM PUT INTO A ROOT, as a call on the record of its directory; and what such a call leaves alone.
use Rattle.std.specs.Prelude.{◌≡◌, ◌≢◌, ◌<◌, ◌≤◌, ℕ, [], Some, codes, length, take, unwrap_or}
use Rattle.ntfs_def.specs.Node.{Item}
use Rattle.ntfs_def.specs.Units.{wide}
use Rattle.ntfs_def.specs.declared.kinds.TheConstants.{INDEX_ROOT}
use Rattle.volume_def.specs.Coverage.{IsOutsideTable}
use Rattle.volume_def.specs.Files.{Part, Record, content_value, parts, record_on, records_of}
use Rattle.volume_def.specs.Freed.{stored_sequence}
use Rattle.volume_def.specs.View.{VolumeView}
use Rattle.edit_def.specs.Kept.{Key, key_of}
use Rattle.edit_def.specs.Marks.{Marks}
use Rattle.record_edits.specs.Between.{IsReady}
use Rattle.record_calls.specs.Calls.{IsInOneRecord}
use Rattle.index_puts.specs.PutsRoot.{PutsRootItem}

-- the root of the index of a directory
abbrev pub root_key : ℕ → Key
root_key dir = key_of dir INDEX_ROOT (wide (codes "$I30"))

-- An item was put into a root, whose value got longer by that.
pub record GrowsByItem (old new : VolumeView) (dir : ℕ) (item : Item) : Type 0 where
  pub puts : PutsRootItem old new dir item
  pub long : 16 ≤ length puts.before
  pub longer : length puts.before ≤ length puts.after

-- .. of a directory of one record, which may be edited, on a volume that stood as between two calls.
pub record PutsInRoot (old new : VolumeView) (marks : Marks) (dir : ℕ) (item : Item) : Type 0 where
  pub grows : GrowsByItem old new dir item
  pub ready : IsReady old marks
  pub one : IsInOneRecord old dir

-- ONE RECORD WAS WRITTEN, that of file f, which has no copy; of clusters those of the table alone were, and all other files have the parts
-- that they had.
pub record WritesRecord (old new : VolumeView) (f : ℕ) : Type 0 where
  pub told : new.told ≡ old.told
  pub layout : new.layout ≡ old.layout
  pub rest : (k : ℕ) → new.rest k ≡ old.rest k
  pub blocks : (m : ℕ) → m ≢ f → new.block m ≡ old.block m
  pub copies : (m : ℕ) → m < 4 → new.copy m ≡ old.copy m
  pub clusters : (c : ℕ) → IsOutsideTable old.layout c → new.cluster c ≡ old.cluster c
  pub records : (m : ℕ) → m ≢ f → record_on new m ≡ record_on old m
  pub others : (g : ℕ) → g ≢ f → parts (records_of new) g ≡ parts (records_of old) g

-- ITS RECORD STAYS IN USE, with its header and its sequence number.
pub record KeepsHolder (old new : VolumeView) (n : ℕ) : Type 0 where
  pub was : Record
  pub now : Record
  pub was_at : record_on old n ≡ Some was
  pub now_at : record_on new n ≡ Some now
  pub header : now.header ≡ was.header
  pub sequence : stored_sequence (new.block n) ≡ stored_sequence (old.block n)

-- THE HEADER OF A ROOT STAYS: the first sixteen bytes of its value, and its flags.
pub record KeepsRootHead (was now : Part) : Type 0 where
  pub head : take 16 (unwrap_or (content_value now.content) []) ≡ take 16 (unwrap_or (content_value was.content) [])
  pub flags : now.flags ≡ was.flags
