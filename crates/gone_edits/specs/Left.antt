-- WHAT THE EDIT LEAVES ALONE: of the records it wrote that of the file that went, and that of the directory where the root of its index
-- got shorter; of clusters those of the table, those of the bitmap of records, and those of the index of the directory.
use Rattle.std.specs.Prelude.{◌≡◌, ◌≢◌, ◌⊎◌, ℕ, ◌≤◌, Bool, IsSomeAnd, IsTrue, List, None, false, true}
use Rattle.ntfs_def.specs.declared.records.TheConstants.{FIRST_ORDINARY, ROOT}
use Rattle.volume_def.specs.FileNames.{names_of}
use Rattle.volume_def.specs.Files.{is_base, parts_at, record_on, records_of}
use Rattle.volume_def.specs.Values.{KeepsClusters, value_on}
use Rattle.volume_def.specs.View.{VolumeView}
use Rattle.edit_def.specs.Forms.{ComeRightly}
use Rattle.edit_def.specs.Items.{KeepsItems}
use Rattle.edit_def.specs.Kept.{key_of}
use Rattle.edit_def.specs.ListOrder.{KeepsListOrder}
use Rattle.edit_def.specs.Names.{KeepsOthers}
use Rattle.edit_def.specs.Unused.{KeepsUnused}
use Rattle.session_def.specs.Room.{KeepsBlocks, KeepsCopies, KeepsLogEnd}
use Rattle.made_edits.specs.Left.{IsNoTable, KeepsDirectory, KeepsOwnIndex, LeavesOthers, is_entry_key}

-- ALL THAT IS LEFT where the file in record n went, of a directory which is the root directory or no file of the system: of the records all
-- others, and of that of the directory its header; of all other files their numbers and names; of attributes their clusters and values, but
-- for the bitmap of records and the index of the directory, which keeps its records and their bits; the log; the items of all other
-- directories. The record is free as one that was in use, headers come rightly, and lists stay in order.
pub record LeavesRest (old new : VolumeView) (n dir : ℕ) : Type 0 where
  pub leaves : LeavesOthers old new n dir
  pub used : IsSomeAnd (record_on old n) (λ r. IsTrue (is_base r))
  pub free : record_on new n ≡ None
  pub other : dir ≢ n
  pub ordinary : (dir ≡ ROOT) ⊎ (FIRST_ORDINARY ≤ dir)
  pub directory : KeepsDirectory old new dir
  pub others : KeepsOthers (records_of old) (records_of new) n
  pub names : (f : ℕ) → f ≢ n → names_of (records_of new) f ≡ names_of (records_of old) f
  pub clusters : (f kind : ℕ) (name : List ℕ) → is_entry_key dir (key_of f kind name) ≡ false → IsNoTable f kind
      → KeepsClusters old new (parts_at old f kind name)
  pub values : (f kind : ℕ) (name : List ℕ) → f ≢ n → is_entry_key dir (key_of f kind name) ≡ false → IsNoTable f kind
      → value_on new (parts_at new f kind name) ≡ value_on old (parts_at old f kind name)
  pub items : (g : ℕ) → g ≢ n → g ≢ dir → KeepsItems old new g
  pub index : KeepsOwnIndex old new dir
  pub blocks : (files : ℕ → Bool) → files n ≡ true → files dir ≡ true → KeepsBlocks files old new
  pub copies : KeepsCopies old new
  pub unused : KeepsUnused old new
  pub forms : (f : ℕ) → ComeRightly old new f
  pub lists : (f : ℕ) → KeepsListOrder old new f
  pub log_end : KeepsLogEnd old new
