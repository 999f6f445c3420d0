-- WHAT THE EDIT LEAVES ALONE: of the records it wrote that of the file that came, and that of the directory where the root of its index
-- got longer; of clusters those of the table, and those of the attributes that are named.
use Rattle.std.specs.Prelude.{◌≡◌, ◌≢◌, ◌⊎◌, ℕ, ◌<◌, ◌≤◌, ◌||◌, Bool, codes, false, true, IsTrue, List, [], None, Some}
use Rattle.ntfs_def.specs.Units.{wide}
use Rattle.ntfs_def.specs.declared.kinds.TheConstants.{BITMAP, DATA, INDEX_ALLOCATION, INDEX_ROOT}
use Rattle.ntfs_def.specs.declared.records.TheConstants.{FIRST_ORDINARY, MFT, MFT_MIRROR, ROOT}
use Rattle.volume_def.specs.Coverage.{IsOutsideTable}
use Rattle.volume_def.specs.FileNames.{names_of}
use Rattle.volume_def.specs.Files.{Part, Record, is_base, is_directory, parts, parts_at, record_on, records_of}
use Rattle.volume_def.specs.Freed.{stored_sequence}
use Rattle.volume_def.specs.Table.{IsWellFormed}
use Rattle.volume_def.specs.Values.{KeepsClusters, first_part, spot_at, value_on}
use Rattle.volume_def.specs.View.{VolumeView}
use Rattle.tree_model.specs.IndexRoom.{directory_index, index_depth}
use Rattle.tree_model.specs.StreamRoom.{is_cluster}
use Rattle.edit_def.specs.Forms.{ComeRightly}
use Rattle.edit_def.specs.Items.{KeepsItems}
use Rattle.edit_def.specs.Kept.{Key, key_of, same_key}
use Rattle.edit_def.specs.ListOrder.{KeepsListOrder}
use Rattle.edit_def.specs.Names.{KeepsOthers}
use Rattle.edit_def.specs.Unused.{KeepsUnused}
use Rattle.root_puts.specs.Keys.{is_index_key_of}
use Rattle.in_place.specs.Named.{is_index_kind}
use Rattle.in_place.specs.Room.{KeepsBlocks, KeepsCopies, KeepsLogEnd}
use Rattle.root_puts.specs.PutsInRoot.{KeepsRootHead}
use Rattle.record_edits.specs.InPlace.{IsUnnamed}

-- the bitmap of records
abbrev pub is_row_key : Key → Bool
is_row_key key = same_key (key_of MFT BITMAP []) key

-- .. and the index of a directory
abbrev pub is_entry_key : ℕ → Key → Bool
is_entry_key dir key = is_row_key key || is_index_key_of dir key

-- the attributes that are named are none of file n
abbrev pub NamesOthers : (Key → Bool) → ℕ → Type 0
NamesOthers changed n = (f kind : ℕ) (name : List ℕ) → changed (key_of f kind name) ≡ true → f ≢ n

-- Of the records of the table block n alone was written, which has no copy, and all other files have the parts that they had. Of the
-- clusters those of the table and of its mirror were written, and those of the attributes that are named.
pub record Leaves (changed : Key → Bool) (n : ℕ) (old new : VolumeView) : Type 0 where
  pub told : new.told ≡ old.told
  pub layout : new.layout ≡ old.layout
  pub rest : (k : ℕ) → new.rest k ≡ old.rest k
  pub blocks : (m : ℕ) → m ≢ n → new.block m ≡ old.block m
  pub copies : (m : ℕ) → m < 4 → new.copy m ≡ old.copy m
  pub clusters : (c : ℕ) → IsOutsideTable old.layout c → IsUnnamed changed old c → new.cluster c ≡ old.cluster c
  pub others : (g : ℕ) → g ≢ n → parts (records_of new) g ≡ parts (records_of old) g

-- Of the records of the table blocks n and `dir` alone were written, which have no copies. All other files have the parts that they had,
-- and file `dir` has them but for its index. Of the clusters those of the table and of its mirror were written, and those of the bitmap of
-- records and of the index of the directory.
pub record LeavesOthers (old new : VolumeView) (n dir : ℕ) : Type 0 where
  pub told : new.told ≡ old.told
  pub layout : new.layout ≡ old.layout
  pub rest : (k : ℕ) → new.rest k ≡ old.rest k
  pub blocks : (m : ℕ) → m ≢ n → m ≢ dir → new.block m ≡ old.block m
  pub copies : (m : ℕ) → m < 4 → new.copy m ≡ old.copy m
  pub clusters : (c : ℕ) → IsOutsideTable old.layout c → IsUnnamed (is_entry_key dir) old c → new.cluster c ≡ old.cluster c
  pub records : (m : ℕ) → m ≢ n → m ≢ dir → record_on new m ≡ record_on old m
  pub others : (g : ℕ) → g ≢ n → g ≢ dir → parts (records_of new) g ≡ parts (records_of old) g
  pub same : (f kind : ℕ) (name : List ℕ) → f ≢ n → is_index_key_of dir (key_of f kind name) ≡ false
      → parts_at new f kind name ≡ parts_at old f kind name

-- THE RECORD OF A DIRECTORY stays in use, with its header and its sequence number.
pub record KeepsDirectory (old new : VolumeView) (dir : ℕ) : Type 0 where
  pub was : Record
  pub now : Record
  pub was_at : record_on old dir ≡ Some was
  pub now_at : record_on new dir ≡ Some now
  pub base : IsTrue (is_base was)
  pub directory : IsTrue (is_directory was)
  pub header : now.header ≡ was.header
  pub sequence : stored_sequence (new.block dir) ≡ stored_sequence (old.block dir)
  pub well : IsWellFormed (old.block dir)

-- the name of the index of a directory
abbrev pub index_name : List ℕ
index_name = wide (codes "$I30")

-- THE INDEX OF THE DIRECTORY: its records stand where they stood, and their bits are those that there were; no cluster came. The root keeps
-- its header, and the index is no deeper.
pub record KeepsOwnIndex (old new : VolumeView) (dir : ℕ) : Type 0 where
  pub head : (was now : Part) → first_part (parts_at old dir INDEX_ROOT index_name) ≡ Some was
      → first_part (parts_at new dir INDEX_ROOT index_name) ≡ Some now → KeepsRootHead was now
  pub records : parts_at new dir INDEX_ALLOCATION index_name ≡ parts_at old dir INDEX_ALLOCATION index_name
  pub bits : parts_at new dir BITMAP index_name ≡ parts_at old dir BITMAP index_name
  pub flags : value_on new (parts_at new dir BITMAP index_name) ≡ value_on old (parts_at old dir BITMAP index_name)
  pub depth : index_depth new (directory_index dir) ≤ index_depth old (directory_index dir)
  pub spots : (kind vcn : ℕ) → is_index_kind kind ≡ true → is_cluster (spot_at (parts_at new dir kind index_name) vcn) ≡ true
      → spot_at (parts_at new dir kind index_name) vcn ≡ spot_at (parts_at old dir kind index_name) vcn

-- an attribute outside the table and its mirror
abbrev pub IsNoTable : ℕ → ℕ → Type 0
IsNoTable f kind = (kind ≢ DATA) ⊎ ((f ≢ MFT) × (f ≢ MFT_MIRROR))

-- ALL THAT IS LEFT where a file came in record n under a name of a directory, which is the root directory or no file of the system: of the
-- records all others, and of that of the directory its header; of all other files their numbers and names; of attributes their clusters and
-- values, but for the bitmap of records and the index of the directory, which keeps its records and their bits; the log; the items of all
-- other directories. The record is taken as one that was free, headers come rightly, and lists stay in order.
pub record LeavesRest (old new : VolumeView) (n dir : ℕ) : Type 0 where
  pub leaves : LeavesOthers old new n dir
  pub free : record_on old n ≡ None
  pub other : dir ≢ n
  pub ordinary : (dir ≡ ROOT) ⊎ (FIRST_ORDINARY ≤ dir)
  pub directory : KeepsDirectory old new dir
  pub others : KeepsOthers (records_of old) (records_of new) n
  pub names : (f : ℕ) → f ≢ n → names_of (records_of new) f ≡ names_of (records_of old) f
  pub clusters : (f kind : ℕ) (name : List ℕ) → is_entry_key dir (key_of f kind name) ≡ false → IsNoTable f kind
      → KeepsClusters old new (parts_at old f kind name)
  pub values : (f kind : ℕ) (name : List ℕ) → f ≢ n → is_entry_key dir (key_of f kind name) ≡ false → IsNoTable f kind
      → value_on new (parts_at new f kind name) ≡ value_on old (parts_at old f kind name)
  pub items : (g : ℕ) → g ≢ n → g ≢ dir → KeepsItems old new g
  pub index : KeepsOwnIndex old new dir
  pub blocks : (files : ℕ → Bool) → files dir ≡ true → KeepsBlocks files old new
  pub copies : KeepsCopies old new
  pub unused : KeepsUnused old new
  pub forms : (f : ℕ) → ComeRightly old new f
  pub lists : (f : ℕ) → KeepsListOrder old new f
  pub log_end : KeepsLogEnd old new
