-- What an edit leaves of a list: one entry more, or one less, and all others byte for byte as they were.
-- Layout: Linux-NTFS documentation, attribute $ATTRIBUTE_LIST; Carrier, File System Forensic Analysis, chapter 13.
use Rattle.std.specs.Prelude.{◌≡◌, ℕ, ◌+◌, ◌*◌, ◌<◌, ◌≤◌, List, ◌∷◌, ◌++◌, true, IfSome, length, take, drop, slice_get, slice_index}
use Rattle.std.specs.Int.{to_le_bytes, w16}
use Rattle.std.specs.List.{All, flat_map}
use Rattle.std.specs.Ordering.{is_gt, is_le}
use Rattle.ntfs_def.specs.AttributeList.{HasListShape, IsListEntry, ListEntry, list_entries, list_entry_at, list_entry_place, listed_len}
use Rattle.ntfs_def.specs.ListOrder.{entry_order}
use Rattle.ntfs_def.specs.Rounded.{up_to_8}
use Rattle.attr_list.specs.declared.Entry.{Entry}
use Rattle.attr_list.specs.declared.ListNo.{ListNo}
use Rattle.attr_list.specs.declared.ListNo.TheVariants.{Long, Memory, Shape}
use Rattle.attr_list.specs.View.{IsEntryOf}

-- the most bytes of a list that is edited here
abbrev pub max_list_len : ℕ
max_list_len = 40960

-- a name as it is stored: two bytes for each unit, the lower first
abbrev pub name_bytes : List ℕ → List ℕ
name_bytes units = flat_map (to_le_bytes w16) units

-- where the name of an entry ends, which begins at 0x1A and has two bytes for each unit
abbrev pub name_end : ℕ → ℕ
name_end units = 0x1A + 2 * units

-- the bytes of an entry with a name of so many units
abbrev pub entry_len : ℕ → ℕ
entry_len units = up_to_8 (name_end units)

-- The bytes are this entry and nothing more: the header, the name, and zeros up to the next multiple of 8.
pub record HasEntryBytes (entry : Entry) (bytes : List ℕ) : Type 0 where
  pub whole : IsListEntry bytes 0
  pub alone : listed_len bytes 0 ≡ length bytes
  pub len : length bytes ≡ entry_len (length entry.name)
  pub says : IsEntryOf (list_entry_at bytes 0) entry
  pub padding : (k : ℕ) → name_end (length entry.name) ≤ k → slice_index bytes k ≡ 0

-- Entry i is where the entry comes: all before it are less or equal, and entry i, where there is one, is greater.
pub record IsPlaceFor (fold : ℕ → ℕ) (entries : List ListEntry) (entry : ListEntry) (i : ℕ) : Type 0 where
  pub within : i ≤ length entries
  pub before : All (λ other. is_le (entry_order fold other entry) ≡ true) (take i entries)
  pub behind : IfSome (slice_get entries i) (λ other. is_gt (entry_order fold other entry) ≡ true)

-- The entry was put in at its place. Entries before and behind stay byte for byte.
pub record Inserts (fold : ℕ → ℕ) (entry : Entry) (old new : List ℕ) : Type 0 where
  pub made : List ℕ
  pub made_of : HasEntryBytes entry made
  pub i : ℕ
  pub place : IsPlaceFor fold (list_entries old) (list_entry_at made 0) i
  pub bytes : new ≡ take (list_entry_place old i) old ++ (made ++ drop (list_entry_place old i) old)
  pub entries : list_entries new ≡ take i (list_entries old) ++ (list_entry_at made 0 ∷ drop i (list_entries old))
  pub shape : HasListShape new (length (list_entries new))

-- Entry i was taken out.
pub record Removes (i : ℕ) (old new : List ℕ) : Type 0 where
  pub bytes : new ≡ take (list_entry_place old i) old ++ drop (list_entry_place old (i + 1)) old
  pub entries : list_entries new ≡ take i (list_entries old) ++ drop (i + 1) (list_entries old)
  pub shape : HasListShape new (length (list_entries new))

-- the bytes that a list has with the entry
abbrev pub len_with : List ℕ → Entry → ℕ
len_with list entry = length list + entry_len (length entry.name)

-- An entry is not put in so.
abbrev pub RefusesEntry : List ℕ → Entry → ListNo → Type 0
RefusesEntry list entry Long = max_list_len < len_with list entry
RefusesEntry list entry Memory = len_with list entry ≤ max_list_len
RefusesEntry list entry (Shape at) = ⊥
