-- A node that is laid out from the bytes of its entries.
use Rattle.std.specs.Prelude.{◌≡◌, ℕ, ◌+◌, ◌-◌, ◌*◌, ◌/◌, ◌^◌, ◌<◌, ◌≤◌, min, if◌then◌else◌, Bool, List, [], ◌∷◌, All, length, sum_by}
use Rattle.std.specs.Prelude.{slice_index, slice_range, None, IsTrue}
use Rattle.vol_bytes.specs.Field.{u32_at}
use Rattle.ntfs_def.specs.Node.{Node, Entry, entries_end, entry_at, child_at, first_entry, is_one_entry, is_one_last, most_len}
use Rattle.ntfs_def.specs.Node.{node_header, room_end}
use Rattle.ntfs_def.specs.declared.index.NodeForm.{NodeForm}
use Rattle.index_node.specs.declared.NodeNo.{NodeNo}
use Rattle.index_node.specs.declared.NodeNo.TheVariants.{Shape, Full}

-- They are the entries of a node in order, the last entry last. `AreEntriesFrom` speaks of the first of them and the others.
abbrev pub AreEntriesFrom : NodeForm → Bool → List ℕ → List (List ℕ) → Type 0
AreEntriesFrom form children entry [] = IsTrue (is_one_last children entry)
AreEntriesFrom form children entry (next ∷ entries) = IsTrue (is_one_entry form children entry)
    × AreEntriesFrom form children next entries

abbrev pub AreEntries : NodeForm → Bool → List (List ℕ) → Type 0
AreEntries form children [] = ⊥
AreEntries form children (entry ∷ entries) = AreEntriesFrom form children entry entries

-- the node that they say
abbrev pub with_entry : Entry → Node → Node
with_entry entry node = record { entries = entry ∷ node.entries; last = node.last }

abbrev pub node_from : Bool → List ℕ → List (List ℕ) → Node
node_from children entry [] = record { entries = []; last = child_at entry children 0 }
node_from children entry (next ∷ entries) = with_entry (entry_at entry children 0) (node_from children next entries)

abbrev pub node_listed : Bool → List (List ℕ) → Node
node_listed children [] = record { entries = []; last = None }
node_listed children (entry ∷ entries) = node_from children entry entries

-- None of them, the last one neither, is longer than an entry in an index of a volume may be.
abbrev pub AreShort : Bool → List (List ℕ) → Type 0
AreShort children entries = All (λ entry. length entry ≤ most_len children) entries

-- the bytes that they take, and those that there are for them
abbrev pub total_len : List (List ℕ) → ℕ
total_len entries = sum_by length entries

abbrev pub room_len : List ℕ → ℕ
room_len node = room_end node - first_entry node

-- Bytes hold these pieces one behind the other, from a place on.
abbrev pub HoldsPieces : List ℕ → ℕ → List (List ℕ) → Type 0
HoldsPieces node at [] = Unit {0}
HoldsPieces node at (piece ∷ pieces) = (slice_range node at (at + length piece) ≡ piece) × HoldsPieces node (at + length piece) pieces

-- The header says that the entries end there, and whether they lead to children; all other bytes stay.
pub record SetsHeader (old new : List ℕ) (children : Bool) (end : ℕ) : Type 0 where
  pub len : length new ≡ length old
  pub used : u32_at new (node_header old + 0x04) + node_header old ≡ end
  pub flags : slice_index new (node_header old + 0x0C) ≡ slice_index old (node_header old + 0x0C) / 2 * 2 + (if children then 1 else 0)
  pub before : (k : ℕ) → k < node_header old + 0x04 → slice_index new k ≡ slice_index old k
  pub room : (k : ℕ) → node_header old + 0x08 ≤ k → k < node_header old + 0x0C → slice_index new k ≡ slice_index old k
  pub behind : (k : ℕ) → node_header old + 0x0D ≤ k → slice_index new k ≡ slice_index old k

-- Of the header only the used length and the flag of children changed, and nothing behind the entries.
pub record KeepsHeader (old new : List ℕ) : Type 0 where
  pub len : length new ≡ length old
  pub before : (k : ℕ) → k < node_header old + 0x04 → slice_index new k ≡ slice_index old k
  pub room : (k : ℕ) → node_header old + 0x08 ≤ k → k < node_header old + 0x0C → slice_index new k ≡ slice_index old k
  pub flags : slice_index new (node_header old + 0x0C) / 2 ≡ slice_index old (node_header old + 0x0C) / 2
  pub between : (k : ℕ) → node_header old + 0x0D ≤ k → k < first_entry old → slice_index new k ≡ slice_index old k
  pub behind : (k : ℕ) → entries_end new ≤ k → slice_index new k ≡ slice_index old k

-- The entries do not fit. A machine's number tells their length, or stands at its last value.
abbrev pub LacksRoom : List ℕ → List (List ℕ) → NodeNo → Type 0
LacksRoom node entries (Shape at) = ⊥
LacksRoom node entries (Full need free) = (need ≡ min (total_len entries) (2 ^ 64 - 1)) × (free ≡ room_len node) × (free < need)
