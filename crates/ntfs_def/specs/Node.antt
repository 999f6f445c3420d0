-- A node of an index: the value of an $INDEX_ROOT, or an opened index record. `node` is its bytes, and `at` the place
-- of an entry in it.
-- Layout: Linux-NTFS documentation, "Index Header", "Index Entry", attribute $INDEX_ROOT, concept "B*Trees"; Carrier,
-- File System Forensic Analysis, chapter 13. All numbers are little-endian.
use Rattle.std.specs.Prelude.{◌≡◌, ℕ, zero, suc, ◌+◌, ◌-◌, ◌/◌, ◌%◌, ◌<◌, ◌≤◌, ◌==◌, nat_le, ◌&&◌, ◌||◌, Bool, true, IsTrue}
use Rattle.std.specs.Prelude.{List, [], ◌∷◌, codes, nat_eq, length, slice_index, slice_range, Option, Some, None, if◌then◌else◌}
use Rattle.std.specs.List.{starts_with}
use Rattle.std.specs.Option.{option_and_then}
use Rattle.vol_bytes.specs.Field.{u16_at, u32_at, u64_at}
use Rattle.ntfs_def.specs.First.{first_failing}
use Rattle.ntfs_def.specs.Fixup.{array_place, array_end}
use Rattle.ntfs_def.specs.declared.index.NodeForm.{NodeForm}
use Rattle.ntfs_def.specs.declared.index.NodeForm.TheVariants.{Names, View}

-- The header.

-- An index record has 4,096 bytes. The value of an $INDEX_ROOT lies in a file record and has fewer.
abbrev pub is_index_record : List ℕ → Bool
is_index_record node = length node == 4096

-- where the index header stands: behind the fields of an index record, or of an $INDEX_ROOT
unfoldable pub node_header : List ℕ → ℕ
node_header node = if is_index_record node then 0x18 else 0x10

-- 0x00 of the header: where the first entry stands, from the header on
abbrev pub first_offset : List ℕ → ℕ
first_offset node = u32_at node (node_header node)

-- the same from the node's beginning on
abbrev pub first_entry : List ℕ → ℕ
first_entry node = node_header node + first_offset node

-- 0x04: where the entries end, 0x08: where the room for them ends
abbrev pub entries_end : List ℕ → ℕ
entries_end node = node_header node + u32_at node (node_header node + 0x04)

abbrev pub room_end : List ℕ → ℕ
room_end node = node_header node + u32_at node (node_header node + 0x08)

-- 0x0C: bit 0 says that each entry leads to a child
abbrev pub has_children : List ℕ → Bool
has_children node = slice_index node (node_header node + 0x0C) % 2 == 1

-- 0x10 of an index record: its own number in the index
abbrev pub own_vcn : List ℕ → ℕ
own_vcn node = u64_at node 0x10

-- The place of the first field that is wrong, `None` where all are right.
abbrev pub node_header_failing : List ℕ → Option ℕ
node_header_failing node = first_failing (
    (nat_le (node_header node + 16) (length node), 0x00)
    ∷ (if is_index_record node then starts_with nat_eq node (codes "INDX") else true, 0x00)
    ∷ (if is_index_record node then nat_le 0x28 (array_place node) && nat_le (array_end node) (first_entry node) else true, 0x04)
    ∷ (nat_le 16 (first_offset node), node_header node)
    ∷ (nat_le (entries_end node) (room_end node), node_header node + 0x04)
    ∷ (nat_le (room_end node) (length node), node_header node + 0x08)
    ∷ [])

-- An entry.

-- 0x08: the bytes of the entry
abbrev pub entry_len : List ℕ → ℕ → ℕ
entry_len node at = u16_at node (at + 0x08)

-- 0x0A: the bytes of the key
abbrev pub key_len : List ℕ → ℕ → ℕ
key_len node at = u16_at node (at + 0x0A)

-- 0x0C: 1 it leads to a child, 2 it is the last one
abbrev pub entry_flags : List ℕ → ℕ → ℕ
entry_flags node at = u16_at node (at + 0x0C)

-- 0x10: the key; the last eight bytes are the child's number, where there is one
abbrev pub child_len : Bool → ℕ
child_len children = if children then 8 else 0

-- 0x00 and 0x02 in a view index: where the data stands, from the entry on, and its bytes
abbrev pub data_offset : List ℕ → ℕ → ℕ
data_offset node at = u16_at node at

abbrev pub data_len : List ℕ → ℕ → ℕ
data_len node at = u16_at node (at + 0x02)

abbrev pub is_last : List ℕ → ℕ → Bool
is_last node at = entry_flags node at / 2 % 2 == 1

-- What every entry is, the last one too: whole before `end`, and with a child exactly where the node has children.
abbrev pub is_whole : List ℕ → Bool → ℕ → ℕ → Bool
is_whole node children end at =
    nat_le (at + 16) end
    && (entry_len node at % 8 == 0)
    && nat_le (16 + key_len node at + child_len children) (entry_len node at)
    && nat_le (at + entry_len node at) end
    && (entry_flags node at % 2 == (if children then 1 else 0))

-- the same as facts, for readers
pub record IsWholeEntry (node : List ℕ) (children : Bool) (end at : ℕ) : Type 0 where
  pub header : at + 16 ≤ end
  pub multiple : entry_len node at % 8 ≡ 0
  pub holds : 16 + key_len node at + child_len children ≤ entry_len node at
  pub inside : at + entry_len node at ≤ end
  pub flag : entry_flags node at % 2 ≡ (if children then 1 else 0)

-- data that is not empty lies behind the key, and before the child's number
abbrev pub holds_data : NodeForm → List ℕ → Bool → ℕ → Bool
holds_data Names node children at = true
holds_data View node children at =
    (data_len node at == 0)
    || nat_le (16 + key_len node at) (data_offset node at)
    && nat_le (data_offset node at + data_len node at + child_len children) (entry_len node at)

-- an entry with a key
unfoldable pub is_entry : NodeForm → List ℕ → Bool → ℕ → ℕ → Bool
is_entry form node children end at =
    is_whole node children end at && (entry_flags node at / 2 % 2 == 0) && holds_data form node children at

-- the last entry, which has none
unfoldable pub is_last_entry : List ℕ → Bool → ℕ → ℕ → Bool
is_last_entry node children end at = is_whole node children end at && is_last node at && (key_len node at == 0)

-- What an entry says, wherever it stands.

-- An entry apart from its place, its length, its flags and its child: those change where an entry is
-- moved in the tree, and this stays.
pub record Item : Type 0 where
  -- the eight bytes in front: of a directory the file's reference
  pub head : List ℕ
  pub key : List ℕ
  -- what stands between the key and the child's number: a view index's data, and bytes that fill up
  pub rest : List ℕ

pub record Entry : Type 0 where
  pub item : Item
  pub child : Option ℕ

unfoldable pub item_at : List ℕ → Bool → ℕ → Item
item_at node children at = record {
  head = slice_range node at (at + 8);
  key = slice_range node (at + 16) (at + 16 + key_len node at);
  rest = slice_range node (at + 16 + key_len node at) (at + entry_len node at - child_len children);
}

unfoldable pub child_at : List ℕ → Bool → ℕ → Option ℕ
child_at node children at = if children then Some (u64_at node (at + entry_len node at - 8)) else None

abbrev pub entry_at : List ℕ → Bool → ℕ → Entry
entry_at node children at = record { item = item_at node children at; child = child_at node children at }

-- A node: its entries in order, and the child that its last one, which has no key, leads to.
pub record Node : Type 0 where
  pub entries : List Entry
  pub last : Option ℕ

-- what place i leads to; the last place is that of the last entry
abbrev pub child_from : List Entry → Option ℕ → ℕ → Option ℕ
child_from [] last i = last
child_from (entry ∷ entries) last zero = entry.child
child_from (entry ∷ entries) last (suc i) = child_from entries last i

-- what is read from a place on: a node, or the first place at which no entry stands
pub data Scan : Type 0 where
  Whole : Node → Scan
  BadAt : ℕ → Scan

abbrev pub entry_and : Entry → Scan → Scan
entry_and entry (Whole node) = Whole (record { entries = entry ∷ node.entries; last = node.last })
entry_and entry (BadAt place) = BadAt place

-- From a place on, at most so many entries: the last one ends the node, and behind another one it goes on.
abbrev pub scan_from : NodeForm → List ℕ → Bool → ℕ → ℕ → ℕ → Scan
scan_from form node children end zero at = BadAt at
scan_from form node children end (suc most) at =
    if is_last_entry node children end at then Whole (record { entries = []; last = child_at node children at })
    else if is_entry form node children end at then
    entry_and (entry_at node children at) (scan_from form node children end most (at + entry_len node at))
    else BadAt at

abbrev pub scan_behind : NodeForm → List ℕ → Option ℕ → Scan
scan_behind form node None = scan_from form node (has_children node) (entries_end node) (length node) (first_entry node)
scan_behind form node (Some place) = BadAt place

-- What the bytes of a node say. An entry has sixteen bytes at least, so there are fewer of them than bytes.
unfoldable pub scan_node : NodeForm → List ℕ → Scan
scan_node form node = scan_behind form node (node_header_failing node)

abbrev pub whole_of : Scan → Option Node
whole_of (Whole node) = Some node
whole_of (BadAt place) = None

-- the node that the bytes say, where they have a node's shape
abbrev pub node_in : NodeForm → List ℕ → Option Node
node_in form node = whole_of (scan_node form node)

-- The entries by their places.

abbrev pub entry_place : List ℕ → ℕ → ℕ → ℕ
entry_place node at zero = at
entry_place node at (suc i) = entry_place node (at + entry_len node at) i

-- At each of the first so many places, from this one on, stands an entry with a key.
abbrev pub HasEntries : NodeForm → List ℕ → Bool → ℕ → ℕ → ℕ → Type 0
HasEntries form node children end at n = (i : ℕ) → i < n → IsTrue (is_entry form node children end (entry_place node at i))

-- so many entries from a place on
abbrev pub entries_from : List ℕ → Bool → ℕ → ℕ → List Entry
entries_from node children at zero = []
entries_from node children at (suc n) = entry_at node children at ∷ entries_from node children (at + entry_len node at) n

-- No entry from a place on is longer than `most` bytes: so many, and the last one.
abbrev pub are_short_from : List ℕ → ℕ → ℕ → ℕ → Bool
are_short_from node most at zero = nat_le (entry_len node at) most
are_short_from node most at (suc n) = nat_le (entry_len node at) most && are_short_from node most (at + entry_len node at) n

-- No entry is longer than 632 bytes, apart from a child's number, and the last one neither (this project's choice).
-- `count` is the number of the others.
abbrev pub most_len : Bool → ℕ
most_len children = 632 + child_len children

unfoldable pub are_short : List ℕ → ℕ → Bool
are_short node count = are_short_from node (most_len (has_children node)) (first_entry node) count

-- the node that the bytes say, where its entries are short: what an index of a volume may hold
abbrev pub short_node : NodeForm → List ℕ → Option Node
short_node form node =
    option_and_then (λ said. if are_short node (length said.entries) then Some said else None) (node_in form node)

-- An entry apart from its node.

-- it says itself whether it has a child
abbrev pub has_child : List ℕ → ℕ → Bool
has_child entry at = entry_flags entry at % 2 == 1

abbrev pub item_in : List ℕ → Item
item_in entry = item_at entry (has_child entry 0) 0

-- The bytes are one entry with a key, or the last entry, and nothing else.
abbrev pub is_one_entry : NodeForm → Bool → List ℕ → Bool
is_one_entry form children entry = is_entry form entry children (length entry) 0 && (entry_len entry 0 == length entry)

abbrev pub is_one_last : Bool → List ℕ → Bool
is_one_last children entry = is_last_entry entry children (length entry) 0 && (entry_len entry 0 == length entry)

-- the bytes are one entry with a key, which says itself whether it has a child
abbrev pub IsOwnEntry : NodeForm → List ℕ → Type 0
IsOwnEntry form entry = IsTrue (is_one_entry form (has_child entry 0) entry)
