-- What an edit makes of a node, and of the bytes that say it.
use Rattle.std.specs.Prelude.{◌≡◌, codes, if◌then◌else◌, ℕ, zero, suc, ◌+◌, ◌-◌, ◌*◌, ◌/◌, ◌<◌, ◌≤◌, Bool, List, [], ◌∷◌, ◌++◌, true}
use Rattle.std.specs.Prelude.{length, slice_index, slice_index_or, slice_range, take, drop, insert, remove, Option, None, Some}
use Rattle.std.specs.Prelude.{IsTrue}
use Rattle.vol_bytes.specs.Field.{SameOutside, u16_at, u32_at, u64_at}
use Rattle.ntfs_def.specs.Fixup.{HasArray}
use Rattle.ntfs_def.specs.Node.{Entry, Item, HasEntries, Node, child_at, child_from, child_len, entries_end, entries_from, entry_at}
use Rattle.ntfs_def.specs.Node.{entry_place, first_entry, has_child, has_children, is_last_entry, is_one_entry, item_in, most_len}
use Rattle.ntfs_def.specs.Node.{node_header_failing, node_in, own_vcn, room_end, short_node}
use Rattle.index_node.specs.LayOut.{KeepsHeader, SetsHeader, room_len}
use Rattle.index_node.specs.Sealed.{HasArrayApart}
use Rattle.index_node.specs.declared.NodeNo.{NodeNo}
use Rattle.index_node.specs.declared.NodeNo.TheVariants.{Shape, Full}
use Rattle.ntfs_def.specs.declared.index.NodeForm.{NodeForm}

-- what the bytes of one entry say
abbrev pub entry_in : List ℕ → Entry
entry_in entry = entry_at entry (has_child entry 0) 0

abbrev pub child_of_node : Node → ℕ → Option ℕ
child_of_node node i = child_from node.entries node.last i

-- with an entry more, before entry i or behind all
abbrev pub with_entry_at : Node → ℕ → Entry → Node
with_entry_at node i entry = record { entries = insert node.entries i entry; last = node.last }

abbrev pub without_entry : Node → ℕ → Node
without_entry node i = record { entries = remove node.entries i; last = node.last }

-- with another entry in place of entry i
abbrev pub replaced : Node → ℕ → Entry → Node
replaced node i entry = record { entries = insert (remove node.entries i) i entry; last = node.last }

-- the bytes of an entry, apart from its child's number
abbrev pub item_len : Item → ℕ
item_len item = 16 + length item.key + length item.rest

-- where place i leads to another child
abbrev pub entries_leading : List Entry → ℕ → Option ℕ → List Entry
entries_leading [] i child = []
entries_leading (entry ∷ entries) zero child = record entry { child = child } ∷ entries
entries_leading (entry ∷ entries) (suc i) child = entry ∷ entries_leading entries i child

abbrev pub last_leading : List Entry → Option ℕ → ℕ → Option ℕ → Option ℕ
last_leading [] last i child = child
last_leading (entry ∷ entries) last zero child = last
last_leading (entry ∷ entries) last (suc i) child = last_leading entries last i child

abbrev pub leading : Node → ℕ → Option ℕ → Node
leading node i child = record { entries = entries_leading node.entries i child; last = last_leading node.entries node.last i child }

-- the entries before entry i, and its child last; and those behind it
abbrev pub left_of : ℕ → Node → Node
left_of i node = record { entries = take i node.entries; last = child_of_node node i }

abbrev pub right_of : ℕ → Node → Node
right_of i node = record { entries = drop (suc i) node.entries; last = node.last }

-- without the entries from entry i on; the last one, which has no key, stays
abbrev pub without_from : ℕ → Node → Node
without_from i node = record { entries = take i node.entries; last = node.last }

-- the bytes that the entries take, the last one too
abbrev pub entries_len : List ℕ → Node → ℕ
entries_len node said = entry_place node (first_entry node) (suc (length said.entries)) - first_entry node

-- the bytes of the entries before entry i
abbrev pub front_len : List ℕ → ℕ → ℕ
front_len node i = entry_place node (first_entry node) i - first_entry node

-- The node has room for so many bytes more, behind what its entries take; or it has not, and this is why.
abbrev pub HasRoomFor : NodeForm → List ℕ → ℕ → Type 0
HasRoomFor form node len = (said : Node) → node_in form node ≡ Some said → entries_len node said + len ≤ room_len node

abbrev pub LacksRoomFor : NodeForm → List ℕ → ℕ → NodeNo → Type 0
LacksRoomFor form node len (Shape at) = ⊥
LacksRoomFor form node len (Full need free) =
    (need ≡ len) × (free < need) × ((said : Node) → node_in form node ≡ Some said → entries_len node said + free ≡ room_len node)

-- The bytes say a node, and it has so many entries and one.
pub record HasEntry (form : NodeForm) (node : List ℕ) (i : ℕ) : Type 0 where
  pub said : Node
  pub is : node_in form node ≡ Some said
  pub within : i < length said.entries

pub record HasPlace (form : NodeForm) (node : List ℕ) (i : ℕ) : Type 0 where
  pub said : Node
  pub is : node_in form node ≡ Some said
  pub within : i ≤ length said.entries

-- Entry i has the middle byte of the entries: less than half of them stands before it, and half or more up to its end.
pub record IsMiddle (form : NodeForm) (node : List ℕ) (i : ℕ) : Type 0 where
  pub entry : HasEntry form node i
  pub before : (said : Node) → node_in form node ≡ Some said → 2 * front_len node i < entries_len node said
  pub upto : (said : Node) → node_in form node ≡ Some said → entries_len node said ≤ 2 * front_len node (suc i)

-- The last entry, which has no key, has it.
abbrev pub LacksMiddle : NodeForm → List ℕ → Type 0
LacksMiddle form node = (said : Node) → node_in form node ≡ Some said → 2 * front_len node (length said.entries) < entries_len node said

-- The bytes are one entry with a key, with a child exactly where `children` says so, and no longer than an entry in an index
-- of a volume may be.
pub record IsShortEntry (form : NodeForm) (children : Bool) (entry : List ℕ) : Type 0 where
  pub one : IsTrue (is_one_entry form children entry)
  pub short : length entry ≤ most_len children

-- A record that was opened, under its own number.
pub record IsOpened (vcn : ℕ) (record_ : List ℕ) : Type 0 where
  pub len : length record_ ≡ 4096
  pub array : HasArray record_
  pub own : own_vcn record_ ≡ vcn

-- Whatever node the bytes said, they say another; and the same of nodes whose entries are short.
abbrev pub EditsNode : NodeForm → List ℕ → List ℕ → (Node → Node) → Type 0
EditsNode form old new f = (said : Node) → node_in form old ≡ Some said → node_in form new ≡ Some (f said)

abbrev pub EditsShort : NodeForm → List ℕ → List ℕ → (Node → Node) → Type 0
EditsShort form old new f = (said : Node) → short_node form old ≡ Some said → short_node form new ≡ Some (f said)

-- The entries from byte `from` up to `end` were moved to behind these bytes, which stand at `at` now; the header says so.
pub record Splices (old new : List ℕ) (at from end : ℕ) (bytes : List ℕ) : Type 0 where
  pub mid : List ℕ
  pub sets : SetsHeader old mid (has_children old) (at + length bytes + (end - from))
  pub rest : SameOutside mid new at (at + length bytes + (end - from))
  pub put : slice_range new at (at + length bytes) ≡ bytes
  pub moved : (j k : ℕ) → from ≤ k → k < end → j + from ≡ k + (at + length bytes) → slice_index new j ≡ slice_index old k

-- Where an entry of a node stands, where the next one does, and where the entries end.
pub record HasSpan (form : NodeForm) (node : List ℕ) (i at behind end : ℕ) : Type 0 where
  pub right : node_header_failing node ≡ None
  pub count : ℕ
  pub each : HasEntries form node (has_children node) (entries_end node) (first_entry node) count
  pub last : IsTrue (is_last_entry node (has_children node) (entries_end node) (entry_place node (first_entry node) count))
  pub said : node_in form node ≡ Some (record {
    entries = entries_from node (has_children node) (first_entry node) count;
    last = child_at node (has_children node) (entry_place node (first_entry node) count);
  })
  pub few : count < length node
  pub within : i ≤ count
  pub is_at : at ≡ entry_place node (first_entry node) i
  pub is_behind : behind ≡ entry_place node (first_entry node) (suc i)
  pub is_end : end ≡ entry_place node (first_entry node) (suc count)

-- The entries from `from` up to `end` can be moved to behind so many bytes at `at`.
pub record CanSplice (node : List ℕ) (at from end len : ℕ) : Type 0 where
  pub right : node_header_failing node ≡ None
  pub low : first_entry node ≤ at
  pub order : at ≤ from
  pub inside : from ≤ end
  pub room : end ≤ room_end node
  pub fits : at + len + (end - from) ≤ room_end node

-- One entry more, before entry i or behind all.
pub record Inserts (form : NodeForm) (old new : List ℕ) (i : ℕ) (entry : List ℕ) : Type 0 where
  pub node : EditsNode form old new (λ said. with_entry_at said i (entry_in entry))
  pub short : length entry ≤ most_len (has_children old) → EditsShort form old new (λ said. with_entry_at said i (entry_in entry))
  pub len : (said : Node) → node_in form old ≡ Some said → entries_len new (with_entry_at said i (entry_in entry)) ≡ entries_len old
      said + length entry
  pub header : KeepsHeader old new
  pub children : has_children new ≡ has_children old
  pub opened : (vcn : ℕ) → IsOpened vcn old → IsOpened vcn new

-- Another node in the same header.
pub record Becomes (form : NodeForm) (old new : List ℕ) (f : Node → Node) : Type 0 where
  pub node : EditsNode form old new f
  pub short : EditsShort form old new f
  pub header : KeepsHeader old new
  pub children : has_children new ≡ has_children old
  pub opened : (vcn : ℕ) → IsOpened vcn old → IsOpened vcn new

-- Another node in as many bytes; nothing is said of its header.
pub record Turns (form : NodeForm) (old new : List ℕ) (f : Node → Node) : Type 0 where
  pub node : EditsNode form old new f
  pub short : EditsShort form old new f
  pub len : length new ≡ length old
  pub children : has_children new ≡ has_children old
  pub opened : (vcn : ℕ) → IsOpened vcn old → IsOpened vcn new

-- The entries of another node before its entry i stand in front now.
pub record PutsFront (form : NodeForm) (old new other : List ℕ) (i : ℕ) : Type 0 where
  pub node : (said from : Node) → node_in form old ≡ Some said → node_in form other ≡ Some from
      → node_in form new ≡ Some (record { entries = take i from.entries ++ said.entries; last = said.last })
  pub short : (said from : Node) → short_node form old ≡ Some said → short_node form other ≡ Some from
      → short_node form new ≡ Some (record { entries = take i from.entries ++ said.entries; last = said.last })
  pub len : (said from : Node) → node_in form old ≡ Some said → node_in form other ≡ Some from
      → entries_len new (record { entries = take i from.entries ++ said.entries; last = said.last }) ≡ entries_len old said + front_len
      other i
  pub header : KeepsHeader old new
  pub children : has_children new ≡ has_children old
  pub opened : (vcn : ℕ) → IsOpened vcn old → IsOpened vcn new

-- The bytes say a node without keys.
pub record IsKeyless (form : NodeForm) (node : List ℕ) : Type 0 where
  pub last : Option ℕ
  pub is : node_in form node ≡ Some (record { entries = []; last = last })

-- The entries behind entry i, the last one too, take no more bytes than these.
abbrev pub FitsBehind : NodeForm → List ℕ → ℕ → ℕ → Type 0
FitsBehind form node i room = (said : Node) → node_in form node ≡ Some said → entries_len node said ≤ front_len node (suc i) + room

-- The entries of another node behind its entry i, the last one too, stand in place of those that were here.
pub record TakesBehind (form : NodeForm) (old new other : List ℕ) (i : ℕ) : Type 0 where
  pub node : EditsNode form other new (right_of i)
  pub short : EditsShort form other new (right_of i)
  pub len : (said : Node) → node_in form other ≡ Some said → entries_len new (right_of i said) + front_len other (suc i) ≡ entries_len
      other said
  pub header : KeepsHeader old new
  pub children : has_children new ≡ has_children old
  pub opened : (vcn : ℕ) → IsOpened vcn old → IsOpened vcn new

-- The entry with the child that it is to have.
pub record LeadsTo (form : NodeForm) (entry : List ℕ) (vcn : ℕ) (up : List ℕ) : Type 0 where
  pub short : IsShortEntry form true up
  pub says : entry_in up ≡ record { item = item_in entry; child = Some vcn }

-- The parts of this node, split at an entry that goes up: what stands before it in a new record, what stands behind it here.
pub record IsParted (form : NodeForm) (n : Node) (right left : List ℕ) (vcn : ℕ) (up : Entry) : Type 0 where
  pub at : ℕ
  pub within : at < length n.entries
  pub child : up.child ≡ Some vcn
  pub item : (d : Entry) → up.item ≡ (slice_index_or n.entries at d).item
  pub is_left : short_node form left ≡ Some (left_of at n)
  pub is_right : short_node form right ≡ Some (right_of at n)

-- A part of a node that was split keeps at least 1,024 bytes of entries, the last one too, and so a key.
pub record IsHalf (form : NodeForm) (part : List ℕ) : Type 0 where
  pub many : (said : Node) → short_node form part ≡ Some said → 1024 ≤ entries_len part said
  pub key : (said : Node) → short_node form part ≡ Some said → 0 < length said.entries

-- A node with an entry more was split; the new record has this number.
pub record SplitsWith (form : NodeForm) (old right left : List ℕ) (vcn i : ℕ) (entry out : List ℕ) : Type 0 where
  pub opened_left : IsOpened vcn left
  pub opened : (own : ℕ) → IsOpened own old → IsOpened own right
  pub apart_left : HasArrayApart left
  pub apart : HasArrayApart right
  pub up : IsShortEntry form true out
  pub parts : (said : Node) → short_node form old ≡ Some said
      → IsParted form (with_entry_at said i (entry_in entry)) right left vcn (entry_in out)
  pub halves : (said : Node) → short_node form old ≡ Some said → 4000 ≤ entries_len old said + length entry
      → IsHalf form left × IsHalf form right

-- A standard record of short entries that has no room for so many bytes more: such a node is split.
pub record IsCrowded (form : NodeForm) (node : List ℕ) (len : ℕ) : Type 0 where
  pub said : Node
  pub is : short_node form node ≡ Some said
  pub room : room_len node ≡ 4032
  pub full : 4032 < entries_len node said + len

-- The roots, values of an $INDEX_ROOT that grow and shrink.

-- One entry more; the bytes grew by it, and hold nothing behind the entries.
pub record InsertsInRoot (form : NodeForm) (old new : List ℕ) (i : ℕ) (entry : List ℕ) : Type 0 where
  pub node : EditsNode form old new (λ said. with_entry_at said i (entry_in entry))
  pub short : EditsShort form old new (λ said. with_entry_at said i (entry_in entry))
  pub grown : length new ≤ length old + length entry

-- The root leads to this record alone.
pub record LeadsDown (form : NodeForm) (root : List ℕ) (vcn : ℕ) : Type 0 where
  pub short : short_node form root ≡ Some (record { entries = []; last = Some vcn })

-- The record of this number says what the root says.
pub record HoldsRoot (form : NodeForm) (root record_ : List ℕ) (vcn : ℕ) : Type 0 where
  pub opened : IsOpened vcn record_
  pub apart : HasArrayApart record_
  pub node : (said : Node) → node_in form root ≡ Some said → node_in form record_ ≡ Some said
  pub short : (said : Node) → short_node form root ≡ Some said → short_node form record_ ≡ Some said
  pub children : has_children record_ ≡ has_children root
  pub room : room_len record_ ≡ 4032

-- Bytes that began with those of an entry lead to this child, which stands in the eight bytes at `base`, their last.
pub record LeadsBytes (old new : List ℕ) (base vcn : ℕ) : Type 0 where
  pub len : length new ≡ base + 8
  pub size : u16_at new 0x08 ≡ base + 8
  pub key : u16_at new 0x0A ≡ u16_at old 0x0A
  pub flags : u16_at new 0x0C ≡ u16_at old 0x0C / 2 * 2 + 1
  pub child : u64_at new base ≡ vcn
  pub front : (k : ℕ) → k < 0x08 → slice_index new k ≡ slice_index old k
  pub rest : (k : ℕ) → 0x10 ≤ k → k < base → slice_index new k ≡ slice_index old k

-- The fields of a record that was made anew, whose last entry leads to a child where `children` says so.
pub record IsLaid (new : List ℕ) (vcn : ℕ) (children : Bool) : Type 0 where
  pub len : length new ≡ 4096
  pub mark : take 4 new ≡ codes "INDX"
  pub place : u16_at new 0x04 ≡ 0x28
  pub count : u16_at new 0x06 ≡ 9
  pub own : u64_at new 0x10 ≡ vcn
  pub first : u32_at new 0x18 ≡ 0x28
  pub used : u32_at new 0x1C ≡ 0x38 + child_len children
  pub room : u32_at new 0x20 ≡ 0xFE8
  pub flag : slice_index new 0x24 ≡ (if children then 1 else 0)
  pub size : u16_at new 0x48 ≡ 16 + child_len children
  pub key : u16_at new 0x4A ≡ 0
  pub flags : u16_at new 0x4C ≡ (if children then 3 else 2)

-- The bytes begin with these, apart from the number at 0x10.
pub record BeginsWith (new start : List ℕ) (vcn : ℕ) : Type 0 where
  pub len : length new ≡ 4096
  pub own : u64_at new 0x10 ≡ vcn
  pub low : (k : ℕ) → k < 0x10 → slice_index new k ≡ slice_index start k
  pub high : (k : ℕ) → 0x18 ≤ k → k < 88 → slice_index new k ≡ slice_index start k

-- The fields of a root that leads to this record alone.
pub record IsDown (new : List ℕ) (vcn : ℕ) : Type 0 where
  pub len : length new ≡ 56
  pub first : u32_at new 0x10 ≡ 0x10
  pub used : u32_at new 0x14 ≡ 0x28
  pub room : u32_at new 0x18 ≡ 0x28
  pub flag : slice_index new 0x1C ≡ 1
  pub size : u16_at new 0x28 ≡ 0x18
  pub key : u16_at new 0x2A ≡ 0
  pub flags : u16_at new 0x2C ≡ 3
  pub child : u64_at new 0x30 ≡ vcn

-- A root that was made longer: its room ends with it now, and all else is as it was.
pub record IsWidened (old new : List ℕ) : Type 0 where
  pub long : length old ≤ length new
  pub short : length new < 4096
  pub room : u32_at new 0x18 ≡ length new - 0x10
  pub low : (k : ℕ) → k < 0x18 → slice_index new k ≡ slice_index old k
  pub high : (k : ℕ) → 0x1C ≤ k → k < length old → slice_index new k ≡ slice_index old k

-- The bytes are those of a root with this place, and more behind them.
pub record IsLonger (form : NodeForm) (new old : List ℕ) (i : ℕ) (entry : List ℕ) : Type 0 where
  pub at : ℕ
  pub behind : ℕ
  pub fin : ℕ
  pub span : HasSpan form old i at behind fin
  pub one : IsTrue (is_one_entry form (has_children old) entry)
  pub fits : length entry ≤ most_len (has_children old)
  pub enough : 0x20 ≤ length old
  pub long : length new ≡ length old + length entry
  pub same : (k : ℕ) → k < length old → slice_index new k ≡ slice_index old k

pub record HasLonger (form : NodeForm) (new : List ℕ) (i : ℕ) (entry : List ℕ) : Type 0 where
  pub old : List ℕ
  pub longer : IsLonger form new old i entry
