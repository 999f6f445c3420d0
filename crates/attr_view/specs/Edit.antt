-- What an edit of a record makes of its bytes.
use Rattle.std.specs.Prelude.{◌≡◌, ℕ, ◌+◌, ◌%◌, ◌<◌, ◌≤◌, ◌==◌, ◌&&◌, List, codes, length, min, nat_eq, slice_index, if◌then◌else◌}
use Rattle.std.specs.List.{insert, remove, starts_with}
use Rattle.ntfs_def.specs.Attribute.{attribute_at, attribute_id, attribute_len, attribute_place, attributes}
use Rattle.ntfs_def.specs.Record.{Header, base_in, base_reference, header_of, is_in_use, link_count, next_attribute_id, record_flags}
use Rattle.ntfs_def.specs.Record.{sequence_of, used_size}
use Rattle.ntfs_def.specs.Shape.{HasShape}
use Rattle.attr_view.specs.declared.ViewNo.{ViewNo}
use Rattle.attr_view.specs.declared.ViewNo.TheVariants.{Full, Shape}
use Rattle.attr_view.specs.declared.record_mut.RecordHeader.{RecordHeader}

-- The next attribute id behind an attribute that was put in. It rises by one where the new one has that very id, and the
-- greatest id stays.
abbrev pub next_id_after : ℕ → ℕ → ℕ
next_id_after next id = if id == next then min (next + 1) 0xFFFF else next

-- The bytes stand at `at`, and what stood from there on, up to the used size, behind them. The used size and the next
-- attribute id tell so, and no other byte changed.
pub record IsInsertedAt (old new bytes : List ℕ) (at : ℕ) : Type 0 where
  pub len : length new ≡ length old
  pub front : (k : ℕ) → k < 0x18 → slice_index new k ≡ slice_index old k
  pub used : used_size new ≡ used_size old + length bytes
  pub middle : (k : ℕ) → 0x1C ≤ k → k < 0x28 → slice_index new k ≡ slice_index old k
  pub next_id : next_attribute_id new ≡ next_id_after (next_attribute_id old) (attribute_id bytes 0)
  pub before : (k : ℕ) → 0x2A ≤ k → k < at → slice_index new k ≡ slice_index old k
  pub here : (k j : ℕ) → k < length bytes → j ≡ at + k → slice_index new j ≡ slice_index bytes k
  pub behind : (i j : ℕ) → at ≤ i → i < used_size old → j ≡ i + length bytes → slice_index new j ≡ slice_index old i
  pub free : (k : ℕ) → used_size old + length bytes ≤ k → slice_index new k ≡ slice_index old k

abbrev pub with_next_id : Header → ℕ → Header
with_next_id header next = record header { next_id = next }

-- An attribute was put in before attribute i, or behind all, and every other one is as before.
pub record Inserts (old new attr : List ℕ) (i : ℕ) : Type 0 where
  pub bytes : IsInsertedAt old new attr (attribute_place old i)
  pub shape : HasShape new (length (attributes new))
  pub one_more : length (attributes new) ≡ length (attributes old) + 1
  pub header : header_of new ≡ with_next_id (header_of old) (next_id_after (next_attribute_id old) (attribute_id attr 0))
  pub in_use : is_in_use new ≡ is_in_use old
  pub attributes : attributes new ≡ insert (attributes old) i (attribute_at attr 0)

-- So many bytes from `at` on were taken out, and what stood behind them, up to the used size, follows what stood before them.
-- The used size tells so, and no other byte changed.
pub record IsRemovedAt (old new : List ℕ) (at gone : ℕ) : Type 0 where
  pub len : length new ≡ length old
  pub front : (k : ℕ) → k < 0x18 → slice_index new k ≡ slice_index old k
  pub used : used_size new + gone ≡ used_size old
  pub before : (k : ℕ) → 0x1C ≤ k → k < at → slice_index new k ≡ slice_index old k
  pub behind : (i j : ℕ) → at + gone ≤ i → i < used_size old → j + gone ≡ i → slice_index new j ≡ slice_index old i
  pub free : (k : ℕ) → used_size new ≤ k → slice_index new k ≡ slice_index old k

-- Attribute i was taken out, and every other one is as before.
pub record Removes (old new : List ℕ) (i : ℕ) : Type 0 where
  pub bytes : IsRemovedAt old new (attribute_place old i) (attribute_len old (attribute_place old i))
  pub shape : HasShape new (length (attributes new))
  pub one_less : length (attributes new) + 1 ≡ length (attributes old)
  pub header : header_of new ≡ header_of old
  pub in_use : is_in_use new ≡ is_in_use old
  pub attributes : attributes new ≡ remove (attributes old) i

-- The fields of the header are those given, and no other byte changed.
pub record PutsFields (old new : List ℕ) (fields : RecordHeader) : Type 0 where
  pub len : length new ≡ length old
  pub front : (k : ℕ) → k < 0x10 → slice_index new k ≡ slice_index old k
  pub sequence : sequence_of new ≡ fields.sequence
  pub links : link_count new ≡ fields.links
  pub first : (k : ℕ) → 0x14 ≤ k → k < 0x16 → slice_index new k ≡ slice_index old k
  pub flags : record_flags new ≡ fields.flags
  pub sizes : (k : ℕ) → 0x18 ≤ k → k < 0x20 → slice_index new k ≡ slice_index old k
  pub base : base_reference new ≡ fields.base
  pub rest : (k : ℕ) → 0x28 ≤ k → slice_index new k ≡ slice_index old k

abbrev pub with_fields : Header → RecordHeader → Header
with_fields header fields = record header {
  sequence = fields.sequence;
  links = fields.links;
  flags = fields.flags;
  base = base_in fields.base;
}

-- The header was set: the attributes are as before, and so are its other fields.
pub record SetsHeader (old new : List ℕ) (fields : RecordHeader) : Type 0 where
  pub bytes : PutsFields old new fields
  pub shape : HasShape new (length (attributes new))
  pub header : header_of new ≡ with_fields (header_of old) fields
  pub in_use : is_in_use new ≡ (starts_with nat_eq old (codes "FILE") && (fields.flags % 2 == 1))
  pub attributes : attributes new ≡ attributes old

-- so many bytes more do not fit
abbrev pub LacksRoom : List ℕ → ℕ → ViewNo → Type 0
LacksRoom block bytes (Shape at) = ⊥
LacksRoom block bytes (Full need free) = (need ≡ bytes) × (free + used_size block ≡ 1024) × (free < need)
