-- RECORDS THAT ARE NOT IN USE, and the headers of those that come into use, stay or go.
use Rattle.std.specs.Prelude.{◌≡◌, ◌⊎◌, ℕ, ◌<◌, ◌≤◌, All, Some, None, is_some, true}
use Rattle.ntfs_def.specs.Record.{Header}
use Rattle.volume_def.specs.Files.{Record, file_of, record_on}
use Rattle.volume_def.specs.Freed.{sequence_after, sequence_at_first, stored_sequence}
use Rattle.volume_def.specs.View.{VolumeView}

-- the next attribute id is above all that are taken, or the greatest
abbrev pub IsPastIds : Record → Type 0
IsPastIds r = (r.header.next_id ≡ 0xFFFF) ⊎ All (λ part. part.id < r.header.next_id) r.parts

-- the header of a record that stays with its file
pub record KeepsHeader (was now : Header) : Type 0 where
  pub flags : now.flags ≡ was.flags
  pub number : now.number ≡ was.number
  pub next_id : was.next_id ≤ now.next_id

-- A record that is in use neither before nor after is not written. One that is freed counts up; one that is taken keeps its number. One
-- that stays in use keeps it, with its header, or was freed and taken again.
pub record KeepsUnused (old new : VolumeView) : Type 0 where
  pub idle : (n : ℕ) → n < old.layout.count → record_on old n ≡ None → record_on new n ≡ None → new.block n ≡ old.block n
  pub freed : (n : ℕ) → n < old.layout.count → is_some (record_on old n) ≡ true → record_on new n ≡ None
      → stored_sequence (new.block n) ≡ sequence_after (stored_sequence (old.block n))
  pub taken : (n : ℕ) → n < old.layout.count → record_on old n ≡ None → is_some (record_on new n) ≡ true
      → stored_sequence (new.block n) ≡ sequence_at_first (stored_sequence (old.block n))
  pub stays : (n : ℕ) → n < old.layout.count → is_some (record_on old n) ≡ true → is_some (record_on new n) ≡ true
      → (stored_sequence (new.block n) ≡ stored_sequence (old.block n))
      ⊎ (stored_sequence (new.block n) ≡ sequence_after (stored_sequence (old.block n)))
  pub headers : (n : ℕ) (was now : Record) → record_on old n ≡ Some was → record_on new n ≡ Some now → file_of n now ≡ file_of n was
      → stored_sequence (new.block n) ≡ stored_sequence (old.block n) → KeepsHeader was.header now.header
  pub comes : (n : ℕ) (now : Record) → record_on old n ≡ None → record_on new n ≡ Some now → (now.header.number ≡ n) × IsPastIds now
