-- The streams whose values are read: what is asked of their parts, and of what is noted of them.
use Rattle.std.specs.Prelude.{◌≡◌, ◌<◌, ◌≤◌, ◌*◌, ◌/◌, ℕ, List, All, IsSome}
use Rattle.ntfs_def.specs.KeyOrder.{case_table_len}
use Rattle.volume_def.specs.BitmapClauses.{HasNoHole}
use Rattle.volume_def.specs.Files.{Part, all_covered, content_extent}
use Rattle.volume_def.specs.StreamSize.{told_size}
use Rattle.volume_def.specs.Values.{IsPlain, first_part}
use Rattle.record_notes.specs.declared.streams.StreamNote.{StreamNote}
use Rattle.record_notes.specs.Streams.{places_in}

-- It is noted of each cluster, of `size` bytes, that holds one of the first so many bytes.
abbrev pub ArePlacesFor : ℕ → ℕ → StreamNote → Type 0
ArePlacesFor len size note = (i : ℕ) → i < len → i / size < places_in note

-- The parts are a bitmap in clusters of so many bytes, which has room for a bit for each of so many records.
pub record HasRoomIn (parts : List Part) (size records : ℕ) : Type 0 where
  pub plain : IsPlain parts
  pub placed : HasNoHole parts
  pub extents : All (λ part. IsSome (content_extent part.content)) parts
  pub room : records ≤ 8 * (all_covered parts * size)

-- The parts are a value of so many bytes that is not packed.
pub record IsPlainOf (len : ℕ) (parts : List Part) : Type 0 where
  pub plain : IsPlain parts
  pub long : told_size (first_part parts) ≡ len

-- the bytes of a table of case, by a name: the number itself is of no use where a table is read
unfoldable pub table_len : ℕ
table_len = case_table_len
