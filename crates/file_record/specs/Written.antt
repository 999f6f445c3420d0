-- What a file that is held is after a value of it was written.
use Rattle.std.specs.Prelude.{◌≡◌, ◌+◌, ◌*◌, ◌<◌, ◌≤◌, ℕ, List, All, IsSomeAnd, length, slice_get, slice_index}
use Rattle.std.specs.Option.{option_map}
use Rattle.ntfs_def.specs.Attribute.{Attribute, value_of, value_offset}
use Rattle.attr_view.specs.Values.{PutsBytes, overwritten}
use Rattle.ntfs_def.specs.Fixup.{Seals, opened_of}
use Rattle.ntfs_def.specs.Record.{header_of}
use Rattle.volume_def.specs.Coverage.{IsApart}
use Rattle.volume_def.specs.Files.{Part, content_value, part_of}
use Rattle.volume_def.specs.View.{ReplacesBlock, VolumeView}
use Rattle.volume_edits.specs.Rewritten.{RewritesRecord}
use Rattle.file_record.specs.declared.parts.FileParts.{FileParts}
use Rattle.file_record.specs.Held.{AreParts, AreRising, file_number, held_of, parts_held}
use Rattle.file_record.specs.Records.{IsRecordOf}

-- What is held is the whole file of its number: all of its parts, in records of that file alone, each held once.
pub record IsWholeFile (view : VolumeView) (file : FileParts) : Type 0 where
  pub parts : AreParts view file
  pub own : All (λ one. IsRecordOf view (file_number file) one.number) (held_of file)
  pub rising : AreRising (held_of file)

-- part i of a file that is held: `P` holds of it
abbrev pub PartHeld : FileParts → ℕ → (Part → Type 0) → Type 0
PartHeld file i P = IsSomeAnd (slice_get (parts_held file) i) P

-- so many bytes from `at` on lie in the value of a part that stands in its record
abbrev pub HoldsBytes : ℕ → ℕ → Part → Type 0
HoldsBytes at len part = IsSomeAnd (content_value part.content) (λ value. at + len ≤ length value)

-- The attribute has these bytes in its value from `at` on; all else of it stays, each of its bytes too, and so whether it is the key
-- of an index.
pub record OverwritesValue (was now : Attribute) (at : ℕ) (from : List ℕ) : Type 0 where
  pub kind : now.kind ≡ was.kind
  pub name : now.name ≡ was.name
  pub id : now.id ≡ was.id
  pub flags : now.flags ≡ was.flags
  pub value : value_of now.body ≡ option_map (λ value. overwritten value at from) (value_of was.body)
  pub bytes : PutsBytes was.bytes now.bytes from (value_offset was.bytes 0 + at)
  pub indexed : slice_index now.bytes 0x16 ≡ slice_index was.bytes 0x16

-- The opened record of this number was sealed and written, where it is one of the table that was told to its end.
abbrev pub StagesHeld : VolumeView → VolumeView → ℕ → List ℕ → Type 0
StagesHeld old new n block =
    n < old.layout.count → IsApart old.layout → 1024 * n + 1024 ≤ old.layout.initialized
    → (stored : List ℕ) × Seals block stored × ReplacesBlock old new n stored

-- BYTES OF A PART WERE WRITTEN: its record holds these bytes in the part's value from `at` on, under the same header, and nothing else
-- of the volume changed.
pub record WritesBytes (old new : VolumeView) (part : Part) (at : ℕ) (from : List ℕ) : Type 0 where
  pub stored : List ℕ
  pub was : Attribute
  pub now : Attribute
  pub is : part_of part.holder was ≡ part
  pub record_is : RewritesRecord old new part.holder stored was now
  pub header_is : header_of (opened_of stored) ≡ header_of (opened_of (old.block part.holder))
  pub overwrites : OverwritesValue was now at from
