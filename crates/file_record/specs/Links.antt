-- What a file that is held is after its links were counted anew, in its base record.
use Rattle.std.specs.Prelude.{◌≡◌, ℕ, List, map, Contains, length}
use Rattle.ntfs_def.specs.Attribute.{attributes}
use Rattle.ntfs_def.specs.Record.{header_of, is_in_use}
use Rattle.ntfs_def.specs.Shape.{HasShape}
use Rattle.volume_edits.specs.Rewritten.{with_links}
use Rattle.file_record.specs.declared.parts.FileParts.{FileParts}
use Rattle.file_record.specs.Held.{file_number, held_of}

-- The opened record counts so many links, and has all else of its header and all attributes as before.
pub record SetsLinks (old new : List ℕ) (links : ℕ) : Type 0 where
  pub shape : HasShape new (length (attributes new))
  pub header : header_of new ≡ with_links (header_of old) links
  pub in_use : is_in_use new ≡ is_in_use old
  pub attributes : attributes new ≡ attributes old

-- the numbers of the records that are held
abbrev pub numbers_held : FileParts → List ℕ
numbers_held file = map (λ one. one.number) (held_of file)

-- The base record is among those held.
abbrev pub HoldsBase : FileParts → Type 0
HoldsBase file = Contains (numbers_held file) (file_number file)

-- The same records are held, of the same file.
pub record HoldsSame (old new : FileParts) : Type 0 where
  pub file : file_number new ≡ file_number old
  pub records : numbers_held new ≡ numbers_held old
