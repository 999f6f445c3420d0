-- What the flags of an attribute say.
-- Layout: Linux-NTFS documentation, "Attribute Headers"; Carrier, File System Forensic Analysis, chapter 13, the flags of an
-- attribute.
use Rattle.std.specs.Prelude.{ℕ, ◌/◌, ◌%◌, ◌==◌, ◌&&◌, ◌||◌, nat_lt, nat_le, not, Bool}
use Rattle.ntfs_def.specs.declared.flags.TheConstants.{ENCRYPTED, SPARSE}
use Rattle.ntfs_def.specs.declared.kinds.TheConstants.{INDEX_ROOT}

-- the low byte says how it is compressed
abbrev pub is_compressed : ℕ → Bool
is_compressed flags = nat_lt 0 (flags % 256)

abbrev pub is_encrypted : ℕ → Bool
is_encrypted flags = flags / ENCRYPTED % 2 == 1

-- the flag of a sparse attribute is the highest one
abbrev pub is_sparse : ℕ → Bool
is_sparse flags = nat_le SPARSE flags

-- Packed attributes are those whose content this project never reads. On $INDEX_ROOT the flags speak of new files alone.
abbrev pub is_packed : ℕ → ℕ → Bool
is_packed kind flags = not (kind == INDEX_ROOT) && (is_compressed flags || is_encrypted flags)
