-- What an edit of the sizes of a stream makes of a record: the real and the initialized size, in the header of a non-resident attribute.
-- `block` is the opened record, and `at` the place of an attribute in it.
-- Layout: Linux-NTFS documentation, "Attribute Headers"; Carrier, File System Forensic Analysis, chapter 13, the data structure
-- of a non-resident attribute.
use Rattle.std.specs.Prelude.{◌≡◌, ℕ, ◌+◌, List}
use Rattle.vol_bytes.specs.Field.{SameOutside}
use Rattle.ntfs_def.specs.Attribute.{Body, ExtentHeader, NonResident, Resident, attribute_place, initialized_len, real_len}
use Rattle.attr_view.specs.Values.{ChangesBody, attribute_in}

-- The two sizes stand at 0x30 and 0x38 of the attribute at `at`, and no other byte changed.
pub record PutsSizes (old new : List ℕ) (at real initialized : ℕ) : Type 0 where
  pub real_is : real_len new at ≡ real
  pub initialized_is : initialized_len new at ≡ initialized
  pub rest : SameOutside old new (at + 0x30) (at + 0x40)

-- the numbers of an extent, but for these two
abbrev pub with_sizes : ExtentHeader → ℕ → ℕ → ExtentHeader
with_sizes extent real initialized = record extent { sizes = record extent.sizes { real = real; initialized = initialized } }

-- the same of what an attribute holds; a value has no such sizes
abbrev pub body_with_sizes : Body → ℕ → ℕ → Body
body_with_sizes (Resident value) real initialized = Resident value
body_with_sizes (NonResident extent text) real initialized = NonResident (with_sizes extent real initialized) text

-- The two sizes of attribute i were set. Its other numbers and its run text stay.
pub record SetsSizes (old new : List ℕ) (i real initialized : ℕ) : Type 0 where
  pub bytes : PutsSizes old new (attribute_place old i) real initialized
  pub changes : ChangesBody old new i
  pub body : (attribute_in new i).body ≡ body_with_sizes (attribute_in old i).body real initialized
