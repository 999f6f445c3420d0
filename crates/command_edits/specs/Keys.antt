-- THE ATTRIBUTES THAT CALLS NAME, and whole commands.
use Rattle.std.specs.Prelude.{◌≡◌, ℕ, ◌==◌, ◌&&◌, ◌||◌, Bool, true, false, List, [], codes, length, Contains}
use Rattle.std.specs.Str.{bytes_eq}
use Rattle.ntfs_def.specs.FileName.{FileName}
use Rattle.ntfs_def.specs.Units.{wide}
use Rattle.ntfs_def.specs.declared.kinds.TheConstants.{BITMAP, FILE_NAME, INDEX_ALLOCATION, INDEX_ROOT, STANDARD_INFORMATION}
use Rattle.edit_def.specs.Kept.{Key, key_of}
use Rattle.session_def.specs.Named.{is_index_kind}

abbrev pub no_key : Key → Bool
no_key key = false

-- the names of a file
abbrev pub is_name_key_of : ℕ → Key → Bool
is_name_key_of f key = (key.kind == FILE_NAME) && (key.file == f)

-- the index of a directory
abbrev pub is_index_key_of : ℕ → Key → Bool
is_index_key_of directory key = is_index_kind key.kind && (bytes_eq key.name (wide (codes "$I30")) && (key.file == directory))

-- all of a file
abbrev pub is_key_of : ℕ → Key → Bool
is_key_of f key = key.file == f

-- the $STANDARD_INFORMATION of a file
abbrev pub standard_key : ℕ → Key
standard_key f = key_of f STANDARD_INFORMATION []

-- ALL CALLS OF A COMMAND: what it names of its own file, the $STANDARD_INFORMATION of files, and the indexes of directories.
abbrev pub is_set_key : (ℕ → Bool) → Key → Bool
is_set_key files key = (key.kind == STANDARD_INFORMATION) && ((length key.name == 0) && files key.file)

abbrev pub is_told_key : (ℕ → Bool) → Key → Bool
is_told_key directories key = is_index_kind key.kind && (bytes_eq key.name (wide (codes "$I30")) && directories key.file)

abbrev pub is_command_key : (Key → Bool) → (ℕ → Bool) → (ℕ → Bool) → Key → Bool
is_command_key own files directories key = own key || (is_set_key files key || is_told_key directories key)

-- of these the names that are told anew stand in some
abbrev pub AreToldIn : (ℕ → Bool) → List (ℕ × FileName) → Type 0
AreToldIn directories entries = (entry : ℕ × FileName) → Contains entries entry → directories entry.1.parent.number ≡ true

-- no attribute of an index
pub record NamesNoIndex (changed : Key → Bool) : Type 0 where
  pub root : (n : ℕ) (name : List ℕ) → changed (key_of n INDEX_ROOT name) ≡ false
  pub records : (n : ℕ) (name : List ℕ) → changed (key_of n INDEX_ALLOCATION name) ≡ false
  pub bits : (n : ℕ) (name : List ℕ) → changed (key_of n BITMAP name) ≡ false
