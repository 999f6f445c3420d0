-- DOS names and their partners, among the keys of names.
use Rattle.std.specs.Prelude.{◌≡◌, ℕ, ◌+◌, ◌*◌, ◌%◌, ◌^◌, ◌<◌, ◌≤◌, ◌==◌, ◌&&◌, Bool, List, count_by}
use Rattle.record_notes.specs.declared.names.NameFact.{NameFact}
use Rattle.volume_clauses.specs.declared.pairs.NameKey.{NameKey}

-- the key of a name
abbrev pub key_of : NameFact → NameKey
key_of name = record { file = name.file; directory = name.parent % 2 ^ 48; namespace = name.namespace }

-- a directory's number has 48 bits, a namespace 8
pub record IsInRange (key : NameKey) : Type 0 where
  pub directory : key.directory < 2 ^ 48
  pub namespace : key.namespace < 2 ^ 8

-- the names of this file, in this directory and of this namespace
abbrev pub is_key : ℕ → ℕ → ℕ → NameKey → Bool
is_key file directory namespace key = (key.file == file) && ((key.namespace == namespace) && (key.directory == directory))

abbrev pub times_named : List NameKey → ℕ → ℕ → ℕ → ℕ
times_named keys file directory namespace = count_by (is_key file directory namespace) keys

-- A DOS name of the file in the directory has its partner, and is the only one there.
pub record IsPaired (keys : List NameKey) (file directory : ℕ) : Type 0 where
  pub long : 1 ≤ times_named keys file directory 1
  pub alone : times_named keys file directory 2 ≤ 1

-- the same, where the name is a DOS name
abbrev pub IsPairedName : List NameKey → NameKey → Type 0
IsPairedName keys key = key.namespace ≡ 2 → IsPaired keys key.file key.directory

-- each DOS name of the file
abbrev pub ArePaired : List NameKey → ℕ → Type 0
ArePaired keys file = (directory : ℕ) → 1 ≤ times_named keys file directory 2 → IsPaired keys file directory

-- The place of a key in the order: by file, then by directory, then by namespace.
abbrev pub order_in : ℕ → ℕ → ℕ → ℕ
order_in file directory namespace = (file * 2 ^ 48 + directory) * 2 ^ 8 + namespace

abbrev pub order_of : NameKey → ℕ
order_of key = order_in key.file key.directory key.namespace
