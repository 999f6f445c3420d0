-- An attribute as bytes: its name behind the header, and its value or its run text at the next multiple
-- of 8. Layout: as in `Attribute` of ntfs_def; the places are this project's choice.
use Rattle.std.specs.Prelude.{◌≡◌, ℕ, ◌+◌, ◌-◌, ◌/◌, ◌^◌, ◌<◌, ◌==◌, List, [], ◌∷◌, ◌++◌, length, replicate, Some, None, if◌then◌else◌}
use Rattle.byteorder.specs.Endian.{little_bytes}
use Rattle.data_runs.specs.Written.{IsWritten}
use Rattle.ntfs_def.specs.declared.kinds.TheConstants.{FILE_NAME}
use Rattle.ntfs_def.specs.declared.run_text.Run.{Run}
use Rattle.ntfs_def.specs.declared.sizes.Sizes.{Sizes}
use Rattle.ntfs_def.specs.Attribute.{attribute_at}
use Rattle.volume_def.specs.Files.{Clusters, Content, Part, part_of}
use Rattle.ntfs_def.specs.Rounded.{up_to_8}

-- the zeros that fill bytes up to it
abbrev pub fill_to_8 : ℕ → List ℕ
fill_to_8 n = replicate (up_to_8 n - n) 0

-- bytes, and zeros up to the next multiple of 8
abbrev pub padded_bytes : List ℕ → List ℕ
padded_bytes bytes = bytes ++ fill_to_8 (length bytes)

-- A resident attribute.

-- where its value begins, and its bytes
abbrev pub value_at : List ℕ → ℕ
value_at name = 24 + up_to_8 (length name)

abbrev pub resident_len : List ℕ → List ℕ → ℕ
resident_len name value = value_at name + up_to_8 (length value)

-- a name of a file is the key of an index
abbrev pub indexed_byte : ℕ → ℕ
indexed_byte kind = if kind == FILE_NAME then 1 else 0

abbrev pub resident_header : ℕ → List ℕ → ℕ → ℕ → List ℕ → List ℕ
resident_header kind name id indexed value =
    little_bytes 4 kind ++ little_bytes 4 (resident_len name value)
    ++ (0 ∷ length name / 2 ∷ 24 ∷ 0 ∷ 0 ∷ 0 ∷ []) ++ little_bytes 2 id
    ++ little_bytes 4 (length value) ++ little_bytes 2 (value_at name) ++ (indexed ∷ 0 ∷ [])

unfoldable pub resident_bytes : ℕ → List ℕ → ℕ → List ℕ → List ℕ
resident_bytes kind name id value = resident_header kind name id (indexed_byte kind) value ++ (padded_bytes name ++ padded_bytes value)

-- A non-resident attribute.

-- where its run text begins
abbrev pub runs_at : List ℕ → ℕ
runs_at name = 64 + up_to_8 (length name)

-- the header, before a run text of so many bytes
abbrev pub extent_header : ℕ → List ℕ → ℕ → Sizes → ℕ → List ℕ
extent_header kind name id sizes text_len =
    little_bytes 4 kind ++ little_bytes 4 (runs_at name + text_len)
    ++ (1 ∷ length name / 2 ∷ 64 ∷ 0 ∷ 0 ∷ 0 ∷ []) ++ little_bytes 2 id
    ++ little_bytes 8 sizes.first ++ little_bytes 8 sizes.last
    ++ little_bytes 2 (runs_at name) ++ (0 ∷ 0 ∷ 0 ∷ 0 ∷ 0 ∷ 0 ∷ [])
    ++ little_bytes 8 sizes.allocated ++ little_bytes 8 sizes.real ++ little_bytes 8 sizes.initialized

unfoldable pub extent_bytes : ℕ → List ℕ → ℕ → Sizes → List ℕ → List ℕ
extent_bytes kind name id sizes text = extent_header kind name id sizes (length text) ++ (padded_bytes name ++ text)

-- The numbers fit in their fields.
pub record FitFields (sizes : Sizes) : Type 0 where
  pub allocated : sizes.allocated < 2 ^ 64
  pub real : sizes.real < 2 ^ 64
  pub initialized : sizes.initialized < 2 ^ 64
  pub first : sizes.first < 2 ^ 64
  pub last : sizes.last < 2 ^ 64

-- The text is the written form of one run, filled up to a multiple of 8.
pub record IsRunTextOf (run : Run) (text : List ℕ) : Type 0 where
  pub written : List ℕ
  pub is : IsWritten (run ∷ []) written
  pub filled : text ≡ padded_bytes written

-- The bytes are those of an extent in this run.
pub record IsExtent (bytes : List ℕ) (kind : ℕ) (name : List ℕ) (id : ℕ) (sizes : Sizes) (run : Run) : Type 0 where
  pub text : List ℕ
  pub is : IsRunTextOf run text
  pub all : bytes ≡ extent_bytes kind name id sizes text

-- a stream in one run
abbrev pub one_run : Sizes → Run → Content
one_run sizes run = Clusters (record { sizes = sizes; compressed = None }) (Some (run ∷ []))

-- A part of a file with these fields, in record n.
abbrev pub part : ℕ → ℕ → List ℕ → ℕ → Content → Part
part n kind name id content = record { holder = n; kind = kind; name = name; id = id; flags = 0; content = content }

-- The bytes are this part of a file, whatever record holds it.
abbrev pub IsPartBytes : List ℕ → ℕ → List ℕ → ℕ → Content → Type 0
IsPartBytes bytes kind name id content = (n : ℕ) → part_of n (attribute_at bytes 0) ≡ part n kind name id content
