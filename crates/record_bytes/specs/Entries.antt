-- The entries of an index as bytes, and the value of `$INDEX_ROOT`, of numbers that are small.
-- Layout: as in `Node` and `FileName` of ntfs_def; Linux-NTFS documentation, "Index Root" and "Index Entry".
use Rattle.std.specs.Prelude.{ℕ, ◌+◌, List, [], ◌∷◌, ◌++◌, length, replicate}
use Rattle.record_bytes.specs.AttributeBytes.{fill_to_8}
use Rattle.ntfs_def.specs.Rounded.{up_to_8}

-- a number in two and in four bytes, the lower first; each is below 256
abbrev pub two_bytes : ℕ → List ℕ
two_bytes n = n ∷ 0 ∷ []

abbrev pub four_bytes : ℕ → List ℕ
four_bytes n = n ∷ 0 ∷ 0 ∷ 0 ∷ []

-- the reference of a record whose number and sequence number are below 256
abbrev pub reference_bytes : ℕ → ℕ → List ℕ
reference_bytes number sequence = number ∷ 0 ∷ 0 ∷ 0 ∷ 0 ∷ 0 ∷ sequence ∷ 0 ∷ []

-- $INDEX_ROOT: what it indexes, how its keys are compared, index records of 4,096 bytes, in so many clusters; then the header of a node
abbrev pub index_root : ℕ → ℕ → ℕ → ℕ → List ℕ → List ℕ
index_root kind collation clusters children entries =
    four_bytes kind ++ four_bytes collation ++ (0 ∷ 0x10 ∷ 0 ∷ 0 ∷ clusters ∷ 0 ∷ 0 ∷ 0 ∷ [])
    ++ four_bytes 16 ++ four_bytes (16 + length entries) ++ four_bytes (16 + length entries) ++ four_bytes children ++ entries

-- the last entry of a node without children, and one that leads to the index record 0
abbrev pub last_entry : List ℕ
last_entry = replicate 8 0 ++ (16 ∷ 0 ∷ 0 ∷ 0 ∷ 2 ∷ 0 ∷ 0 ∷ 0 ∷ [])

abbrev pub last_above : List ℕ
last_above = replicate 8 0 ++ (24 ∷ 0 ∷ 0 ∷ 0 ∷ 3 ∷ 0 ∷ 0 ∷ 0 ∷ replicate 8 0)

-- a directory's entry of a name: the file's reference, the lengths, no flags, the name
abbrev pub name_entry : List ℕ → List ℕ → List ℕ
name_entry reference name =
    reference ++ two_bytes (16 + up_to_8 (length name)) ++ two_bytes (length name) ++ four_bytes 0 ++ name ++ fill_to_8 (length name)

-- an entry of a view index: where its data stands and how long it is, the lengths, no flags, the key, the data
abbrev pub view_entry : List ℕ → List ℕ → List ℕ
view_entry key content =
    two_bytes (16 + length key) ++ two_bytes (length content) ++ four_bytes 0
    ++ two_bytes (16 + up_to_8 (length key + length content)) ++ two_bytes (length key) ++ four_bytes 0
    ++ key ++ content ++ fill_to_8 (length key + length content)
