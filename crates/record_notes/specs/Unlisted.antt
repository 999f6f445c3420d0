-- The clause on extents over files that stand in one record, as a pass over the table notes them, and over the others.
use Rattle.std.specs.Prelude.{ℕ, ◌&&◌, not, Bool, IfSome, IsTrue}
use Rattle.std.specs.List.{list_any}
use Rattle.volume_def.specs.Files.{Record, Records, is_base, parts}
use Rattle.volume_def.specs.ListsClause.{is_list}
use Rattle.record_notes.specs.declared.unlisted.UnlistedFiles.{UnlistedFiles}
use Rattle.file_clauses.specs.Extents.{AreWholeParts, IsAlone}
use Rattle.list_laws.specs.Least.{IsLeastBelow}

-- a base record without an attribute list
abbrev pub is_unlisted : Record → Bool
is_unlisted r = is_base r && not (list_any is_list r.parts)

-- such a record holds whole attributes
abbrev pub IsUnlistedWhole : ℕ → ℕ → Record → Type 0
IsUnlistedWhole size n r = IsTrue (is_unlisted r) → AreWholeParts size n r.parts

abbrev pub MeetsUnlisted : Records → ℕ → ℕ → Type 0
MeetsUnlisted records size n = IfSome (records.record_at n) (IsUnlistedWhole size n)

-- the bytes of a cluster, by which sizes are judged
abbrev pub bytes_noted : UnlistedFiles → ℕ
bytes_noted files = files.cluster_bytes

-- What is noted of the records below n.
abbrev pub UnlistedNote : Records → ℕ → UnlistedFiles → Type 0
UnlistedNote records n files = IsLeastBelow (MeetsUnlisted records (bytes_noted files)) n files.first_wrong

-- What the clause asks of a file whose base record has an attribute list.
abbrev pub MeetsListed : Records → ℕ → ℕ → Type 0
MeetsListed records size n = IfSome (records.record_at n) (λ r. IsTrue (is_base r) → IsTrue (list_any is_list r.parts)
    → AreWholeParts size n (parts records n))

-- A file without a list has no extension record, as the clause on lists asks.
abbrev pub MeetsAlone : Records → ℕ → Type 0
MeetsAlone records n = IfSome (records.record_at n) (λ r. IsTrue (is_unlisted r) → IsAlone records n)

abbrev pub AreUnlistedAlone : Records → Type 0
AreUnlistedAlone records = (n : ℕ) → MeetsAlone records n
