-- The streams of a volume that are too long, as a pass over the table notes them.
use Rattle.std.specs.Prelude.{◌≡◌, ◌<◌, ℕ, Option, Some, None, All}
use Rattle.volume_def.specs.Files.{Record, Records, file_of}
use Rattle.volume_def.specs.LimitsClause.{IsInLimits}
use Rattle.record_notes.specs.declared.limits.LongStreams.{LongStreams}

-- No part that record n holds is of a stream that is too long for its file.
abbrev pub KeepsLimits : Records → ℕ → Type 0
KeepsLimits records n = (r : Record) → records.record_at n ≡ Some r → All (IsInLimits (file_of n r)) r.parts

-- Record n belongs to file f, and holds a part of a stream that is too long.
pub record BreaksLimits (records : Records) (f n : ℕ) : Type 0 where
  pub record_there : Record
  pub at : records.record_at n ≡ Some record_there
  pub file : file_of n record_there ≡ f
  pub broken : ¬ (All (IsInLimits f) record_there.parts)

-- the file of record n, where the record holds such a part
abbrev pub IsLongIn : Records → ℕ → Option ℕ → Type 0
IsLongIn records n None = KeepsLimits records n
IsLongIn records n (Some f) = BreaksLimits records f n

-- no part that record n holds is of a stream that is too long for its file, if the file is one before file f
abbrev pub KeepsBelow : Records → ℕ → ℕ → Type 0
KeepsBelow records f n = (r : Record) → records.record_at n ≡ Some r → file_of n r < f → All (IsInLimits (file_of n r)) r.parts

-- the least file of which one of the records below n holds a part of a stream that is too long
abbrev pub IsLeastLong : Records → ℕ → Option ℕ → Type 0
IsLeastLong records n None = (m : ℕ) → m < n → KeepsLimits records m
IsLeastLong records n (Some f) = ((m : ℕ) × (m < n) × BreaksLimits records f m) × ((m : ℕ) → m < n → KeepsBelow records f m)

-- What is noted of the records below n.
abbrev pub LongNote : Records → ℕ → LongStreams → Type 0
LongNote records n long = IsLeastLong records n long.least
