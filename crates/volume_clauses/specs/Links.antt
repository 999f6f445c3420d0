-- The clause on links, S11, in two parts, and what is decided of each record.
use Rattle.std.specs.Prelude.{◌≡◌, ◌≢◌, ℕ, ◌≤◌, Bool, All, Option, IfSome, IsSomeAnd, IsTrue, count_by, length}
use Rattle.ntfs_def.specs.declared.records.TheConstants.{FIRST_ORDINARY, ROOT}
use Rattle.volume_def.specs.FileNames.{is_not_dos, names_of}
use Rattle.volume_def.specs.Files.{Record, Records, is_base}
use Rattle.volume_def.specs.LinksClause.{IsPairedAmong, ReachesRoot}
use Rattle.volume_def.specs.Files.{is_directory}
use Rattle.record_notes.specs.declared.heads.Head.{Head}
use Rattle.volume_clauses.specs.declared.tallies.Tally.{Tally}

-- Each DOS name of file f has its partner, and is the only one in its directory.
abbrev pub HasPairs : Records → ℕ → Type 0
HasPairs records f = All (IsPairedAmong (names_of records f)) (names_of records f)

-- The names of a base record are as many as it says, and a directory has one and leads to the root by it.
pub record HasRightFiling (records : Records) (f : ℕ) (r : Record) : Type 0 where
  pub named : FIRST_ORDINARY ≤ f → 1 ≤ length (names_of records f)
  pub count : FIRST_ORDINARY ≤ f → r.header.links ≡ length (names_of records f)
  pub once : f ≢ ROOT → IsTrue (is_directory r) → count_by is_not_dos (names_of records f) ≡ 1
  pub rooted : f ≢ ROOT → IsTrue (is_directory r) → ReachesRoot records f

-- the rest of the clause
pub record MeetsFiling (records : Records) (f : ℕ) : Type 0 where
  pub links : IfSome (records.record_at f) (λ r. IsTrue (is_base r) → HasRightFiling records f r)
  pub root : f ≡ ROOT → IsSomeAnd (records.record_at ROOT) (λ r. IsTrue (is_base r) × IsTrue (is_directory r))

-- the same of what is noted of a record
pub record IsLinked (f : ℕ) (head : Head) (tally : Tally) (reaches : Bool) : Type 0 where
  pub named : FIRST_ORDINARY ≤ f → 1 ≤ tally.names
  pub count : FIRST_ORDINARY ≤ f → head.links ≡ tally.names
  pub once : f ≢ ROOT → IsTrue head.directory → tally.not_dos ≡ 1
  pub rooted : f ≢ ROOT → IsTrue head.directory → IsTrue reaches

pub record IsFiled (f : ℕ) (head : Option Head) (tally : Tally) (reaches : Bool) : Type 0 where
  pub links : IfSome head (λ h. h.base ≡ 0 → IsLinked f h tally reaches)
  pub root : f ≡ ROOT → IsSomeAnd head (λ h. (h.base ≡ 0) × IsTrue h.directory)
