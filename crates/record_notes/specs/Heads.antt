-- What is noted of the headers of records.
use Rattle.std.specs.Prelude.{◌≡◌, ℕ, ◌<◌, ◌≤◌, Option, Some, None, length, slice_index_or}
use Rattle.std.specs.List.{list_any}
use Rattle.ntfs_def.specs.Record.{base_in}
use Rattle.volume_def.specs.Files.{Record, Records}
use Rattle.volume_def.specs.Files.{is_directory}
use Rattle.volume_def.specs.ListsClause.{is_list}
use Rattle.record_notes.specs.declared.heads.Head.{Head}
use Rattle.record_notes.specs.declared.heads.Heads.{Heads}

-- The header of the record says so.
pub record IsHead (r : Record) (head : Head) : Type 0 where
  pub base : base_in head.base ≡ r.header.base
  pub sequence : head.sequence ≡ r.header.sequence
  pub links : head.links ≡ r.header.links
  pub directory : head.directory ≡ is_directory r
  pub listed : head.listed ≡ list_any is_list r.parts

-- the same where the record may not be in use
abbrev pub IsHeadIn : Option Record → Option Head → Type 0
IsHeadIn None None = Unit {0}
IsHeadIn None (Some head) = ⊥
IsHeadIn (Some r) None = ⊥
IsHeadIn (Some r) (Some head) = IsHead r head

abbrev pub head_at : Heads → ℕ → Option Head
head_at heads n = slice_index_or heads.heads.items n None

-- The records below n are noted.
pub record HeadsNote (records : Records) (n : ℕ) (heads : Heads) : Type 0 where
  pub count : length heads.heads.items ≡ n
  pub each : (k : ℕ) → k < n → IsHeadIn (records.record_at k) (head_at heads k)

-- no record past the last is in use
abbrev pub EndsAtCount : Records → Type 0
EndsAtCount records = (n : ℕ) → records.count ≤ n → records.record_at n ≡ None
