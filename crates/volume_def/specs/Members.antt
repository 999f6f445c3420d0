-- Which parts a file has, record by record: the words of the laws on edits.
use Rattle.std.specs.Prelude.{◌≡◌, ◌<◌, ℕ, [], All, Contains, Some, None}
use Rattle.volume_def.specs.Edits.{ChangesAt}
use Rattle.volume_def.specs.Files.{Part, Record, Records, file_of}

-- Record n is in use, belongs to file f, and has this part.
pub record HoldsPart (records : Records) (f n : ℕ) (part : Part) : Type 0 where
  pub inside : n < records.count
  pub record_there : Record
  pub held : records.record_at n ≡ Some record_there
  pub file : file_of n record_there ≡ f
  pub among : Contains record_there.parts part

-- A part of file f stands in the record that it names as its holder.
abbrev pub IsPart : Records → ℕ → Part → Type 0
IsPart records f part = HoldsPart records f part.holder part

-- Each part names as its holder the record that it stands in.
abbrev pub NameHolders : Records → Type 0
NameHolders records = (n : ℕ) (r : Record) → records.record_at n ≡ Some r → All (λ part. part.holder ≡ n) r.parts

-- Record n, without parts, comes into use.
pub record TakesEmpty (old new : Records) (n : ℕ) : Type 0 where
  pub changes : ChangesAt old new n
  pub inside : n < old.count
  pub was_at : old.record_at n ≡ None
  pub now_record : Record
  pub now_at : new.record_at n ≡ Some now_record
  pub empty : now_record.parts ≡ []

-- Record n, without parts, goes out of use.
pub record FreesEmpty (old new : Records) (n : ℕ) : Type 0 where
  pub changes : ChangesAt old new n
  pub inside : n < old.count
  pub was_record : Record
  pub was_at : old.record_at n ≡ Some was_record
  pub empty : was_record.parts ≡ []
  pub now_at : new.record_at n ≡ None
