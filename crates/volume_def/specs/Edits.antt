-- What an edit of one record changes of the records of a volume.
use Rattle.std.specs.Prelude.{◌≡◌, ◌≢◌, ℕ, ◌<◌, List, [], ◌∷◌, Some}
use Rattle.ntfs_def.specs.Record.{Header}
use Rattle.volume_def.specs.Files.{Content, Part, Record, Records, file_of}
use Rattle.list_laws.specs.Replaces.{Replaces}

-- All records but n stay.
pub record ChangesAt (old new : Records) (n : ℕ) : Type 0 where
  pub count : new.count ≡ old.count
  pub others : (m : ℕ) → m ≢ n → new.record_at m ≡ old.record_at m

-- The header stays, but for the id that the next attribute gets.
pub record KeepsRecordHeader (was now : Header) : Type 0 where
  pub sequence : now.sequence ≡ was.sequence
  pub links : now.links ≡ was.links
  pub flags : now.flags ≡ was.flags
  pub base : now.base ≡ was.base
  pub number : now.number ≡ was.number

-- Record n stays in use with its header, and has the parts `now` in place of `was`.
pub record EditsAt (old new : Records) (n : ℕ) (was now : List Part) : Type 0 where
  pub changes : ChangesAt old new n
  pub inside : n < old.count
  pub was_record : Record
  pub now_record : Record
  pub was_at : old.record_at n ≡ Some was_record
  pub now_at : new.record_at n ≡ Some now_record
  pub header : KeepsRecordHeader was_record.header now_record.header
  pub edit : Replaces was_record.parts now_record.parts was now

-- what a part says, wherever it stands and under whichever id
pub record Said : Type 0 where
  pub kind : ℕ
  pub name : List ℕ
  pub flags : ℕ
  pub content : Content

abbrev pub said_by : Part → Said
said_by part = record { kind = part.kind; name = part.name; flags = part.flags; content = part.content }

-- A part goes from one record of a file to another, where it may have another id.
pub record MovesPart (old new : Records) (from to : ℕ) (was now : Part) : Type 0 where
  pub apart : from ≢ to
  pub between : Records
  pub leaves : EditsAt old between from (was ∷ []) []
  pub comes : EditsAt between new to [] (now ∷ [])
  pub same : said_by now ≡ said_by was
  pub file : file_of to comes.was_record ≡ file_of from leaves.was_record
