-- What a pass over the table has noted when it has come to a record.
use Rattle.std.specs.Prelude.{◌≡◌, ℕ, ◌<◌}
use Rattle.volume_def.specs.AttributesClause.{MeetsAttributes}
use Rattle.volume_def.specs.Files.{Records}
use Rattle.record_notes.specs.declared.facts.Facts.{Facts}
use Rattle.record_notes.specs.Heads.{HeadsNote}
use Rattle.list_laws.specs.Least.{IsLeastBelow}
use Rattle.record_notes.specs.Limits.{LongNote}
use Rattle.record_notes.specs.Names.{NamesNote}
use Rattle.record_notes.specs.Owners.{OwnersNote, clusters_noted}
use Rattle.record_notes.specs.Spread.{SpreadNote}
use Rattle.record_notes.specs.Streams.{SamePlaces, StreamsNote}
use Rattle.record_notes.specs.Unlisted.{UnlistedNote, bytes_noted}
use Rattle.record_notes.specs.Used.{UsedNote, records_noted}

-- What is noted of the records below n where each of them has right attributes.
pub record RightNote (records : Records) (n : ℕ) (facts : Facts) : Type 0 where
  pub unlisted : UnlistedNote records n facts.unlisted
  pub owners : OwnersNote records n facts.owners
  pub used : UsedNote records n facts.used
  pub heads : HeadsNote records n facts.heads
  pub names : NamesNote records n facts.names
  pub spread : SpreadNote records n facts.spread
  pub streams : StreamsNote records n facts.streams
  pub long : LongNote records n facts.long

-- What is noted of the records below n: the first whose attributes are wrong, and of right ones all else.
pub record FactsNote (records : Records) (n : ℕ) (facts : Facts) : Type 0 where
  pub attributes : IsLeastBelow (MeetsAttributes records) n facts.first_wrong
  pub right : ((k : ℕ) → k < n → MeetsAttributes records k) → RightNote records n facts

-- the records of the table, of which there is room for notes
abbrev pub records_known : Facts → ℕ
records_known facts = records_noted facts.used

-- The facts are of the same volume: of as many records and clusters, of the same size.
pub record SameVolume (old new : Facts) : Type 0 where
  pub records : records_known new ≡ records_known old
  pub clusters : clusters_noted new.owners ≡ clusters_noted old.owners
  pub cluster_bytes : bytes_noted new.unlisted ≡ bytes_noted old.unlisted
  pub streams : SamePlaces old.streams new.streams
