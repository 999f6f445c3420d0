-- The streams of a file by their names.
use Rattle.std.specs.Prelude.{◌≡◌, ◌≢◌, ℕ, Bool, true, false, List, count_by, filter, map}
use Rattle.std.specs.Str.{bytes_eq}
use Rattle.ntfs_def.specs.Units.{units_in}
use Rattle.ntfs_def.specs.declared.kinds.TheConstants.{DATA}
use Rattle.volume_def.specs.CaseClause.{volume_fold}
use Rattle.volume_def.specs.Files.{parts, parts_at, records_of}
use Rattle.volume_def.specs.Readable.{IsReadableVolume}
use Rattle.volume_def.specs.Table.{cluster_bytes}
use Rattle.volume_def.specs.Values.{is_first}
use Rattle.volume_def.specs.View.{VolumeView}
use Rattle.edit_def.specs.Kept.{AreTellable, KeepsFile, Key, is_seen, key_of, told_of}
use Rattle.edit_def.specs.Names.{HasRightBases}
use Rattle.tree_model.specs.Reading.{begins_stream, shown_content}
use Rattle.tree_model.specs.declared.tree.Stream.{Stream}

-- the names of the first parts of its streams, in bytes
abbrev pub stream_names : VolumeView → ℕ → List (List ℕ)
stream_names view f = map (λ part. part.name) (filter begins_stream (parts (records_of view) f))

-- what a stream of this name shows
abbrev pub shown_as : VolumeView → ℕ → List ℕ → Stream
shown_as view f name = record { name = units_in name; content = shown_content view (parts_at view f DATA name) }

-- Of the streams of file f an edit names exactly the one of this name.
abbrev pub NamesStream : (Key → Bool) → ℕ → List ℕ → Type 0
NamesStream changed f name = (other : List ℕ) → changed (key_of f DATA other) ≡ bytes_eq other name

-- Of what the tree shows of file f an edit names nothing but streams.
abbrev pub IsUnseenButStreams : (Key → Bool) → ℕ → Type 0
IsUnseenButStreams changed f = (kind : ℕ) (name : List ℕ) → is_seen kind name ≡ true → kind ≢ DATA → changed (key_of f kind name) ≡ false

-- how many parts begin a stream of this name
abbrev pub times_begun : VolumeView → ℕ → List ℕ → ℕ
times_begun view f name = count_by is_first (parts_at view f DATA name)

-- AN EDIT OF ONE STREAM of file f: of the file's streams it names this one alone, and both volumes can be read, and compare names alike.
-- The names of the file's attributes can be told apart by their units.
pub record EditsStream (changed : Key → Bool) (old new : VolumeView) (f : ℕ) (name : List ℕ) : Type 0 where
  pub names : NamesStream changed f name
  pub kept : KeepsFile changed old new f
  pub tellable : AreTellable (told_of old f)
  pub readable : IsReadableVolume old
  pub readable_now : IsReadableVolume new
  pub bases : HasRightBases (records_of old)
  pub bases_now : HasRightBases (records_of new)
  pub size : cluster_bytes new.layout ≡ cluster_bytes old.layout
  pub fold : volume_fold new ≡ volume_fold old
