-- The streams whose values are checked, as a pass over the table notes them: by the parts that the records below a number hold.
use Rattle.std.specs.Prelude.{◌≡◌, ◌↔◌, ◌-◌, ◌^◌, ◌<◌, ℕ, List, [], map, filter, length, min, All, IsSome, IsTrue, Option, Some, None}
use Rattle.std.specs.Int.{div_ceil}
use Rattle.std.specs.List.{flat_map, range_with_len}
use Rattle.std.specs.Option.{option_map}
use Rattle.ntfs_def.specs.declared.kinds.TheConstants.{BITMAP, DATA}
use Rattle.ntfs_def.specs.declared.run_text.Spot.{Spot}
use Rattle.ntfs_def.specs.declared.records.TheConstants.{CLUSTER_BITMAP, MFT, UPCASE}
use Rattle.ntfs_def.specs.Attribute.{Attribute}
use Rattle.ntfs_def.specs.Flags.{is_packed}
use Rattle.ntfs_def.specs.KeyOrder.{case_table_len}
use Rattle.volume_def.specs.BitmapClauses.{HasNoHole, written_in}
use Rattle.volume_def.specs.Files.{Part, Records, all_covered, content_extent, content_value, is_of, part_of, parts_in}
use Rattle.volume_def.specs.StreamSize.{real_size}
use Rattle.volume_def.specs.Values.{first_part, spot_at}
use Rattle.record_notes.specs.declared.streams.FirstPart.{FirstPart}
use Rattle.record_notes.specs.declared.streams.Placement.{Placement}
use Rattle.record_notes.specs.declared.streams.StreamNote.{StreamNote}
use Rattle.record_notes.specs.declared.streams.Streams.{Streams}
use Rattle.record_notes.specs.Skips.{noted_at}

-- The part tells these sizes.
pub record TellsSizes (part : Part) (first : FirstPart) : Type 0 where
  pub packed : first.packed ≡ is_packed part.kind part.flags
  pub len : first.len ≡ real_size part.content
  pub written : first.written ≡ written_in part.content
  pub value : option_map (λ bytes. bytes.items) first.value ≡ content_value part.content

-- the same where there may be none
abbrev pub TellsSizesIn : Option Part → Option FirstPart → Type 0
TellsSizesIn None None = Unit {0}
TellsSizesIn None (Some first) = ⊥
TellsSizesIn (Some part) None = ⊥
TellsSizesIn (Some part) (Some first) = TellsSizes part first

-- What is told of the clusters of these parts.
pub record TellsPlaces (extents : List Part) (placement : Placement) : Type 0 where
  pub placed : IsTrue placement.placed ↔ HasNoHole extents
  pub in_clusters : IsTrue placement.in_clusters ↔ All (λ part. IsSome (content_extent part.content)) extents
  pub covered : placement.covered ≡ min (2 ^ 64 - 1) (all_covered extents)

-- the clusters of a stream, from its first on, of which it is noted where they lie
abbrev pub places_in : StreamNote → ℕ
places_in note = length note.spots.spots.items

-- what is noted of a cluster of the stream
abbrev pub spot_noted : StreamNote → ℕ → Spot
spot_noted note vcn = noted_at note.spots.spots.items vcn

-- What is noted is what the definitions say of a stream of these parts.
pub record NotesStream (extents : List Part) (note : StreamNote) : Type 0 where
  pub first : TellsSizesIn (first_part extents) note.first
  pub placement : TellsPlaces extents note.placement
  pub spots : (vcn : ℕ) → vcn < places_in note → spot_noted note vcn ≡ spot_at extents vcn

-- the parts of a type without a name among the attributes of record n
abbrev pub unnamed_parts : ℕ → ℕ → List Attribute → List Part
unnamed_parts kind n attributes = filter (is_of kind []) (map (part_of n) attributes)

-- the parts of file f that the records below n hold
unfoldable pub parts_below : Records → ℕ → ℕ → List Part
parts_below records f n = flat_map (λ m. parts_in (records.record_at m) m f) (range_with_len 0 n)

-- those of its stream of a type without a name
abbrev pub stream_below : Records → ℕ → ℕ → ℕ → List Part
stream_below records f kind n = filter (is_of kind []) (parts_below records f n)

-- The streams of both bitmaps and of the table of case are noted, as far as the records below n hold them.
pub record StreamsNote (records : Records) (n : ℕ) (streams : Streams) : Type 0 where
  pub cluster_bits : NotesStream (stream_below records CLUSTER_BITMAP DATA n) streams.cluster_bits
  pub record_bits : NotesStream (stream_below records MFT BITMAP n) streams.record_bits
  pub case_table : NotesStream (stream_below records UPCASE DATA n) streams.case_table

-- There is a place for each cluster, of so many bytes, that is needed: for a bit for each cluster and each record, and for a
-- table of case.
pub record HasPlaces (clusters count size : ℕ) (streams : Streams) : Type 0 where
  pub cluster_bits : places_in streams.cluster_bits ≡ div_ceil (div_ceil clusters 8) size
  pub record_bits : places_in streams.record_bits ≡ div_ceil (div_ceil count 8) size
  pub case_table : places_in streams.case_table ≡ div_ceil case_table_len size

-- There are as many places as before.
pub record SamePlaces (old new : Streams) : Type 0 where
  pub cluster_bits : places_in new.cluster_bits ≡ places_in old.cluster_bits
  pub record_bits : places_in new.record_bits ≡ places_in old.record_bits
  pub case_table : places_in new.case_table ≡ places_in old.case_table
