-- The sectors of the log that are emptied, as spans.
use Rattle.std.specs.Prelude.{◌≡◌, ◌+◌, ◌*◌, ◌/◌, ◌<◌, ◌≤◌, ◌&&◌, ℕ, List, Some, get_or, is_some, length, not, if◌then◌else◌}
use Rattle.std.specs.Option.{option_map_or}
use Rattle.ntfs_def.specs.Flags.{is_packed}
use Rattle.ntfs_def.specs.declared.run_text.Spot.{Spot}
use Rattle.ntfs_def.specs.declared.run_text.Spot.TheVariants.{At}
use Rattle.volume_def.specs.Table.{TableLayout}
use Rattle.volume_def.specs.Files.{Part, content_extent}
use Rattle.volume_def.specs.Values.{first_part, spot_at}
use Rattle.volume_def.specs.View.{VolumeView}
use Rattle.volume_edits.specs.Clusters.{stream_place}
use Rattle.mark_write.specs.declared.log.Span.{Span}
use Rattle.mark_write.specs.Logs.{IsWithin, no_span}
use Rattle.session_def.specs.Cost.{log_bytes, log_parts}

-- The sector of the disk is one of the first so many of a stream whose clusters lie so.
pub record IsSectorOf (layout : TableLayout) (spot : ℕ → Spot) (count sector : ℕ) : Type 0 where
  pub k : ℕ
  pub below : k < count
  pub is : stream_place layout spot k ≡ Some sector

-- It lies within one of the spans.
pub record IsInSpan (spans : List Span) (sector : ℕ) : Type 0 where
  pub i : ℕ
  pub among : i < length spans
  pub within : IsWithin (get_or spans i no_span) sector

-- The spans are these sectors, and no others.
pub record AreSpansOf (layout : TableLayout) (spot : ℕ → Spot) (count : ℕ) (spans : List Span) : Type 0 where
  pub covers : (sector : ℕ) → IsSectorOf layout spot count sector → IsInSpan spans sector
  pub inside : (sector : ℕ) → IsInSpan spans sector → IsSectorOf layout spot count sector

-- Each cluster of the stream has its sectors on a disk of so many.
abbrev pub LiesBelow : ℕ → ℕ → (ℕ → Spot) → Type 0
LiesBelow per sectors spot = (vcn cluster : ℕ) → spot vcn ≡ At cluster → cluster * per + per ≤ sectors

-- how many bytes were written of a stream with these parts: of one that is packed, or stands in a record, none
abbrev pub written_of : Part → ℕ
written_of part = if is_some (content_extent part.content) && not (is_packed part.kind part.flags)
    then option_map_or (λ extent. extent.sizes.initialized) (content_extent part.content) 0 else 0

abbrev pub clusters_written : List Part → ℕ
clusters_written extents = option_map_or written_of (first_part extents) 0

-- how many sectors of the log are emptied: those in which its first bytes stand, up to its initialized size
abbrev pub log_sectors : VolumeView → ℕ
log_sectors view = (log_bytes view + 511) / 512

-- THE SPANS ARE THE LOG'S.
abbrev pub AreLogSpans : VolumeView → List Span → Type 0
AreLogSpans view spans = AreSpansOf view.layout (spot_at (log_parts view)) (log_sectors view) spans
