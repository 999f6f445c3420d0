-- How much of the log was written, by the parts of its file.
use Rattle.std.proofs.Math.Nat.{add-mul, mul-le-mul_right}
use Rattle.std.proofs.Common.{◌≡◌, ◌*◌, ◌<◌, ◌≤◌, ◌&&◌, ℕ, true, cond, List, [], Option, Some, None, inr, refl, sym, ap, subst, ◌∙◌, arith}
use Rattle.std.specs.Prelude.{IsSomeAnd, IsTrue, filter, is_some, not}
use Rattle.std.specs.Option.{option_map_or}
use Rattle.ntfs_def.specs.Flags.{is_packed}
use Rattle.ntfs_def.specs.declared.kinds.TheConstants.{DATA}
use Rattle.ntfs_def.specs.declared.records.TheConstants.{LOG_FILE}
use Rattle.volume_def.specs.Files.{Part, content_extent, is_base, is_of, parts, record_on, records_of}
use Rattle.volume_def.specs.Readable.{IsFile}
use Rattle.volume_def.specs.ReferencesClause.{MeetsReferences}
use Rattle.volume_def.specs.Values.{first_part, spot_at}
use Rattle.volume_def.specs.View.{VolumeView}
use Rattle.volume_def.proofs.FileLaws.{no-parts}
use Rattle.volume_edits.specs.Owners.{HasOwners}
use Rattle.volume_edits.proofs.StreamClusters.{stream-own}
use Rattle.file_record.specs.Held.{AreParts, file_number}
use Rattle.file_record.specs.declared.parts.FileParts.{FileParts}
use Rattle.attr_store.specs.First.{attribute_held}
use Rattle.session_def.specs.Cost.{log_bytes, log_parts, log_size}
use Rattle.mark_write.specs.Logs.{span_sectors}
use Rattle.mark_write.specs.declared.log.Span.{Span}
use Rattle.mark_place.specs.LogSpans.{AreLogSpans, AreSpansOf, LiesBelow, clusters_written, log_sectors, written_of}
use Rattle.mark_place.proofs.SpanLaws.{no-spans}

-- the file's parts are those of the log
pub log-held : (view : VolumeView) (file : FileParts) → AreParts view file → file_number file ≡ LOG_FILE
    → attribute_held file DATA [] ≡ log_parts view
log-held view file are number =
    ap (filter (is_of DATA [])) (are.parts ∙ ap (parts (records_of view)) number)

record-there : (view : VolumeView) → IsFile view LOG_FILE → is_some (record_on view LOG_FILE) ≡ true
record-there view is_file = by (record_on view LOG_FILE) is_file
  where
    by : (o : Option _) → IsSomeAnd o (λ r. IsTrue (is_base r)) → is_some o ≡ true
    by None h = absurd h
    by (Some r) h = refl

pub log-bytes : (view : VolumeView) → IsFile view LOG_FILE → log_bytes view ≡ clusters_written (log_parts view)
unfolding log_bytes
log-bytes view is_file = by (first_part (log_parts view))
  where
    by : (o : Option Part) → option_map_or (log_size view) o 0 ≡ option_map_or written_of o 0
    by None = refl
    by (Some part) = ap (λ b. cond (b && (is_some (content_extent part.content) && not (is_packed part.kind part.flags)))
        (option_map_or (λ extent. extent.sizes.initialized) (content_extent part.content) 0) 0) (record-there view is_file)

pub no-log : (view : VolumeView) → ((n : ℕ) → MeetsReferences (records_of view) n) → ¬ (IsFile view LOG_FILE) → log_bytes view ≡ 0
unfolding log_bytes
no-log view meets none =
    ap (λ xs. option_map_or (log_size view) (first_part (filter (is_of DATA []) xs)) 0) (no-parts view LOG_FILE meets none)

pub none-written : (view : VolumeView) (spans : List Span) → spans ≡ [] → log_bytes view ≡ 0
    → AreLogSpans view spans × (span_sectors spans ≤ log_sectors view)
none-written view spans none zero =
    let count : log_sectors view ≡ 0 = omega (arith, zero) in (
      subst (AreLogSpans view) (sym none) (subst (λ n. AreSpansOf view.layout (spot_at (log_parts view)) n []) (sym count)
          (no-spans view.layout (spot_at (log_parts view)))),
      omega (arith, ap span_sectors none),
    )

-- the log's clusters lie on the disk
pub log-below : (view : VolumeView) (sectors : ℕ) → HasOwners view → 0 < view.layout.cluster_sectors
    → view.layout.clusters * view.layout.cluster_sectors ≤ sectors
    → LiesBelow view.layout.cluster_sectors sectors (spot_at (log_parts view))
log-below view sectors owners some on_disk vcn cluster at =
    let per = view.layout.cluster_sectors in
    let own = stream-own view LOG_FILE DATA [] owners some (inr (λ e. cc, λ e. cc)) in
    let whole = mul-le-mul_right per (own.inside vcn cluster at) in
    let spread = add-mul cluster 1 per in
    omega (arith, whole, spread, on_disk)
