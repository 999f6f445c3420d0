-- WHAT THE CALL WROTE that finishes the first edit of a run, by the spans of the log.
use Rattle.std.proofs.Common.{◌≡◌, ◌≢◌, ◌*◌, ◌+◌, ◌/◌, ◌%◌, ◌<◌, ◌≤◌, ◌==◌, ◌||◌, ◌&&◌, ℕ, false, cond, List, [], length, not}
use Rattle.std.proofs.Common.{Some, inr, refl, sym, ap, subst, ◌∙◌, arith, if◌then◌else◌}
use mathlib.Core.Path.{fun_ext}
use Rattle.std.proofs.lemmas.Bool.{ne_eqb}
use Rattle.std.proofs.lemmas.Nat.{div-mul-add, mod_below}
use Rattle.std.specs.Option.{option_map_or}
use Rattle.std.specs.Prelude.{filter, is_some}
use Rattle.vol_disk.specs.Contents.{sector_in}
use Rattle.ntfs_def.specs.Boot.{boot_sector}
use Rattle.ntfs_def.specs.Flags.{is_packed}
use Rattle.ntfs_def.specs.declared.kinds.TheConstants.{DATA}
use Rattle.ntfs_def.specs.declared.records.TheConstants.{LOG_FILE}
use Rattle.ntfs_def.specs.declared.run_text.Spot.{Spot}
use Rattle.ntfs_def.specs.declared.run_text.Spot.TheVariants.{At, Hole, Outside}
use Rattle.volume_def.specs.Blocks.{place_at}
use Rattle.volume_def.specs.Coverage.{times_covered}
use Rattle.volume_def.specs.Files.{Part, content_extent, is_of}
use Rattle.volume_def.specs.Sound.{HasLayout, IsSound, told_view}
use Rattle.volume_def.specs.Table.{TableLayout}
use Rattle.volume_def.specs.Values.{first_part, spot_at}
use Rattle.volume_def.specs.View.{VolumeView}
use Rattle.volume_edits.specs.Clusters.{IsOwnStream}
use Rattle.volume_edits.proofs.StreamClusters.{stream-own}
use Rattle.tree_model.specs.Facts.{IsVolumeOf}
use Rattle.session_def.specs.Cost.{log_bytes, log_parts, log_size}
use Rattle.session_def.specs.Done.{HasEmptyLog}
use Rattle.session_def.specs.FirstMark.{is_first_key}
use Rattle.session_def.specs.Room.{KeepsLogEnd}
use Rattle.mark_write.specs.Flags.{IsCopySet, IsSet, cleared_sector, without_bit}
use Rattle.mark_write.specs.Logs.{IsEmptied, IsOutside}
use Rattle.mark_write.specs.declared.flag.Flag.{Flag}
use Rattle.mark_write.specs.declared.log.Span.{Span}
use Rattle.volume_mark.specs.Mark.{IsFlagOf}
use Rattle.volume_mark.proofs.AgreeLaws.{agrees-written}
use Rattle.volume_mark.proofs.DiskLaws as disks
use Rattle.volume_mark.proofs.SectorBytes.{length-sector_in}
use Rattle.mark_place.specs.LogSpans.{AreLogSpans, AreSpansOf, log_sectors}
use Rattle.mark_place.proofs.EmptyLaws.{emptied-log, outside-log}
use Rattle.mark_place.proofs.LogEnd.{log-end}
use Rattle.mark_place.proofs.LogLaws.{log-below}
use Rattle.in_place.specs.Behind.{MarksBehind}
use Rattle.in_place.specs.InPlace.{Rewrites}
use Rattle.in_place.specs.Unnamed.{LiesApart}
use Rattle.in_place.proofs.RoomSame.{used-same}
use Rattle.first_mark.specs.Written.{IsBesideLog, DiffersByMark}
use Rattle.first_mark.proofs.BehindLaws.{marks-behind}
use Rattle.first_mark.proofs.LogStays.{log-parts as parts-stay}
use Rattle.first_mark.proofs.MarkedBlocks.{rewrites-told}

-- a sector beside the clusters of the log is in no span
beside-outside : (view : VolumeView) (spans : List Span) → 0 < view.layout.cluster_sectors → AreLogSpans view spans → (n : ℕ)
    → IsBesideLog view n → IsOutside spans n
beside-outside view spans some are n out i among within =
    let s = are.inside n (record { i = i; among = among; within = within }) in
    by s.k (spot_at (log_parts view) (s.k / view.layout.cluster_sectors)) refl s.is
  where
    by : (k : ℕ) (x : Spot) → spot_at (log_parts view) (k / view.layout.cluster_sectors) ≡ x → place_at view.layout k x ≡ Some n → ⊥
    by k Outside e is = cc
    by k Hole e is = cc
    by k (At c) e is =
        let per = view.layout.cluster_sectors in
        let place : c * per + k % per ≡ n = cc in
        let of : c ≡ n / per = sym (div-mul-add c per (k % per) (mod_below k per some)) ∙ ap (λ x. x / per) place in
        out (k / per) (e ∙ ap At of)

pub writes-mark : (view : VolumeView) (flag : Flag) (spans : List Span) (staged written : List ℕ) → 0 < view.layout.cluster_sectors
    → AreLogSpans view spans → length written ≡ length staged
    → ((n : ℕ) → IsOutside spans n → cleared_sector flag (sector_in (Some written)) n ≡ cleared_sector flag (sector_in (Some staged)) n)
    → IsSet flag (sector_in (Some written)) → IsCopySet flag (sector_in (Some written)) → DiffersByMark view flag staged written
writes-mark view flag spans staged written some are long same set copied = record {
  agrees = agrees-written view flag spans staged written long (outside-log view spans some are) same set copied;
  beside = λ n out. same n (beside-outside view spans some are n out);
}

module _ (old : List ℕ) (layout : TableLayout) (has : HasLayout (sector_in (Some old)) (boot_sector old) (length old / 512) layout)
    (sound : IsSound (told_view (sector_in (Some old)) layout)) (flag : Flag) (f : IsFlagOf (told_view (sector_in (Some old)) layout) flag)
    (new : List ℕ) (w : DiffersByMark (told_view (sector_in (Some old)) layout) flag old new)
    (apart : LiesApart (told_view (sector_in (Some old)) layout))
    (on_disk : layout.clusters * layout.cluster_sectors ≤ length old / 512) (spans : List Span)
    (are : AreLogSpans (told_view (sector_in (Some old)) layout) spans)
    (same : (n : ℕ) → IsOutside spans n → cleared_sector flag (sector_in (Some new)) n ≡ cleared_sector flag (sector_in (Some old)) n) where
  abbrev disk : ℕ → List ℕ
  disk = sector_in (Some old)

  abbrev disk' : ℕ → List ℕ
  disk' = sector_in (Some new)

  abbrev view : VolumeView
  view = told_view disk layout

  abbrev next : VolumeView
  next = told_view disk' layout

  abbrev per : ℕ
  per = layout.cluster_sectors

  own : IsOwnStream layout (spot_at (log_parts view))
  own = stream-own view LOG_FILE DATA [] apart.owners apart.some (inr (λ e. cc, λ e. cc))

  whole : (vcn cluster i : ℕ) → spot_at (log_parts view) vcn ≡ At cluster → i < per → length (disk (cluster * per + i)) ≡ 512
  whole vcn cluster i at inside =
      let below = log-below view (length old / 512) apart.owners apart.some on_disk vcn cluster at in
      let long = length-sector_in old (cluster * per + i) in
      omega (arith, below, long, inside)

  whole' : (vcn cluster i : ℕ) → spot_at (log_parts view) vcn ≡ At cluster → i < per → length (disk' (cluster * per + i)) ≡ 512
  whole' vcn cluster i at inside = disks.long-sector old layout has sound flag f new w.agrees (cluster * per + i)
      ∙ whole vcn cluster i at inside

  -- the flag is none of the log's
  plain : (vcn cluster i : ℕ) → spot_at (log_parts view) vcn ≡ At cluster → i < per → IsOutside spans (cluster * per + i)
      → disk' (cluster * per + i) ≡ disk (cluster * per + i)
  plain vcn cluster i at inside outside =
      let place = cluster * per + i in
      let of : place / per ≡ cluster = div-mul-add cluster per i inside in
      let out = own.outside vcn cluster at in
      let home : place ≢ flag.home = λ e.
      let z = out.table in
      let t = subst (λ x. 1 ≤ times_covered layout.runs x) (ap (λ x. x / per) (sym e) ∙ of)
      (disks.home-table old layout has sound flag f) in
      omega (arith, z, t) in
      let copy : place ≢ flag.copy = λ e.
      out.mirror (disks.kf old layout has sound flag f) (disks.kf-small old layout has sound flag f)
      (sym (disks.copy-cluster old layout has sound flag f) ∙ ap (λ x. x / per) (sym e) ∙ of) in
      let none : ((place == flag.home) || (place == flag.copy)) ≡ false =
      ap (λ b. b || (place == flag.copy)) (ne_eqb place flag.home home) ∙ ne_eqb place flag.copy copy in
      sym (ap (λ b. cond b (without_bit (disk' place) flag.at) (disk' place)) none)
      ∙ same place outside ∙ ap (λ b. cond b (without_bit (disk place) flag.at) (disk place)) none

  pub end-kept : KeepsLogEnd view next
  end-kept = log-end _ disk disk' layout spans apart.some own
      (λ vcn cluster i at inside. (whole vcn cluster i at inside, whole' vcn cluster i at inside)) are plain

  rewrites : Rewrites is_first_key view next
  rewrites = rewrites-told old layout has sound flag f new w

  parts-same : log_parts next ≡ log_parts view
  parts-same = ap (filter (is_of DATA [])) (parts-stay old layout has sound flag f new w)

  sectors-same : log_sectors next ≡ log_sectors view
  unfolding log_bytes
  sectors-same =
      ap (λ bytes. (bytes + 511) / 512) (ap (λ xs. option_map_or (log_size next) (first_part xs) 0) parts-same
      ∙ ap (λ g. option_map_or g (first_part (log_parts view)) 0) (fun_ext (λ (part : Part).
      ap (λ b. if b && (is_some (content_extent part.content) && not (is_packed part.kind part.flags))
      then option_map_or (λ extent. extent.sizes.initialized) (content_extent part.content) 0 else 0)
      (used-same is_first_key view next rewrites LOG_FILE))))

  spans-still : AreLogSpans next spans
  spans-still =
      subst (λ xs. AreSpansOf layout (spot_at xs) (log_sectors next) spans) (sym parts-same)
      (subst (λ count. AreSpansOf layout (spot_at (log_parts view)) count spans) (sym sectors-same) are)

  pub log-emptied : IsEmptied spans disk' → HasEmptyLog next
  log-emptied emptied =
      emptied-log _ disk' layout spans apart.some
      (λ vcn cluster i at. whole' vcn cluster i (subst (λ xs. spot_at xs vcn ≡ At cluster) parts-same at)) spans-still emptied

pub finished : (view : VolumeView) (flag : Flag) (spans : List Span) (staged written : List ℕ) → IsVolumeOf staged view → IsSound view
    → IsFlagOf view flag → LiesApart view → view.layout.clusters * view.layout.cluster_sectors ≤ length staged / 512
    → AreLogSpans view spans → length written ≡ length staged
    → ((n : ℕ) → IsOutside spans n → cleared_sector flag (sector_in (Some written)) n ≡ cleared_sector flag (sector_in (Some staged)) n)
    → IsSet flag (sector_in (Some written)) → IsCopySet flag (sector_in (Some written)) → IsEmptied spans (sector_in (Some written))
    → MarksBehind view (told_view (sector_in (Some written)) view.layout)
finished v flag spans staged written volume sound f apart on_disk are long same set copied emptied =
    let w = writes-mark v flag spans staged written apart.some are long same set copied in
    let P : VolumeView → Type 0 = λ x. IsSound x → IsFlagOf x flag → DiffersByMark x flag staged written → LiesApart x
    → x.layout.clusters * x.layout.cluster_sectors ≤ length staged / 512 → AreLogSpans x spans
    → HasEmptyLog (told_view (sector_in (Some written)) x.layout) × KeepsLogEnd x (told_view (sector_in (Some written)) x.layout) in
    let both = subst P (sym volume.is) (λ s g m l d a. (
      log-emptied staged volume.layout volume.has s flag g written m l d spans a same emptied,
      end-kept staged volume.layout volume.has s flag g written m l d spans a same,
    )) sound f w apart on_disk are in
    marks-behind v flag staged written volume sound f apart w set both.0 both.1
