-- WHERE THE MARK AND THE LOG ARE FOUND on a volume that can be edited.
use Rattle.std.proofs.Common.{◌≡◌, ◌≢◌, ◌≤◌, ◌<◌, ◌+◌, ℕ, true, false, List, [], length, Option, Some, None, refl, sym, subst}
use Rattle.std.proofs.Common.{arith, length-take}
use Rattle.std.specs.Prelude.{All, IsSome, IsTrue}
use Rattle.std.proofs.lemmas.List.Elements.{All-nil}
use Rattle.vol_disk.specs.Contents.{sector_in}
use Rattle.vol_disk.specs.declared.Disk.{Ghosts}
use Rattle.vol_stage.specs.Staged.{disk_of, image}
use Rattle.ntfs_def.specs.Boot.{boot_sector}
use Rattle.ntfs_def.specs.declared.records.TheConstants.{VOLUME}
use Rattle.volume_def.specs.Coverage.{IsApart}
use Rattle.volume_def.specs.Files.{records_of}
use Rattle.volume_def.specs.ReferencesClause.{MeetsReferences}
use Rattle.volume_def.specs.Readable.{WhereReadable}
use Rattle.volume_def.specs.ShapeClause.{MeetsShape}
use Rattle.volume_def.specs.Sound.{IsSound, References, Shape, Version}
use Rattle.volume_def.specs.VersionClause.{HasVersion}
use Rattle.volume_def.specs.View.{VolumeView}
use Rattle.volume_def.proofs.SoundLaws.{readable-sound}
use Rattle.volume_edits.specs.Owners.{HasOwners}
use Rattle.mark_write.specs.Flags.{LiesAt}
use Rattle.mark_write.specs.Logs.{span_sectors}
use Rattle.mark_write.specs.declared.flag.Flag.{Flag}
use Rattle.mark_write.specs.declared.log.Span.{Span}
use Rattle.mft_table.specs.declared.mft.Mft.{Mft}
use Rattle.mft_table.specs.Mft.{MftReads, stage_of, view}
use Rattle.file_record.proofs.ReadLaws.{view-kept}
use Rattle.made_done.specs.LogSpans.{AreLogSpans, log_sectors}
use Rattle.volume_mark.specs.Mark.{IsFlagOf}
use Rattle.volume_mark.proofs.OutsideLaws as outside
use Rattle.made_done.proofs.Below.{apart-of}
use Rattle.tree_model.specs.Facts.{IsVolumeOf}
use Rattle.tree_ops.specs.Edits.{CanEdit, IsPlaced}
use Rattle.tree_ops.specs.declared.place.MarkPlace.{MarkPlace}
use Rattle.tree_ops.proofs.ImageLaws.{some-bytes}

-- a sector has 512 bytes at most
sector-most : (bytes : List ℕ) (n : ℕ) → length (sector_in (Some bytes) n) ≤ 512
unfolding sector_in
sector-most bytes n = simp length-take (omega arith)

layout-apart : (bytes : List ℕ) (view : VolumeView) → IsVolumeOf bytes view → IsSound view → IsApart view.layout
layout-apart bytes view volume sound =
    subst (λ (v : VolumeView). IsApart v.layout) (sym volume.is)
    (outside.apart-sound (sector_in (Some bytes)) (boot_sector bytes) volume.layout volume.has.table_clause (sector-most bytes)
    (subst IsSound volume.is sound))

pub none-of : (mark : Option Flag) → ((flag : Flag) → mark ≢ Some flag) → mark ≡ None
none-of None other = refl
none-of (Some flag) other = absurd (other flag refl)

-- the table has a record 3
counted : (bytes : List ℕ) (view : VolumeView) → IsVolumeOf bytes view → VOLUME < view.layout.count
counted bytes view volume =
    subst (λ (v : VolumeView). VOLUME < v.layout.count) (sym volume.is)
    (let table = volume.has.table_clause.table in
    let least = table.fits.least in
    let is = table.count in
    omega (arith, least, is))

-- A VOLUME THAT WAS EDITED is marked.
pub known-placed : {D : Type 0} (g : Ghosts D) (mft : Mft D g) (mark : Option Flag) (flag : Flag) (place : MarkPlace) → mark ≡ Some flag
    → CanEdit g mft mark → place.flag ≡ flag → place.marked ≡ true → place.spans.items ≡ [] → IsPlaced g mft mark place
known-placed g mft None flag place is can same marked none = cc
known-placed g mft (Some f) flag place is can same marked none =
    let e : place.flag ≡ f = cc in
    record {
      lies = subst (LiesAt (g.size (disk_of g (stage_of g mft)))) (sym e) can.marked.place;
      spans = subst (All (λ (span : Span). span.first + span.len ≤ g.size (disk_of g (stage_of g mft)))) (sym none) (All-nil _);
      by_mark = record { marked = marked; same = e; none = none };
    }

-- OF ANOTHER they are sought.
module _ {D : Type 0} (g : Ghosts D) (old : Mft D g) (mark : Option Flag) (can : CanEdit g old mark) where
  bytes-of : IsTrue (view g old).told → (bytes : List ℕ) × IsVolumeOf bytes (view g old)
  bytes-of told =
      let b = some-bytes (image g (stage_of g old)) told in
      (b.0, can.bytes b.0 b.1)

  -- the flag is there
  pub flag-some : (found : Option Flag) → (IsTrue (view g old).told → VOLUME < (view g old).layout.count → IsApart (view g old).layout
      → MeetsShape (view g old) VOLUME → HasVersion ((view g old).block VOLUME) → IsSome found) → IsTrue (view g old).told → IsSome found
  flag-some found some told =
      let b = bytes-of told in
      let sound = (can.in_use told).sound in
      some told (counted b.0 (view g old) b.1) (layout-apart b.0 (view g old) b.1 sound) (sound Shape VOLUME) (sound Version VOLUME refl)

  module _ (mid : Mft D g) (n : ℕ) (reads : MftReads g old mid n) where
    same : view g mid ≡ view g old
    same = view-kept g old mid n reads

    log-told : (spans : List Span) → WhereReadable (view g mid) (HasOwners (view g mid)
        → ((n : ℕ) → MeetsReferences (records_of (view g mid)) n)
        → AreLogSpans (view g mid) spans × (span_sectors spans ≤ log_sectors (view g mid)))
        → IsTrue (view g old).told → AreLogSpans (view g old) spans × (span_sectors spans ≤ log_sectors (view g old))
    log-told spans log told =
        let b = bytes-of told in
        let sound = (can.in_use told).sound in
        let lies = apart-of b.0 (view g old) b.1 sound in
        subst (λ v. WhereReadable v (HasOwners v → ((n : ℕ) → MeetsReferences (records_of v) n)
        → AreLogSpans v spans × (span_sectors spans ≤ log_sectors v))) same log
        told (readable-sound (view g old) sound) lies.owners (sound References)

    pub found-placed : (place : MarkPlace) → mark ≡ None → place.marked ≡ false
        → (IsTrue (view g old).told → IsFlagOf (view g old) place.flag) → LiesAt (g.size (disk_of g (stage_of g old))) place.flag
        → All (λ (span : Span). span.first + span.len ≤ g.size (disk_of g (stage_of g mid))) place.spans.items
        → WhereReadable (view g mid) (HasOwners (view g mid) → ((n : ℕ) → MeetsReferences (records_of (view g mid)) n)
        → AreLogSpans (view g mid) place.spans.items × (span_sectors place.spans.items ≤ log_sectors (view g mid)))
        → IsPlaced g old mark place
    found-placed place none unmarked flag lies spans log =
        subst (λ m. IsPlaced g old m place) (sym none) (record {
          lies = lies;
          spans = subst (λ size. All (λ (span : Span). span.first + span.len ≤ size) place.spans.items) reads.stage.goes_on.size spans;
          by_mark = record {
            unmarked = unmarked;
            flag = flag;
            log = λ told. (log-told place.spans.items log told).0;
            few = λ told. (log-told place.spans.items log told).1;
          };
        })
