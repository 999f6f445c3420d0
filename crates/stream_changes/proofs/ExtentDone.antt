-- WHAT THE CALLS SAY of a stream in clusters that is cut, or goes, one behind another.
use Rattle.std.proofs.Common.{◌≡◌, ◌⊎◌, ◌+◌, ◌≤◌, ◌^◌, ◌*◌, ℕ, Bool, true, false, List, [], Option, Some, None, length, sym, ap, subst, ◌∙◌}
use Rattle.std.specs.List.{Contains}
use Rattle.std.specs.Prelude.{IsSomeAnd, IsTrue, OnOk, Result, Ok, Err, drop, slice_get, sum_by}
use Rattle.list_laws.proofs.OptionLaws.{none_other, some_same}
use Rattle.vol_disk.specs.declared.Disk.{Ghosts}
use Rattle.vol_stage.specs.Staged.{places}
use Rattle.ntfs_def.specs.Rounded.{clusters_for}
use Rattle.ntfs_def.specs.Runs.{clusters_of}
use Rattle.ntfs_def.specs.declared.run_text.Run.{Run}
use Rattle.volume_def.specs.Coverage.{IsApart}
use Rattle.volume_def.specs.Files.{Part, Records, content_runs, parts, records_of}
use Rattle.volume_def.specs.Readable.{IsFile, WhereReadable}
use Rattle.volume_def.specs.Table.{TableLayout, cluster_bytes}
use Rattle.mft_table.specs.HeldTables.{AreStored}
use Rattle.mft_table.specs.declared.mft.Mft.{Mft}
use Rattle.mft_table.specs.Mft.{mounted_of, stage_of, view}
use Rattle.file_record.specs.Held.{parts_held}
use Rattle.file_record.specs.Written.{PartHeld}
use Rattle.file_record.specs.declared.parts.FileParts.{FileParts}
use Rattle.edit_def.specs.Purses.{run_size}
use Rattle.record_edits.specs.Given.{AreOwned, GivesBack}
use Rattle.extent_edits.specs.Cut.{CanBeCut}
use Rattle.sparse_io.specs.declared.find.FoundStream.{FoundStream}
use Rattle.tree_edit.specs.Below.{IsInitialized}
use Rattle.tree_model.specs.Streams.{resized}
use Rattle.tree_model.specs.Ways.{has_placed_bits}
use Rattle.value_edits.specs.ValueEdits.{EndsBy, PutsGiving, no_gain}
use Rattle.stored_bits.specs.Given.{IsOfBits, KeepsDevice}
use Rattle.tree_edit.specs.Change.{RemovesPart}
use Rattle.stream_changes.specs.Streams.{CanGive, CutsPartWhereItCan, GivesBehind}
use Rattle.stream_changes.proofs.ExtentCovers.{can-cut}
use Rattle.stream_changes.proofs.ExtentLaws as extent

-- CLUSTERS THAT WERE GIVEN BACK, of the runs of a part that is held
same-runs : (o : Option Part) (runs its : List Run) → IsSomeAnd o (λ part. Some runs ≡ content_runs part.content)
    → IsSomeAnd o (λ part. content_runs part.content ≡ Some its) → runs ≡ its
same-runs None runs its a b = absurd a
same-runs (Some part) runs its a b = some_same (a ∙ b)

pub no-runs : (o : Option Part) (its : List Run) → IsSomeAnd o (λ part. None ≡ content_runs part.content)
    → IsSomeAnd o (λ part. content_runs part.content ≡ Some its) → ⊥
no-runs None its a b = a
no-runs (Some part) its a b = none_other (a ∙ b)

module _ {D : Type 0} (g : Ghosts D) (a back : Mft D g) (held : FileParts) (i count : ℕ) (runs given : List Run)
    (are : PartHeld held i (λ part. Some runs ≡ content_runs part.content)) (behind : clusters_of given ≡ drop count (clusters_of runs))
    (only : IsTrue (view g a).told → (sector : ℕ) → Contains (places g (stage_of g back)) sector
    → Contains (places g (stage_of g a)) sector ⊎ IsOfBits (view g a) sector)
    (few : length (places g (stage_of g back)) ≤ length (places g (stage_of g a)) + 2 * sum_by run_size given) where
  pub given-behind : {T E : Type 0} (result : Result T E)
      → OnOk result (IsTrue (view g a).told → has_placed_bits (view g a) ≡ true → AreOwned (view g a) given
      → GivesBack (view g a) (view g back) given)
      → OnOk result (IsTrue (view g a).told → has_placed_bits (view g a) ≡ true → AreOwned (view g a) given
      → AreStored (view g back) (mounted_of g back).clusters (mounted_of g back).records (mounted_of g back).upcase)
      → OnOk result (IsTrue (view g a).told → (its : List Run) → PartHeld held i (λ part. content_runs part.content ≡ Some its)
      → has_placed_bits (view g a) ≡ true → AreOwned (view g a) its → GivesBehind g a back its count)
  given-behind (Ok done) gives stored = λ told its found placed owned.
      let same : runs ≡ its = same-runs (slice_get (parts_held held) i) runs its are found in
      let own = extent.behind-owned (view g a) given runs count behind
      (subst (AreOwned (view g a)) (sym same) owned) in
      record {
        given = given;
        behind = behind ∙ ap (λ (rs : List Run). drop count (clusters_of rs)) same;
        gives = gives told placed own;
        stored = stored told placed own;
        stages = record { few = few; only = only told };
      }
  given-behind (Err why) gives stored = tt

-- BY WHAT WAS FOUND of the stream
module _ {D : Type 0} (g : Ghosts D) (found : FoundStream) (f count : ℕ) (a back : Mft D g) (held : FileParts)
    (are : IsTrue (view g a).told → parts_held held ≡ parts (records_of (view g a)) f)
    (can : IsTrue (view g a).told → CanGive (view g a) found f)
    (gives : IsTrue (view g a).told → (runs : List Run) → PartHeld held found.part (λ part. content_runs part.content ≡ Some runs)
    → has_placed_bits (view g a) ≡ true → AreOwned (view g a) runs → GivesBehind g a back runs count) where
  pub gone-behind : (t : IsTrue (view g a).told) → GivesBehind g a back (can t).runs count
  gone-behind t =
      let c = can t in
      gives t c.runs
      (subst (λ (o : Option Part). IsSomeAnd o (λ part. content_runs part.content ≡ Some c.runs))
      (sym (ap (λ (ps : List Part). slice_get ps found.part) (are t) ∙ c.at)) (extent.runs-are (view g a) found f c)) c.placed
      (extent.runs-owned (view g a) found f c)

  module _ (device : KeepsDevice g a back) (m : Mft D g) where
    given : (t : IsTrue (view g a).told) → List Run
    given t = (gone-behind t).given

    owned : (t : IsTrue (view g a).told) → AreOwned (view g a) (gone-behind t).given
    owned t = extent.behind-owned (view g a) (gone-behind t).given (can t).runs count (gone-behind t).behind
        (extent.runs-owned (view g a) found f (can t))

    -- what a call tells of the part, on the volume between
    of-part : (Told : Part → Type 0) → WhereReadable (view g back) (IsFile (view g back) f → IsApart (view g back).layout
        → IsInitialized (view g back) f → (part : Part) → slice_get (parts (records_of (view g back)) f) found.part ≡ Some part → Told part)
        → (t : IsTrue (view g a).told) → Told (can t).part
    of-part Told tells t =
        let c = can t in
        let b = gone-behind t in
        let write = c.named.can in
        tells (device.goes_on.told_image ∙ t) (extent.readable-mid (view g a) (view g back) f write b.given b.gives (owned t))
        (extent.file-mid (view g a) (view g back) f write b.given b.gives (owned t))
        (extent.apart-mid (view g a) (view g back) f write b.given b.gives (owned t))
        (extent.initialized-mid (view g a) (view g back) f write b.given b.gives (owned t)) c.part
        (ap (λ (r : Records). slice_get (parts r f) found.part)
        (extent.records-mid (view g a) (view g back) f write b.given b.gives (owned t)) ∙ c.at)

    pub gone-puts : count ≡ 0 → WhereReadable (view g back) (IsFile (view g back) f → IsApart (view g back).layout
        → IsInitialized (view g back) f → (part : Part) → slice_get (parts (records_of (view g back)) f) found.part ≡ Some part
        → RemovesPart (view g back) (view g m) f part)
        → (t : IsTrue (view g a).told) → PutsGiving (view g a) (view g m) f (can t).named.name None no_gain (gone-behind t).given []
    gone-puts none tells t =
        let b = gone-behind t in
        extent.extent-gone (view g a) found f (can t) (view g back) (view g m) b.given b.gives (owned t)
        (b.behind ∙ ap (λ k. drop k (clusters_of (can t).runs)) none) (of-part (RemovesPart (view g back) (view g m) f) tells t)

    module _ (size : ℕ) (done : Bool) (tells : WhereReadable (view g back) (IsFile (view g back) f → IsApart (view g back).layout
        → IsInitialized (view g back) f → (part : Part) → slice_get (parts (records_of (view g back)) f) found.part ≡ Some part
        → CutsPartWhereItCan done (view g back) (view g m) f part size)) where
      pub cut-both : done ≡ true → count ≡ clusters_for size (cluster_bytes (view g a).layout)
          → (t : IsTrue (view g a).told)
          → PutsGiving (view g a) (view g m) f (can t).named.name (Some (resized size (can t).named.held)) no_gain (gone-behind t).given []
          × EndsBy (view g m) f (can t).named.name size
      cut-both does many t =
          let b = gone-behind t in
          extent.extent-shorter (view g a) found f (can t) (view g back) (view g m) b.given b.gives (owned t) size
          (b.behind ∙ ap (λ k. drop k (clusters_of (can t).runs)) many)
          (subst (λ d. CutsPartWhereItCan d (view g back) (view g m) f (can t).part size) does
          (of-part (λ part. CutsPartWhereItCan done (view g back) (view g m) f part size) tells t))

      pub cut-puts : done ≡ true → count ≡ clusters_for size (cluster_bytes (view g a).layout)
          → (t : IsTrue (view g a).told)
          → PutsGiving (view g a) (view g m) f (can t).named.name (Some (resized size (can t).named.held)) no_gain (gone-behind t).given []
      cut-puts does many t = (cut-both does many t).0

      pub cut-not : done ≡ false → (view g a).layout.cluster_sectors ≤ 8 → size ≤ 2 ^ 40 → (t : IsTrue (view g a).told)
          → size ≤ (can t).extent.sizes.real → ⊥
      cut-not not few near t long =
          let never = subst (λ d. CutsPartWhereItCan d (view g back) (view g m) f (can t).part size) not
          (of-part (λ part. CutsPartWhereItCan done (view g back) (view g m) f part size) tells t) in
          never (subst (λ (l : TableLayout). CanBeCut (cluster_bytes l) size (can t).part.content) (sym (gone-behind t).gives.writes.layout)
          (can-cut (view g a) found f (can t) size long near few))
