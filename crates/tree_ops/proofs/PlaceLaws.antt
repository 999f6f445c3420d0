-- WHERE THE MARK AND THE LOG LIE of a volume that can be edited, and what is staged apart from them.
use Rattle.std.proofs.Common.{◌≡◌, ◌≢◌, ◌⊎◌, ◌≤◌, ◌+◌, ◌-◌, ◌*◌, ◌/◌, ℕ, true, List, [], Option, Some, None, refl, sym, ap}
use Rattle.std.proofs.Common.{subst, ◌∙◌, inl, inr, arith}
use Rattle.std.proofs.lemmas.Nat.{div-mul-add}
use Rattle.std.specs.Prelude.{All, Contains, IsTrue, codes, is_some}
use Rattle.vol_disk.specs.Contents.{IsTold, sector_in}
use Rattle.vol_disk.specs.declared.Disk.{Ghosts}
use Rattle.vol_stage.specs.Staged.{disk_of, image, places}
use Rattle.ntfs_def.specs.FileName.{FileName}
use Rattle.ntfs_def.specs.Units.{wide}
use Rattle.ntfs_def.specs.declared.kinds.TheConstants.{BITMAP, DATA, INDEX_ALLOCATION}
use Rattle.ntfs_def.specs.declared.lengths.TheConstants.{INDEX_RECORD}
use Rattle.ntfs_def.specs.declared.records.TheConstants.{CLUSTER_BITMAP, LOG_FILE, MFT, MFT_MIRROR, VOLUME}
use Rattle.volume_def.specs.FileNames.{names_of}
use Rattle.volume_def.specs.Files.{records_of}
use Rattle.volume_def.specs.OwnersClause.{times_owned}
use Rattle.volume_def.specs.Sound.{IsSound}
use Rattle.volume_def.specs.Table.{cluster_bytes}
use Rattle.volume_def.specs.View.{VolumeView}
use Rattle.list_laws.proofs.MemberLaws.{Contains-nil}
use Rattle.mark_write.specs.Finish.{CanFinish}
use Rattle.mark_write.specs.Flags.{IsCopySet, IsSet, LiesAt}
use Rattle.mark_write.specs.Logs.{IsOutside}
use Rattle.mark_write.specs.declared.flag.Flag.{Flag}
use Rattle.mark_write.specs.declared.log.Span.{Span}
use Rattle.mft_table.specs.declared.mft.Mft.{Mft}
use Rattle.mft_table.specs.Mft.{stage_of, view}
use Rattle.name_changes.specs.HeldRecordBits.{IsOfRecordBits}
use Rattle.made_done.specs.Beside.{IsBesideFlag}
use Rattle.made_done.specs.LogSpans.{AreLogSpans}
use Rattle.made_done.proofs.PlacesApart as apart
use Rattle.volume_mark.specs.Mark.{IsFlagOf}
use Rattle.made_done.specs.Below.{CanSet, IsPlaceOf, LiesApart}
use Rattle.made_done.proofs.Below.{none-within}
use Rattle.tree_model.proofs.NamesLaws.{is_shown}
use Rattle.tree_model.specs.Hidden.{is_hidden, is_system}
use Rattle.tree_model.specs.Reading.{node_at}
use Rattle.tree_model.specs.declared.tree.Node.{Node}
use Rattle.name_changes.specs.TreeEditStaged.{IsOfIndex}
use Rattle.stream_changes.specs.Below.{IsOfDirectory, IsOfFile, IsOfNames, IsOfStreams}
use Rattle.stream_changes.specs.Staged.{IsOfFree, IsOfGiving}
use Rattle.stream_changes.proofs.Below.{not-system}
use Rattle.name_changes.specs.Staged.{IsOfMaking, IsOfOrdinaryRecord}
use Rattle.tree_ops.specs.Edits.{CanEdit, EditOf, HasMark, IsPlaceBy, IsPlaced, StagesBy}
use Rattle.tree_ops.specs.Tables.{KeepsTables}
use Rattle.tree_ops.specs.declared.place.MarkPlace.{MarkPlace}

-- the records of an index are no $DATA
no-data : INDEX_ALLOCATION ≢ DATA
no-data e = absurd (omega (arith, e))

-- .. nor is a bitmap
no-bitmap : BITMAP ≢ DATA
no-bitmap e = absurd (omega (arith, e))

-- THE PLACE, on a disk that tells its contents.
module _ {D : Type 0} (g : Ghosts D) (old : Mft D g) (place : MarkPlace) (told : IsTrue (view g old).told) where
  pub place-flag : (mark : Option Flag) → CanEdit g old mark → IsPlaceBy g old mark place → IsFlagOf (view g old) place.flag
  place-flag None can by = by.flag told
  place-flag (Some flag) can by = subst (IsFlagOf (view g old)) (sym by.same) (can.flag told).there

  place-spans : (mark : Option Flag) → IsPlaceBy g old mark place
      → (place.spans.items ≡ []) ⊎ AreLogSpans (view g old) place.spans.items
  place-spans None by = inr (by.log told)
  place-spans (Some flag) by = inl by.none

  -- it is that of which the laws of edits speak
  pub place-of : (mark : Option Flag) (before : List ℕ) → g.now (disk_of g (stage_of g old)) ≡ Some before → CanEdit g old mark
      → IsPlaceBy g old mark place → IsPlaceOf (view g old) before place.flag place.marked place.spans.items
  place-of None before is can by = record {
    flag_is = by.flag told;
    spans_are = λ e. by.log told;
    none = λ e. let f = by.unmarked in cc;
    set = λ e. let f = by.unmarked in cc;
    log = λ e. let f = by.unmarked in cc;
  }
  place-of (Some flag) before is can by = record {
    flag_is = place-flag (Some flag) can by;
    spans_are = λ e. let t = by.marked in cc;
    none = λ e. by.none;
    set = λ e.
        let has : IsTold (g.now (disk_of g (stage_of g old))) = ap is_some is in
        subst (λ (f : Flag). IsSet f (sector_in (Some before))) (sym by.same)
        (subst (λ (o : Option (List ℕ)). IsSet flag (sector_in o)) is (can.marked.set has));
    log = λ e. (can.flag told).log;
  }

-- .. and whatever it tells: where the volume was marked, the mark stands there.
pub place-mark : {D : Type 0} (g : Ghosts D) (old : Mft D g) (place : MarkPlace) (mark : Option Flag) → CanEdit g old mark
    → IsPlaceBy g old mark place → place.marked ≡ true
    → HasMark (g.size (disk_of g (stage_of g old))) (g.now (disk_of g (stage_of g old))) place.flag
place-mark g old place None can by e = let f = by.unmarked in cc
place-mark g old place (Some flag) can by e =
    subst (HasMark (g.size (disk_of g (stage_of g old))) (g.now (disk_of g (stage_of g old)))) (sym by.same) can.marked

-- WHAT IS STAGED of a file that can be edited lies apart from the mark, and from the log.
module _ (view : VolumeView) (sound : IsSound view) (lies : LiesApart view) (flag : Flag) (there : IsFlagOf view flag) where
  record IsApartFrom (spans : List Span) (sector : ℕ) : Type 0 where
    beside : IsBesideFlag flag sector
    outside : IsOutside spans sector

  module _ (spans : List Span) (are : (spans ≡ []) ⊎ AreLogSpans view spans) where
    -- outside of the spans, where the log has it not
    out : (sector : ℕ) → (AreLogSpans view spans → IsOutside spans sector) → IsOutside spans sector
    out sector by = elim are [
      | inl none ↦ none-within spans none sector
      | inr log ↦ by log
    ]

    flag-outside : IsOutside spans flag.home × IsOutside spans flag.copy
    flag-outside = (
      out flag.home (λ log. (apart.flag-log view lies.owners lies.some sound flag there spans log).0),
      out flag.copy (λ log. (apart.flag-log view lies.owners lies.some sound flag there spans log).1),
    )

    file-apart : (f sector : ℕ) → f ≢ VOLUME → IsOfFile view f sector → IsApartFrom spans sector
    file-apart f sector other is = record {
      beside = apart.record-beside view lies.owners lies.some sound flag there f is.0 sector is.1 other is.2;
      outside = out sector (λ log. apart.record-log view lies.owners lies.some spans is.0 sector log is.2);
    }

    index-apart : (dir sector : ℕ) → IsOfIndex view dir sector → IsApartFrom spans sector
    index-apart dir sector is = record {
      beside = apart.stream-beside view lies.owners lies.some sound flag there dir INDEX_ALLOCATION (wide (codes "$I30"))
          (inl no-data) (is.0 * cluster_bytes view.layout) INDEX_RECORD sector is.1;
      outside = out sector (λ log. apart.stream-log view lies.owners lies.some dir INDEX_ALLOCATION (wide (codes "$I30")) (inl no-data)
          (is.0 * cluster_bytes view.layout) INDEX_RECORD sector is.1 spans log);
    }

    directory-apart : (dir sector : ℕ) → dir ≢ VOLUME → IsOfDirectory view dir sector → IsApartFrom spans sector
    directory-apart dir sector other (inl record_) = file-apart dir sector other record_
    directory-apart dir sector other (inr index) = index-apart dir sector index

    names-apart : (names : List FileName) (sector : ℕ)
        → ((name : FileName) → Contains names name → name.parent.number ≢ VOLUME) → IsOfNames view names sector
        → IsApartFrom spans sector
    names-apart names sector other is = directory-apart is.0.parent.number sector (other is.0 is.1) is.2

    stream-apart : (f sector : ℕ) → f ≢ MFT → f ≢ MFT_MIRROR → f ≢ LOG_FILE → IsOfStreams view f sector → IsApartFrom spans sector
    stream-apart f sector table mirror log_file is = record {
      beside = apart.stream-beside view lies.owners lies.some sound flag there f DATA is.0
          (inr (table, (mirror, log_file))) is.1 is.2 sector
          is.3;
      outside =
          out sector (λ log. apart.stream-log view lies.owners lies.some f DATA is.0 (inr (table, (mirror, log_file))) is.1 is.2 sector
          is.3 spans log);
    }

    -- the stored bitmap of records, and a record that is of no file
    bits-apart : (sector : ℕ) → IsOfRecordBits view sector → IsApartFrom spans sector
    bits-apart sector is = record {
      beside = apart.stream-beside view lies.owners lies.some sound flag there MFT BITMAP [] (inl no-bitmap) is.0 is.1 sector is.2;
      outside = out sector (λ log. apart.stream-log view lies.owners lies.some MFT BITMAP [] (inl no-bitmap) is.0 is.1 sector is.2 spans
          log);
    }

    unused-apart : (sector : ℕ) → IsOfOrdinaryRecord view sector → IsApartFrom spans sector
    unused-apart sector is = record {
      beside = apart.unused-beside view lies.owners lies.some sound flag there is.0 sector is.1 is.3;
      outside = out sector (λ log. apart.record-log view lies.owners lies.some spans is.0 sector log is.3);
    }

    free-apart : (sector : ℕ) → IsOfFree view sector → IsApartFrom spans sector
    free-apart sector is = record {
      beside = apart.free-beside view lies.owners lies.some sound flag there sector free;
      outside = out sector (λ log. apart.free-log view lies.owners lies.some sector free spans log);
    }
      where
        there_in : sector / view.layout.cluster_sectors ≡ is.cluster
        there_in =
            let per = view.layout.cluster_sectors in
            let low = is.low in
            let high = is.high in
            let split : sector ≡ is.cluster * per + (sector - is.cluster * per) = omega (arith, low) in
            ap (λ s. s / per) split ∙ div-mul-add is.cluster per (sector - is.cluster * per) (omega (arith, low, high))

        free : times_owned (records_of view) (sector / view.layout.cluster_sectors) ≡ 0
        free = ap (times_owned (records_of view)) there_in ∙ is.unowned

-- a file that is shown is the root or an ordinary one
shown-other : (v : VolumeView) (f n : ℕ) (node : Node) → node_at v f ≡ Some node → is_system n ≡ true → f ≢ n
unfolding is_hidden
shown-other v f n node at system same =
    let not_so = not-system (records_of v) (records_of v).count f (is_shown v f node at).shown in
    let is = subst (λ k. is_system k ≡ true) (sym same) system in
    cc

-- THE EDIT CAN BE WRITTEN.
module _ {D : Type 0} (g : Ghosts D) (old staged : Mft D g) (mark : Option Flag) (can : CanEdit g old mark) (edit : EditOf) (file : ℕ)
    (settable : IsTrue (view g old).told → (node : Node) × CanSet (view g old) file node)
    (of : (sector : ℕ) → edit.Of (view g old) file sector
    → IsOfGiving (view g old) file sector ⊎ IsOfMaking (view g old) file sector) (place : MarkPlace) (placed : IsPlaced g old mark place)
    (keeps : KeepsTables g old staged) (stages : IsTrue (view g old).told → StagesBy g edit file (view g old) old staged) where
  abbrev v : VolumeView
  v = view g old

  abbrev spans : List Span
  spans = place.spans.items

  was-told : IsTold (image g (stage_of g staged)) → IsTrue v.told
  was-told t = sym keeps.goes_on.told_image ∙ t

  module _ (told : IsTrue v.told) where
    abbrev set : CanSet v file (settable told).0
    set = (settable told).1

    sound : IsSound v
    sound = set.sound

    lies : LiesApart v
    lies = set.apart

    there : IsFlagOf v place.flag
    there = place-flag g old place told mark can placed.by_mark

    are : (spans ≡ []) ⊎ AreLogSpans v spans
    are = place-spans g old place told mark placed.by_mark

    -- a file that is shown, edited or a directory in which a file is made
    giving-apart : (sector : ℕ) → IsOfGiving v file sector → IsApartFrom v sound lies place.flag there spans sector
    giving-apart sector is = elim is [
      | inl free ↦ free-apart v sound lies place.flag there spans are sector free
      | inr (inl bits) ↦ stream-apart v sound lies place.flag there spans are CLUSTER_BITMAP sector (λ e. omega (arith, e))
          (λ e. omega (arith, e)) (λ e. omega (arith, e)) ([], bits.0, bits.1, bits.2)
      | inr (inr (inl stream)) ↦ stream-apart v sound lies place.flag there spans are file sector
          (shown-other v file MFT (settable told).0 set.there refl) (shown-other v file MFT_MIRROR (settable told).0 set.there refl)
          (shown-other v file LOG_FILE (settable told).0 set.there refl) stream
      | inr (inr (inr (inl of_file))) ↦ file-apart v sound lies place.flag there spans are file sector set.other of_file
      | inr (inr (inr (inr names))) ↦
          names-apart v sound lies place.flag there spans are (names_of (records_of v) file) sector set.elsewhere names
    ]

    making-apart : (sector : ℕ) → IsOfMaking v file sector → IsApartFrom v sound lies place.flag there spans sector
    making-apart sector is = elim is [
      | inl bits ↦ bits-apart v sound lies place.flag there spans are sector bits
      | inr (inl free) ↦ unused-apart v sound lies place.flag there spans are sector free
      | inr (inr (inl index)) ↦ index-apart v sound lies place.flag there spans are file sector index
      | inr (inr (inr (inl of_file))) ↦ file-apart v sound lies place.flag there spans are file sector set.other of_file
      | inr (inr (inr (inr names))) ↦
          names-apart v sound lies place.flag there spans are (names_of (records_of v) file) sector set.elsewhere names
    ]

    staged-apart : (sector : ℕ) → Contains (places g (stage_of g staged)) sector
        → IsApartFrom v sound lies place.flag there spans sector
    staged-apart sector has = elim ((stages told).only sector has) [
      | inl before ↦ absurd (Contains-nil sector (subst (λ xs. Contains xs sector) can.clear.plain before))
      | inr is ↦ elim (of sector is) [ inl giving ↦ giving-apart sector giving | inr making ↦ making-apart sector making ]
    ]

  pub can-finish : CanFinish g place.flag place.marked spans (stage_of g staged)
  can-finish = record {
    place = subst (λ n. LiesAt n place.flag) (sym keeps.goes_on.size) placed.lies;
    spans = subst (λ n. All (λ (span : Span). span.first + span.len ≤ n) spans) (sym keeps.goes_on.size) placed.spans;
    sound = keeps.broken ∙ can.clear.whole;
    home = λ t has. (staged-apart (was-told t) place.flag.home has).beside.home refl;
    copy = λ t has. (staged-apart (was-told t) place.flag.copy has).beside.copy refl;
    plain = λ t n has. (staged-apart (was-told t) n has).outside;
    apart = λ t. (flag-outside v (sound (was-told t)) (lies (was-told t)) place.flag (there (was-told t)) spans (are (was-told t))).0;
    apart_copy = λ t. (flag-outside v (sound (was-told t)) (lies (was-told t)) place.flag (there (was-told t)) spans (are (was-told t))).1;
    marked = λ e t.
        let m = place-mark g old place mark can placed.by_mark e in
        subst (λ (o : Option (List ℕ)). IsSet place.flag (sector_in o)) (sym keeps.now) (m.set (now-told (was-told t)));
    copied = λ e t.
        let m = place-mark g old place mark can placed.by_mark e in
        subst (λ (o : Option (List ℕ)). IsCopySet place.flag (sector_in o)) (sym keeps.now) (m.copied (now-told (was-told t)));
  }
    where
      now-told : IsTrue v.told → IsTold (g.now (disk_of g (stage_of g old)))
      now-told told = ap is_some (sym can.clear.tells) ∙ told
