-- ONE STREAM WAS EDITED: records can be written still, records and indexes lie where they lay, and the flags and the table of case that are
-- stored are those that were, where clusters were given back, and taken, so.
use Rattle.std.proofs.Common.{◌≡◌, ◌+◌, ◌*◌, ◌≤◌, ◌<◌, ◌==◌, ℕ, Bool, List, [], ◌∷◌, length, filter, map, Option, refl, sym, ap, subst, inl}
use Rattle.std.proofs.Common.{inr, ◌∙◌, arith}
use mathlib.Core.Path.{fun_ext}
use Rattle.std.specs.List.{range_with_len}
use Rattle.std.specs.Option.{option_to_list}
use Rattle.std.specs.Prelude.{Contains, IsSomeAnd, IsTrue, is_some}
use Rattle.std.proofs.lemmas.Bool.{cases_eq, eq-eqb, eqb-true}
use Rattle.list_laws.specs.Bits.{bit_in, flags_in}
use Rattle.list_laws.proofs.SameItemsLaws.{SameItems-length, SameItems-passing, SameItems-sym}
use Rattle.ntfs_def.specs.FileName.{FileName}
use Rattle.ntfs_def.specs.Record.{is_in_use}
use Rattle.ntfs_def.specs.declared.kinds.TheConstants.{BITMAP, DATA, INDEX_ALLOCATION}
use Rattle.ntfs_def.specs.declared.records.TheConstants.{CLUSTER_BITMAP, MFT, UPCASE}
use Rattle.ntfs_def.specs.declared.run_text.Run.{Run}
use Rattle.ntfs_def.specs.declared.run_text.Spot.{Spot}
use Rattle.volume_def.specs.BitmapClauses.{cluster_bits, record_bits}
use Rattle.volume_def.specs.CaseClause.{case_parts}
use Rattle.volume_def.specs.Coverage.{IsApart}
use Rattle.volume_def.specs.Edits.{EditsAt}
use Rattle.volume_def.specs.FileNames.{names_of}
use Rattle.volume_def.specs.Coverage.{times_covered}
use Rattle.volume_def.specs.Files.{Record, Records, file_of, is_of, parts, parts_at, record_on, records_of}
use Rattle.volume_def.specs.Readable.{IsReadableVolume}
use Rattle.volume_def.specs.Sound.{References}
use Rattle.volume_def.specs.Table.{IsWellFormed, TableLayout, cluster_bytes}
use Rattle.volume_def.specs.Values.{spot_at, value_of_parts, value_on}
use Rattle.volume_def.specs.View.{VolumeView}
use Rattle.volume_def.proofs.RecordLaws.{file_of-kept}
use Rattle.volume_def.proofs.ValueLaws.{value-frame}
use Rattle.volume_def.proofs.SoundLaws.{readable-sound}
use Rattle.volume_edits.specs.Clusters.{record_sectors}
use Rattle.volume_edits.specs.Owners.{HasOwners}
use Rattle.edit_def.specs.Edited.{Edited, is_room_key}
use Rattle.edit_def.specs.Kept.{Key, either, key_of, same_key}
use Rattle.edit_def.specs.Names.{KeepsNames}
use Rattle.edit_def.proofs.NamesLaws.{bases-of}
use Rattle.edit_def.proofs.ToldLaws.{one-first, value-kept}
use Rattle.mft_table.specs.HeldTables.{AreStored}
use Rattle.mft_table.specs.Staging.{record_places}
use Rattle.file_record.specs.Records.{IsRecordOf}
use Rattle.record_edits.specs.Between.{IsReady}
use Rattle.record_edits.specs.Given.{AreOwned, GivesBack, TakesRuns}
use Rattle.record_edits.specs.InPlace.{WritesInPlace, is_bits_key}
use Rattle.record_edits.specs.RecordEdit.{parts_made}
use Rattle.record_edits.proofs.BlockEdits.{edit-of}
use Rattle.record_edits.proofs.PlaceEdits.{clusters-kept, same}
use Rattle.tree_edit.specs.Below.{index_name, names_index}
use Rattle.tree_model.specs.declared.tree.Node.{Node}
use Rattle.value_edits.specs.Below.{CanSet}
use Rattle.value_edits.proofs.Below.{marks-right, not-case, right_marks}
use Rattle.value_edits.specs.ValueEdits.{EditsAlone}
use Rattle.value_edits.proofs.GivenBack as flush
use Rattle.value_edits.proofs.EditedRecord as value
use Rattle.value_edits.proofs.Prepared as before
use Rattle.value_edits.proofs.Prepared.{owners-ready}
use Rattle.value_edits.proofs.SoundEdited as edit
use Rattle.tree_edit.specs.Links.{CanWrite}
use Rattle.tree_edit.specs.Staged.{IsOfDirectory, IsOfFile, IsOfIndex, IsOfNames}

-- A FLUSH OF BITS leaves the table of case.
case-flush : (old new : VolumeView) → WritesInPlace is_bits_key old new → HasOwners old
    → value_on new (case_parts new) ≡ value_on old (case_parts old)
case-flush old new writes owners =
    ap (λ (l : TableLayout). value_of_parts new.cluster (cluster_bytes l) (parts_at new UPCASE DATA [])) writes.layout
    ∙ ap (λ (r : Records). value_of_parts new.cluster (cluster_bytes old.layout) (filter (is_of DATA []) (parts r UPCASE)))
    (same is_bits_key old new writes)
    ∙ value-frame old.cluster new.cluster (cluster_bytes old.layout) (parts_at old UPCASE DATA [])
    (clusters-kept is_bits_key old new writes owners UPCASE DATA [] refl)

module _ (old new : VolumeView) (f : ℕ) (name : List ℕ) (node : Node) (can : CanSet old f node)
    {gains : ℕ → Bool} (e : EditsAlone (key_of f DATA name) gains old new) where
  abbrev key : Key
  key = key_of f DATA name

  layout : new.layout ≡ old.layout
  layout = value.layout key old new can.sound can.apart e

  layout-mid : e.mid.layout ≡ old.layout
  layout-mid = value.layout-mid key old new can.sound can.apart e

  blocks-mid : (n : ℕ) → e.mid.block n ≡ old.block n
  blocks-mid = before.blocks-mid key old e.mid e.given e.taken e.prepares

  records-mid : records_of e.mid ≡ records_of old
  records-mid = value.records-mid key old new can.sound can.apart e

  readable : IsReadableVolume old
  readable = readable-sound old can.sound

  edited : Edited (same_key key) (value.wants key old new can.sound can.apart e) old new (right_marks old) (right_marks new)
  edited = value.edited key old new can.sound can.apart e

  at : EditsAt (records_of old) (records_of new) f (parts_made f (e.was ∷ [])) (parts_made f (option_to_list e.now))
  at = subst (λ (r : Records). EditsAt r (records_of new) f (parts_made f (e.was ∷ [])) (parts_made f (option_to_list e.now))) records-mid
      (edit-of e.mid new f e.stored (e.was ∷ []) (option_to_list e.now) e.block)

  well-formed : IsWellFormed (old.block f)
  well-formed = readable.shape f (subst (λ (l : TableLayout). f < l.count) layout-mid e.block.inside)
      (subst (λ (block : List ℕ). IsTrue (is_in_use block)) (blocks-mid f) e.block.used)

  -- RECORDS in use were so before
  used-before : (n : ℕ) → IsTrue (is_some (record_on new n)) → IsTrue (is_some (record_on old n))
  used-before n used = elim (cases_eq n f) [
    | inl same ↦ ap (λ m. is_some (record_on old m)) same ∙ ap (λ (o : Option Record). is_some o) at.was_at
    | inr other ↦ ap (λ (o : Option Record). is_some o) (sym (at.changes.others n other)) ∙ used
  ]

  pub write-kept : CanWrite old → CanWrite new
  write-kept write = record {
    apart = subst IsApart (sym layout) write.apart;
    written = λ n used. subst (λ (l : TableLayout). 1024 * n + 1024 ≤ l.initialized) (sym layout) (write.written n (used-before n used));
  }

  -- .. and of the same file
  record-back : (g n : ℕ) → IsRecordOf new g n → IsRecordOf old g n
  record-back g n is = elim (cases_eq n f) [
    | inl same ↦ subst (IsRecordOf old g) (sym same) (record {
      belongs = subst (λ (o : Option Record). IsSomeAnd o (λ r. file_of f r ≡ g)) (sym at.was_at)
          (sym (file_of-kept f at.was_record at.now_record at.header)
          ∙ subst (λ (o : Option Record). IsSomeAnd o (λ r. file_of f r ≡ g)) at.now_at
          (subst (λ m. IsSomeAnd (record_on new m) (λ r. file_of m r ≡ g)) same is.belongs));
      well_formed = well-formed;
    })
    | inr other ↦ record {
      belongs = subst (λ (o : Option Record). IsSomeAnd o (λ r. file_of n r ≡ g)) (at.changes.others n other) is.belongs;
      well_formed = subst IsWellFormed (e.block.replaces.blocks n other ∙ blocks-mid n) is.well_formed;
    }
  ]

  pub file-before : (g sector : ℕ) → IsOfFile new g sector → IsOfFile old g sector
  file-before g sector (n, is, among) =
      (n, record-back g n is, subst (λ (l : TableLayout). Contains (record_places l n) sector) layout among)

  -- INDEXES lie where they lay
  index-before : (dir sector : ℕ) → IsOfIndex new dir sector → IsOfIndex old dir sector
  index-before dir sector (vcn, among) =
      let spots : spot_at (names_index new dir).records ≡ spot_at (names_index old dir).records =
      fun_ext ((edited.kept dir).spots INDEX_ALLOCATION index_name refl) in (
        vcn,
        subst (λ (l : TableLayout). Contains (record_sectors l (spot_at (names_index old dir).records) vcn) sector) layout
            (subst (λ (s : ℕ → Spot). Contains (record_sectors new.layout s vcn) sector) spots among),
      )

  directory-before : (dir sector : ℕ) → IsOfDirectory new dir sector → IsOfDirectory old dir sector
  directory-before dir sector (inl is) = inl (file-before dir sector is)
  directory-before dir sector (inr is) = inr (index-before dir sector is)

  -- NAMES of the file are as many, in the same directories
  names : KeepsNames (records_of old) (records_of new) f
  names = edit.names key old new can.sound can.apart e f

  pub names-many : length (names_of (records_of new) f) ≡ length (names_of (records_of old) f)
  names-many = SameItems-length (names_of (records_of old) f) (names_of (records_of new) f) names.names

  pub names-before : (sector : ℕ) → IsOfNames new (names_of (records_of new) f) sector → IsOfNames old (names_of (records_of old) f) sector
  names-before sector (n, among, dir) =
      let was = SameItems-passing (λ (m : FileName). m.parent.number == n.parent.number) (names_of (records_of new) f)
      (names_of (records_of old) f) n (SameItems-sym (names_of (records_of old) f) (names_of (records_of new) f) names.names) among
      (eq-eqb n.parent.number n.parent.number refl) in
      let same : was.0.parent.number ≡ n.parent.number = eqb-true was.0.parent.number n.parent.number was.2 in (
        was.0,
        was.1,
        subst (λ d. IsOfDirectory old d sector) (sym same) (directory-before n.parent.number sector dir),
      )

  -- WHAT IS STORED: the table of case stays, ..
  case-kept : value_on new (case_parts new) ≡ value_on old (case_parts old)
  case-kept =
      value-kept (either is_room_key (same_key key)) old new UPCASE DATA [] (edited.kept UPCASE)
      (edit.case-unnamed key old new can.sound can.apart e (not-case old f node can.there))
      (one-first old UPCASE DATA [] (bases-of (records_of old) (can.sound References)) readable.extents (λ z. cc))
      (ap (λ (l : TableLayout). cluster_bytes l) layout)

  -- .. and the flags are those of a volume on which the same clusters were given back, and taken.
  module _ (freed back : VolumeView) (given taken : List Run) (gives : GivesBack old freed given) (takes : TakesRuns freed back taken)
      (times_given : (c : ℕ) → times_covered e.given c ≡ times_covered given c)
      (times_taken : (c : ℕ) → times_covered e.taken c ≡ times_covered taken c) where
    ready-old : IsReady old (right_marks old)
    ready-old = value.ready-sound old (right_marks old) can.sound can.apart (marks-right old)

    -- each that was given back had an owner
    owned : AreOwned old given
    owned c =
        let all = value.owned-now key old new can.sound can.apart e c in
        let back = times_given c in
        elim (cases_eq (times_covered e.taken c) 0) [
          | inl none ↦ omega (arith, all, back, none)
          | inr some ↦ let none = e.prepares.differ c (omega (arith, some)) in omega (arith, back, none)
        ]

    owners-freed : HasOwners freed
    owners-freed = owners-ready freed (right_marks old) (flush.ready-back old freed given gives (right_marks old) ready-old owned)

    layout-back : back.layout ≡ old.layout
    layout-back = takes.writes.layout ∙ gives.writes.layout

    case-back : value_on back (case_parts back) ≡ value_on old (case_parts old)
    case-back = case-flush freed back takes.writes owners-freed ∙ case-flush old freed gives.writes can.apart.owners

    -- a flag by what was done with its cluster
    others : (c : ℕ) → times_covered taken c ≡ 0
        → bit_in (value_on e.prepares.freed (cluster_bits e.prepares.freed)) c ≡ bit_in (value_on freed (cluster_bits freed)) c
    others c none = elim (cases_eq (times_covered given c) 0) [
      | inl kept ↦ e.prepares.gives.others c (times_given c ∙ kept) ∙ sym (gives.others c kept)
      | inr some ↦
          let same = times_given c in e.prepares.gives.given c (omega (arith, same, some)) ∙ sym (gives.given c (omega (arith, some)))
    ]

    flag-set : (c : ℕ) → bit_in (value_on e.prepares.flagged (cluster_bits e.prepares.flagged)) c
        ≡ bit_in (value_on back (cluster_bits back)) c
    flag-set c = elim (cases_eq (times_covered taken c) 0) [
      | inl none ↦ e.prepares.takes.others c (times_taken c ∙ none) ∙ others c none ∙ sym (takes.others c none)
      | inr some ↦
          let same = times_taken c in e.prepares.takes.taken c (omega (arith, same, some)) ∙ sym (takes.taken c (omega (arith, some)))
    ]

    flag : (c : ℕ) → bit_in (value_on new (cluster_bits new)) c ≡ bit_in (value_on back (cluster_bits back)) c
    flag c =
        let bits : value_on new (cluster_bits new) ≡ value_on e.mid (cluster_bits e.mid) =
        edit.value-still key old new can.sound can.apart e CLUSTER_BITMAP DATA (omega arith) (λ z. absurd (omega (arith, z))) refl in
        ap (λ (value : List ℕ). bit_in value c) (bits ∙ value.flags-mid key old new can.sound can.apart e) ∙ flag-set c

    rows : value_on new (record_bits new) ≡ value_on back (record_bits back)
    rows = edit.value-still key old new can.sound can.apart e MFT BITMAP (omega arith) (λ z. absurd (omega (arith, z))) refl
        ∙ value.rows-mid key old new can.sound can.apart e ∙ sym gives.records ∙ sym takes.records

    same-layout : new.layout ≡ back.layout
    same-layout = layout ∙ sym layout-back

    pub stored-kept : (clusters records : List Bool) (upcase : List ℕ) → AreStored back clusters records upcase
        → AreStored new clusters records upcase
    unfolding flags_in
    stored-kept clusters records upcase stored = record {
      clusters_are = stored.clusters_are
          ∙ sym (ap (λ (l : TableLayout). map (λ at. bit_in (value_on new (cluster_bits new)) at == 1)
          (range_with_len 0 l.clusters)) same-layout
          ∙ ap (λ (p : ℕ → Bool). map p (range_with_len 0 back.layout.clusters)) (fun_ext (λ (c : ℕ). ap (λ b. b == 1) (flag c))));
      records_are = stored.records_are
          ∙ sym (ap (λ (l : TableLayout). flags_in (value_on new (record_bits new)) l.count) same-layout
          ∙ ap (λ v. flags_in v back.layout.count) rows);
      upcase_is = stored.upcase_is ∙ case-back ∙ sym case-kept;
    }
