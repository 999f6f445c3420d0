-- BACK OVER THE EDIT OF THE STREAM: what was kept behind it of records, copies, headers, lists and the log, both keep.
use Rattle.std.proofs.Common.{◌≡◌, ◌≢◌, ◌⊎◌, ◌+◌, ◌*◌, ◌/◌, ◌%◌, ◌<◌, ◌≤◌, ◌==◌, ℕ, Bool, true, cond, List, [], ◌∷◌, filter, map}
use Rattle.std.proofs.Common.{Option, Some, None, arith, codes, length, nat_eq, refl, sym, ap, subst, inl, inr, ◌∙◌}
use Rattle.std.specs.List.{Contains}
use Rattle.std.specs.Option.{option_to_list}
use Rattle.std.specs.List.{starts_with}
use Rattle.std.specs.Prelude.{All, IfSome, IsSomeAnd, IsTrue, is_some, slice_index, sum_by}
use Rattle.std.proofs.lemmas.Bool.{and_parts, cases_eq, eq-eqb, or_parts}
use Rattle.std.proofs.lemmas.List.Elements.{All-contains}
use Rattle.list_laws.proofs.MemberLaws.{All-from_Contains, Contains-filter, Contains-head, Contains-map, Contains-nil, Contains-only}
use Rattle.list_laws.specs.SameItems.{SameItems}
use Rattle.list_laws.proofs.CodedLaws.{SameItems-Contains}
use Rattle.list_laws.proofs.SameItemsLaws.{SameItems-length}
use Rattle.ntfs_def.specs.Attribute.{Attribute, Body, NonResident, Resident}
use Rattle.ntfs_def.specs.Fixup.{opened_of}
use Rattle.ntfs_def.specs.ListOrder.{AreInOrder}
use Rattle.ntfs_def.specs.Record.{Header, header_of, is_in_use, record_flags, sequence_of}
use Rattle.ntfs_def.specs.declared.kinds.TheConstants.{DATA, FILE_NAME}
use Rattle.ntfs_def.specs.declared.records.TheConstants.{CLUSTER_BITMAP, LOG_FILE, MFT, VOLUME}
use Rattle.volume_def.specs.CaseClause.{volume_fold}
use Rattle.volume_def.specs.ExtentsClause.{AreAttribute, AreWhole}
use Rattle.volume_def.specs.Files.{Part, Record, file_of, is_base, is_directory, part_of, record_of, record_on}
use Rattle.volume_def.specs.Freed.{sequence_after, sequence_at_first, stored_sequence}
use Rattle.volume_def.specs.Readable.{IsDirectory, IsFile}
use Rattle.volume_def.specs.Sound as clauses
use Rattle.volume_def.specs.Sound.{IsSound}
use Rattle.volume_def.specs.Table.{TableLayout, cluster_bytes}
use Rattle.volume_def.specs.Values.{spot_at}
use Rattle.volume_def.specs.View.{VolumeView}
use Rattle.volume_def.proofs.Codes.{part_code}
use Rattle.volume_def.proofs.ViewLaws.{ChangesAt-block}
use Rattle.edit_def.specs.Forms.{ComeRightly, IsNewForm, begins, form_of, forms_of}
use Rattle.edit_def.specs.Kept.{Key, same_key}
use Rattle.edit_def.specs.ListOrder.{KeepsListOrder, entries_of}
use Rattle.edit_def.specs.Purses.{run_size}
use Rattle.edit_def.specs.Unused.{KeepsHeader, KeepsUnused}
use Rattle.record_edits.specs.InPlace.{is_bits_key}
use Rattle.record_edits.proofs.BlockEdits.{base-file, now-at, was-at}
use Rattle.record_edits.proofs.FormEdits.{forms-come}
use Rattle.record_edits.proofs.WholeLaws.{whole-from}
use Rattle.value_edits.specs.Below.{KeepsRecord, record_there}
use Rattle.session_def.specs.Cost.{log_parts}
use Rattle.session_def.specs.Room.{KeepsBlocks, KeepsCopies, KeepsLogEnd}
use Rattle.value_edits.specs.Unnamed.{LiesApart}
use Rattle.value_edits.specs.ValueEdits.{ComesInPlace, EditsAlone}
use Rattle.value_owed.proofs.ClustersGiven as given
use Rattle.value_owed.proofs.ValueSame as same
use Rattle.value_owed.proofs.ValueSame.{never}

-- the number of a block that is in use
sequence-used : (stored : List ℕ) → is_in_use stored ≡ true → stored_sequence stored ≡ (header_of (opened_of stored)).sequence
unfolding header_of
sequence-used stored used =
    ap (λ b. cond b (sequence_of (opened_of stored)) 0) (and_parts (starts_with nat_eq stored (codes "FILE"))
    (record_flags stored % 2 == 1) used).0

-- an attribute that is all of a stream begins it
only-item : (x : Part) (xs : List Part) → SameItems (x ∷ []) xs → xs ≡ x ∷ []
only-item x xs same = by xs (SameItems-length (x ∷ []) xs same) (SameItems-Contains part_code (x ∷ []) xs x same (Contains-head x []))
  where
    by : (xs : List Part) → length xs ≡ 1 → Contains xs x → xs ≡ x ∷ []
    by [] long c = absurd (Contains-nil x c)
    by (y ∷ []) long c = ap (λ (p : Part). p ∷ []) (Contains-only y x c)
    by (y ∷ z ∷ xs) long c = absurd (omega (arith, long))

whole-begins : (n : ℕ) (a : Attribute) → AreWhole (part_of n a ∷ []) → begins a ≡ true
whole-begins n a = by a.body
  where
    by : (body : Body) → AreWhole (part_of n (record a { body = body }) ∷ []) → begins (record a { body = body }) ≡ true
    by (Resident bytes) whole = refl
    by (NonResident extent text) (inl value) = cc
    by (NonResident extent text) (inr first) = eq-eqb extent.sizes.first 0 first.first

module _ (key : Key) (old mid : VolumeView) (sound : IsSound old) (apart : LiesApart old) {gains : ℕ → Bool}
    (e : EditsAlone key gains old mid) (next : VolumeView) where
  was-there : record_on old key.file ≡ Some (record_there old key.file)
  was-there =
      sym (same.on-cleared key old mid sound apart e key.file)
      ∙ was-at e.mid mid key.file e.stored (e.was ∷ []) (option_to_list e.now) e.block
      ∙ ap (λ block. Some (record_of key.file (opened_of block))) (same.block-cleared key old mid sound apart e key.file)

  now-there : record_on mid key.file ≡ Some (record_of key.file (opened_of e.stored))
  now-there = now-at e.mid mid key.file e.stored (e.was ∷ []) (option_to_list e.now) e.block

  record-same : (n : ℕ) → n ≢ key.file → record_on mid n ≡ record_on old n
  record-same n ne =
      (ChangesAt-block e.mid mid key.file e.stored e.block.replaces).others n ne ∙ same.on-cleared key old mid sound apart e n

  some-record : (a b : Record) → ◌≡◌ {A = Option Record} (Some a) (Some b) → a ≡ b
  some-record a b e = cc

  -- RECORDS of files that are not changed
  pub blocks-back : (files : ℕ → Bool) → files key.file ≡ true → KeepsBlocks files mid next → KeepsBlocks files old next
  blocks-back files changed rest n r at other = elim (cases_eq n key.file) [
    | inr ne ↦ rest n r (record-same n ne ∙ at) other ∙ same.block-same key old mid sound apart e n ne
    | inl is ↦
        let r_is : record_there old key.file ≡ r = some-record (record_there old key.file) r
        (sym was-there ∙ ap (record_on old) (sym is) ∙ at) in
        let file : file_of n r ≡ key.file =
        ap (file_of n) (sym r_is) ∙ ap (λ k. file_of k (record_there old key.file)) is
        ∙ base-file key.file (record_there old key.file) e.one.base in
        let free = or_parts (file_of n r == CLUSTER_BITMAP) (files (file_of n r))
        (or_parts (file_of n r == VOLUME) _ (or_parts (file_of n r == MFT) _ other).1).1 in
        absurd (never (ap files file ∙ changed) free.1)
  ]

  pub copies-back : KeepsCopies mid next → KeepsCopies old next
  copies-back rest n few same_block =
      rest n few (same_block ∙ sym (same.first-block key old mid sound apart e n few)) ∙ same.first-copy key old mid sound apart e n few

  -- RECORDS NOT IN USE, and headers
  same-header : (was now : Header) → now ≡ was → KeepsRecord was now
  same-header was now is = record { next = was.next_id; is = is; rises = omega arith }

  header-kept : (n : ℕ) (was now : Record) → record_on old n ≡ Some was → record_on mid n ≡ Some now → KeepsRecord was.header now.header
  header-kept n was now at bt = elim (cases_eq n key.file) [
    | inr ne ↦
        same-header was.header now.header (ap (λ (r : Record). r.header) (some-record now was (sym bt ∙ record-same n ne ∙ at)))
    | inl is ↦
        let a = some-record (record_of key.file (opened_of e.stored)) now (sym now-there ∙ ap (record_on mid) (sym is) ∙ bt) in
        let b = some-record (record_there old key.file) was (sym was-there ∙ ap (record_on old) (sym is) ∙ at) in
        subst (λ (r : Record). KeepsRecord was.header r.header) a
        (subst (λ (r : Record). KeepsRecord r.header (header_of (opened_of e.stored))) b e.header)
  ]

  sequence-same : (n : ℕ) → stored_sequence (mid.block n) ≡ stored_sequence (old.block n)
  sequence-same n = elim (cases_eq n key.file) [
    | inr ne ↦ ap stored_sequence (same.block-same key old mid sound apart e n ne)
    | inl is ↦
        ap (λ k. stored_sequence (mid.block k)) is ∙ ap stored_sequence (e.block.replaces.block e.block.told)
        ∙ sequence-used e.stored e.block.used_still ∙ ap (λ (h : Header). h.sequence) e.header.is
        ∙ sym (sequence-used (old.block key.file) (same.used key old mid sound apart e))
        ∙ sym (ap (λ k. stored_sequence (old.block k)) is)
  ]

  none-same : (n : ℕ) → record_on old n ≡ None → record_on mid n ≡ None
  none-same n none = by (record_on mid n) refl
    where
      by : (o : Option Record) → record_on mid n ≡ o → record_on mid n ≡ None
      by None e = e
      by (Some r) there = absurd (never (sym (same.used-same key old mid sound apart e n) ∙ ap is_some there) (ap is_some none))

  some-still : (n : ℕ) → is_some (record_on old n) ≡ true → is_some (record_on mid n) ≡ true
  some-still n there = same.used-same key old mid sound apart e n ∙ there

  there-mid : (n : ℕ) (was : Record) → record_on old n ≡ Some was → (r : Record) × (record_on mid n ≡ Some r)
  there-mid n was at = by (record_on mid n) refl
    where
      by : (o : Option Record) → record_on mid n ≡ o → (r : Record) × (record_on mid n ≡ Some r)
      by None none = absurd (never (some-still n (ap is_some at)) (ap is_some none))
      by (Some r) there = (r, there)

  -- a directory is one still
  pub directory-still : (dir : ℕ) → IsDirectory old dir → IsDirectory mid dir
  directory-still dir is = by (record_on old dir) refl is
    where
      by : (o : Option Record) → record_on old dir ≡ o → IsSomeAnd o (λ r. IsTrue (is_base r) × IsTrue (is_directory r))
          → IsDirectory mid dir
      by None at is = absurd is
      by (Some was) at is =
          let r = there-mid dir was at in
          subst (λ o. IsSomeAnd o (λ r. IsTrue (is_base r) × IsTrue (is_directory r))) (sym r.1)
          (subst (λ (h : Header). IsTrue (is_base (record was { header = h })) × IsTrue (is_directory (record was { header = h })))
          (sym (header-kept dir was r.0 at r.1).is) is)

  headers-then : (was between now : Header) → KeepsRecord was between → KeepsHeader between now → KeepsHeader was now
  headers-then was between now first rest = record {
    flags = rest.flags ∙ ap (λ (h : Header). h.flags) first.is;
    number = rest.number ∙ ap (λ (h : Header). h.number) first.is;
    next_id =
        let next : between.next_id ≡ first.next = ap (λ (h : Header). h.next_id) first.is in
        let rises = first.rises in
        let later = rest.next_id in
        omega (arith, next, rises, later);
  }

  pub unused-back : KeepsUnused mid next → KeepsUnused old next
  unused-back rest =
      let count : mid.layout.count ≡ old.layout.count = ap (λ (l : TableLayout). l.count) (same.layout key old mid sound apart e) in
      let inside : (n : ℕ) → n < old.layout.count → n < mid.layout.count = λ n low. subst (λ k. n < k) (sym count) low in
      record {
        idle = λ n low was now.
            rest.idle n (inside n low) (none-same n was) now ∙ same.block-same key old mid sound apart e n
            (λ is. never (ap is_some was-there) (ap (λ k. is_some (record_on old k)) (sym is) ∙ ap is_some was));
        freed = λ n low was now.
            subst (λ s. stored_sequence (next.block n) ≡ sequence_after s) (sequence-same n)
            (rest.freed n (inside n low) (some-still n was) now);
        taken = λ n low was now.
            subst (λ s. stored_sequence (next.block n) ≡ sequence_at_first s) (sequence-same n)
            (rest.taken n (inside n low) (none-same n was) now);
        stays = λ n low was now.
            subst (λ s. (stored_sequence (next.block n) ≡ s) ⊎ (stored_sequence (next.block n) ≡ sequence_after s)) (sequence-same n)
            (rest.stays n (inside n low) (some-still n was) now);
        headers = λ n was now at bt file number.
            let r = there-mid n was at in
            let header = header-kept n was r.0 at r.1 in
            headers-then was.header r.0.header now.header header
            (rest.headers n r.0 now r.1 bt
            (file ∙ sym (ap (λ (h : Header). file_of n (record was { header = h })) header.is))
            (number ∙ sym (sequence-same n)));
        comes = λ n now at bt. rest.comes n now (none-same n at) bt;
      }

  -- HEADERS OF ATTRIBUTES
  is-file : IsFile old key.file
  is-file =
      subst (λ o. IsSomeAnd o (λ r. IsTrue (is_base r))) (same.on-cleared key old mid sound apart e key.file)
      (same.part key old mid sound apart e).is_file

  no-name : key.kind ≢ FILE_NAME
  no-name is = let stream = e.kind in absurd (omega (arith, is, stream))

  -- the stream stood in one attribute, which began it
  was-begins : begins e.was ≡ true
  was-begins = elim (whole-from old key (sound clauses.Extents key.file) is-file no-name) [
    | inl none ↦ absurd (Contains-nil (part_of key.file e.was)
        (subst (λ xs. Contains xs (part_of key.file e.was)) (sym e.stood ∙ none) (Contains-head (part_of key.file e.was) [])))
    | inr are ↦
        let its = subst (AreAttribute (cluster_bytes old.layout) key.file) e.stood are in
        whole-begins key.file e.was
        (subst AreWhole (only-item (part_of key.file e.was) its.ordered its.order) its.whole)
  ]

  came : (now : Option Attribute) → IfSome now (ComesInPlace old key.file gains (sum_by run_size e.taken) e.was) → (a : Attribute)
      → Contains (option_to_list now) a → (form_of a ≡ form_of e.was) ⊎ IsNewForm (form_of a)
  came None comes a c = absurd (Contains-nil a c)
  came (Some now) comes a c =
      subst (λ (x : Attribute). (form_of x ≡ form_of e.was) ⊎ IsNewForm (form_of x)) (Contains-only now a c) comes.form

  forms-cleared : (f : ℕ) → ComeRightly e.mid mid f
  forms-cleared f = forms-come e.mid mid key.file e.stored (e.was ∷ []) (option_to_list e.now) e.block f (λ a c first.
      elim (came e.now e.comes a c) [
        | inl same ↦ inl (subst (Contains (map form_of (filter begins (e.was ∷ [])))) (sym same)
            (Contains-map form_of (filter begins (e.was ∷ [])) e.was
            (Contains-filter begins (e.was ∷ []) e.was (Contains-head e.was []) was-begins)))
        | inr fresh ↦ inr fresh
      ])

  forms-prepared : (f : ℕ) → forms_of e.mid f ≡ forms_of old f
  forms-prepared f =
      given.forms-same (same_key key) e.prepares.flagged e.mid e.prepares.fills f
      ∙ given.forms-same is_bits_key e.prepares.freed e.prepares.flagged e.prepares.takes.writes f
      ∙ given.forms-same is_bits_key old e.prepares.freed e.prepares.gives.writes f

  forms-value : (f : ℕ) → ComeRightly old mid f
  forms-value f =
      subst (λ forms. All (λ form. Contains forms form ⊎ IsNewForm form) (forms_of mid f))
      (forms-prepared f) (forms-cleared f)

  pub forms-back : (f : ℕ) → ComeRightly mid next f → ComeRightly old next f
  forms-back f rest = All-from_Contains (λ form. Contains (forms_of old f) form ⊎ IsNewForm form) (forms_of next f) (λ form c.
      elim (All-contains (λ form. Contains (forms_of mid f) form ⊎ IsNewForm form) (forms_of next f) form rest c) [
        | inl there ↦ All-contains (λ form. Contains (forms_of old f) form ⊎ IsNewForm form) (forms_of mid f) form (forms-value f) there
        | inr fresh ↦ inr fresh
      ])

  -- LISTS stay in order, by the same table of case
  pub order-back : volume_fold mid ≡ volume_fold old → (f : ℕ) → KeepsListOrder mid next f → KeepsListOrder old next f
  order-back fold f rest right =
      subst (λ order. AreInOrder order (entries_of next f)) fold
      (rest (subst (λ order. AreInOrder order (entries_of mid f)) (sym fold)
      (subst (AreInOrder (volume_fold old)) (sym (same.entries-same key old mid sound apart e f)) right)))

  -- THE LOG as far as it is not emptied
  pub log_end-back : KeepsLogEnd mid next → KeepsLogEnd old next
  log_end-back rest i cluster behind at =
      let size = same.size key old mid sound apart e in
      let past = subst (λ bytes. (bytes + 511) / 512 * 512 ≤ i) (sym (same.log_bytes-same key old mid sound apart e)) behind in
      let there = ap (λ s. spot_at (log_parts mid) (i / s)) size
      ∙ ap (λ xs. spot_at xs (i / cluster_bytes old.layout)) (same.log-same key old mid sound apart e) ∙ at in
      subst (λ s. slice_index (next.cluster cluster) (i % s) ≡ slice_index (mid.cluster cluster) (i % s)) size (rest i cluster past there)
      ∙ ap (λ bytes. slice_index bytes (i % cluster_bytes old.layout))
      (same.clusters-same key old mid sound apart e LOG_FILE DATA [] (same.no-log key old mid sound apart e) refl refl
      (i / cluster_bytes old.layout) cluster at)
