-- WHAT THE EDIT OF ONE STREAM KEEPS, exactly: all parts but its own, all blocks but one, and the values of all attributes but the stream's
-- and the two bitmaps'.
use Rattle.std.proofs.Common.{◌≡◌, ◌≢◌, ◌+◌, ◌/◌, ◌<◌, ◌≤◌, ◌==◌, ◌&&◌, not, ℕ, Bool, true, false, List, [], filter}
use Rattle.std.proofs.Common.{map, sym, ap, subst, inl, inr, ◌∙◌, arith, if◌then◌else◌}
use mathlib.Core.Path.{fun_ext}
use Rattle.std.specs.List.{Contains}
use Rattle.std.specs.Option.{option_map, option_map_or, option_to_list}
use Rattle.std.specs.Prelude.{IsTrue, filter_map, is_some, sum_by}
use Rattle.std.specs.Str.{bytes_eq}
use Rattle.std.proofs.lemmas.Bool.{and_left, and_parts, and_right, cases_eq, eqb-true, false_from_ne_true, ne_eqb}
use Rattle.std.proofs.lemmas.Slice.Eq.{bytes_eq-Decides}
use Rattle.list_laws.proofs.MemberLaws.{Contains-from_filter, Contains-from_map}
use Rattle.list_laws.proofs.ReplacesLaws.{Replaces-filter, Replaces-itself, Replaces-map}
use Rattle.ntfs_def.specs.AttributeList.{list_entries}
use Rattle.ntfs_def.specs.Attribute.{attributes, first_value}
use Rattle.ntfs_def.specs.FileName.{name_in}
use Rattle.ntfs_def.specs.Fixup.{opened_of}
use Rattle.ntfs_def.specs.Record.{is_in_use}
use Rattle.ntfs_def.specs.VolumeInformation.{dirty_bit}
use Rattle.ntfs_def.specs.declared.kinds.TheConstants.{ATTRIBUTE_LIST, DATA, FILE_NAME, VOLUME_INFORMATION}
use Rattle.ntfs_def.specs.declared.records.TheConstants.{LOG_FILE, VOLUME}
use Rattle.ntfs_def.specs.declared.run_text.Spot.TheVariants.{At}
use Rattle.volume_def.specs.FileNames.{is_file_name, names_of}
use Rattle.volume_def.specs.Edits.{EditsAt}
use Rattle.volume_def.specs.Files.{Part, Records, content_extent, content_value, file_of, is_of, parts, parts_at, record_on, records_of}
use Rattle.volume_def.specs.ListsClause.{is_list}
use Rattle.volume_def.specs.Sound.{IsSound}
use Rattle.volume_def.specs.Table.{TableLayout, cluster_bytes}
use Rattle.volume_def.specs.Values.{KeepsClusters, first_part, is_first, spot_at, value_of_parts, value_on}
use Rattle.volume_def.specs.View.{VolumeView}
use Rattle.volume_def.proofs.RecordLaws.{parts-other, parts-own_at}
use Rattle.volume_def.proofs.ValueLaws.{spot_at-owned, value-frame}
use Rattle.edit_def.specs.Account.{Wants}
use Rattle.edit_def.specs.Edited.{Edited, is_table_key}
use Rattle.edit_def.specs.Kept.{Key, Told, is_name_told, key_of, same_key, told_by, told_names, told_of}
use Rattle.edit_def.specs.Marks.{Marks}
use Rattle.edit_def.specs.ListOrder.{entries_of}
use Rattle.edit_def.specs.Names.{numbers_at}
use Rattle.edit_def.specs.Purses.{run_size}
use Rattle.ntfs_def.specs.Flags.{is_packed}
use Rattle.record_edits.specs.InPlace.{is_bits_key}
use Rattle.record_edits.specs.RecordEdit.{EditsPart, parts_made}
use Rattle.record_edits.proofs.BlockEdits.{attribute-stays, part-stays}
use Rattle.record_edits.proofs.ClauseEdits as clauses
use Rattle.record_edits.proofs.FileEdits as files
use Rattle.record_edits.proofs.PartEdits.{AreNamed, filter-nil}
use Rattle.session_def.specs.Cost.{log_bytes, log_parts, log_size}
use Rattle.session_def.specs.Done.{first_cost}
use Rattle.session_def.specs.State.{dirty_flag}
use Rattle.value_edits.specs.Unnamed.{LiesApart}
use Rattle.value_edits.proofs.MarksLaws.{right_marks}
use Rattle.value_edits.specs.ValueEdits.{EditsAlone, only_clusters}
use Rattle.value_edits.proofs.EditedRecord as value
use Rattle.value_edits.proofs.Prepared as before
use Rattle.value_owed.proofs.ClustersGiven as given

pub never : {b : Bool} → b ≡ true → b ≡ false → ⊥
never x y = cc

module _ (key : Key) (old mid : VolumeView) (sound : IsSound old) (apart : LiesApart old) {gains : ℕ → Bool}
    (e : EditsAlone key gains old mid) where
  -- THE EDIT of the record is one of the volume that was prepared, which has the records of the one before.
  abbrev pub cleared : VolumeView
  cleared = e.mid

  pub records-cleared : records_of cleared ≡ records_of old
  records-cleared = value.records-mid key old mid sound apart e

  pub on-cleared : (n : ℕ) → record_on cleared n ≡ record_on old n
  on-cleared n = ap (λ (r : Records). r.record_at n) records-cleared

  pub block-cleared : (n : ℕ) → cleared.block n ≡ old.block n
  block-cleared = before.blocks-mid key old cleared e.given e.taken e.prepares

  abbrev was_marks : Marks
  was_marks = right_marks old

  abbrev now_marks : Marks
  now_marks = right_marks mid

  pub part : EditsPart key cleared mid was_marks now_marks
  part = value.part key old mid sound apart e

  -- what it takes
  abbrev pub wants : Wants
  wants = only_clusters (sum_by run_size e.taken)

  pub edited : Edited (same_key key) wants old mid was_marks now_marks
  edited = value.edited key old mid sound apart e

  pub stands : parts_at mid key.file key.kind key.name ≡ parts_made key.file (option_to_list e.now)
  stands = value.stands key old mid sound apart e

  pub layout : mid.layout ≡ old.layout
  layout = value.layout key old mid sound apart e

  pub size : cluster_bytes mid.layout ≡ cluster_bytes old.layout
  size = ap cluster_bytes layout

  -- its record was in use
  pub inside : key.file < old.layout.count
  inside = subst (λ (l : TableLayout). key.file < l.count) (value.layout-mid key old mid sound apart e) e.block.inside

  pub used : IsTrue (is_in_use (old.block key.file))
  used = subst (λ block. IsTrue (is_in_use block)) (block-cleared key.file) e.block.used

  -- THE ATTRIBUTE is a stream of the file
  pub other-kind : (g kind : ℕ) (name : List ℕ) → kind ≢ DATA → same_key key (key_of g kind name) ≡ false
  other-kind g kind name ne = and_left (key.kind == kind) _ (ne_eqb key.kind kind (λ same. ne (sym same ∙ e.kind)))

  pub other-file : (g kind : ℕ) (name : List ℕ) → key.file ≢ g → same_key key (key_of g kind name) ≡ false
  other-file g kind name ne =
      and_right (key.kind == kind) ((key.file == g) && bytes_eq key.name name)
      (and_left (key.file == g) (bytes_eq key.name name) (ne_eqb key.file g ne))

  abbrev middle : EditsAt (records_of cleared) (records_of mid) part.n (parts_made part.n part.was) (parts_made part.n part.now)
  middle = clauses.edit key cleared mid was_marks now_marks part

  abbrev pub edit : EditsAt (records_of old) (records_of mid) part.n (parts_made part.n part.was) (parts_made part.n part.now)
  edit = record {
    changes = record {
      count = middle.changes.count ∙ ap (λ (r : Records). r.count) records-cleared;
      others = λ m ne. middle.changes.others m ne ∙ on-cleared m;
    };
    inside = subst (λ (r : Records). part.n < r.count) records-cleared middle.inside;
    was_record = middle.was_record;
    now_record = middle.now_record;
    was_at = sym (on-cleared part.n) ∙ middle.was_at;
    now_at = middle.now_at;
    header = middle.header;
    edit = middle.edit;
  }

  pub was-named : AreNamed (same_key key) (file_of part.n edit.was_record) (parts_made part.n part.was)
  was-named = clauses.was-named key cleared mid was_marks now_marks part

  pub now-named : AreNamed (same_key key) (file_of part.n edit.was_record) (parts_made part.n part.now)
  now-named = clauses.now-named key cleared mid was_marks now_marks part

  -- PARTS: all those of a file that are none of the stream
  none-kept : (g : ℕ) (p : Part → Bool) → ((x : Part) → p x ≡ true → same_key key (key_of g x.kind x.name) ≡ false) → key.file ≡ g
      → (xs : List Part) → AreNamed (same_key key) (file_of part.n edit.was_record) xs → filter p xs ≡ []
  none-kept g p free own xs named = filter-nil p xs (λ x c. false_from_ne_true (p x) (λ is.
      never (subst (λ h. same_key key (key_of h x.kind x.name) ≡ true) (part.file ∙ own) (named x c)) (free x is)))

  pub passed : (g : ℕ) (p : Part → Bool) → ((x : Part) → p x ≡ true → same_key key (key_of g x.kind x.name) ≡ false)
      → filter p (parts (records_of mid) g) ≡ filter p (parts (records_of old) g)
  passed g p free = elim (cases_eq key.file g) [
    | inl own ↦ Replaces-itself _ _ _ _
        (none-kept g p free own (parts_made part.n part.was) was-named
        ∙ sym (none-kept g p free own (parts_made part.n part.now) now-named))
        (Replaces-filter p _ _ _ _ (parts-own_at (records_of old) (records_of mid) part.n g _ _ edit (part.file ∙ own)))
    | inr ne ↦ ap (filter p) (parts-other (records_of old) (records_of mid) part.n g _ _ edit (λ same. ne (sym part.file ∙ same)))
  ]

  -- .. of another type
  pub passed-kind : (g : ℕ) (p : Part → Bool) → ((x : Part) → p x ≡ true → x.kind ≢ DATA)
      → filter p (parts (records_of mid) g) ≡ filter p (parts (records_of old) g)
  passed-kind g p other = passed g p (λ x is. other-kind g x.kind x.name (other x is))

  pub at-same : (g kind : ℕ) (name : List ℕ) → same_key key (key_of g kind name) ≡ false
      → parts_at mid g kind name ≡ parts_at old g kind name
  at-same g kind name free = passed g (is_of kind name) (λ x is.
      let both = and_parts (x.kind == kind) (bytes_eq x.name name) is in
      ap (λ k. same_key key (key_of g k x.name)) (eqb-true x.kind kind both.0)
      ∙ ap (λ n. same_key key (key_of g kind n)) ((bytes_eq-Decides x.name name).0 both.1) ∙ free)

  pub at-kind : (g kind : ℕ) (name : List ℕ) → kind ≢ DATA → parts_at mid g kind name ≡ parts_at old g kind name
  at-kind g kind name other = at-same g kind name (other-kind g kind name other)

  -- WHAT PARTS TELL
  none-told : (g : ℕ) (q : Told → Bool) → ((t : Told) → q t ≡ true → t.kind ≢ DATA) → key.file ≡ g → (xs : List Part)
      → AreNamed (same_key key) (file_of part.n edit.was_record) xs → filter q (map told_by (filter is_first xs)) ≡ []
  none-told g q other own xs named = filter-nil q (map told_by (filter is_first xs)) (λ t c.
      let from = Contains-from_map told_by (filter is_first xs) t c in
      let among = Contains-from_filter is_first xs from.0 from.1 in
      false_from_ne_true (q t) (λ is.
      never (subst (λ h. same_key key (key_of h from.0.kind from.0.name) ≡ true) (part.file ∙ own) (named from.0 among.0))
      (other-kind g from.0.kind from.0.name (subst (λ (u : Told). u.kind ≢ DATA) (sym from.2) (other t is)))))

  pub told-kept : (g : ℕ) (q : Told → Bool) → ((t : Told) → q t ≡ true → t.kind ≢ DATA)
      → filter q (told_of mid g) ≡ filter q (told_of old g)
  told-kept g q other = elim (cases_eq key.file g) [
    | inl own ↦ Replaces-itself _ _ _ _
        (none-told g q other own (parts_made part.n part.was) was-named
        ∙ sym (none-told g q other own (parts_made part.n part.now) now-named))
        (Replaces-filter q _ _ _ _ (Replaces-map told_by _ _ _ _ (Replaces-filter is_first _ _ _ _
        (parts-own_at (records_of old) (records_of mid) part.n g _ _ edit (part.file ∙ own)))))
    | inr ne ↦ ap (λ all. filter q (map told_by (filter is_first all)))
        (parts-other (records_of old) (records_of mid) part.n g _ _ edit (λ same. ne (sym part.file ∙ same)))
  ]

  pub told_names-same : (g : ℕ) → told_names mid g ≡ told_names old g
  told_names-same g = told-kept g is_name_told (λ t is stream. absurd (omega (arith, eqb-true t.kind FILE_NAME is, stream)))

  pub names-same : (g : ℕ) → names_of (records_of mid) g ≡ names_of (records_of old) g
  unfolding names_of
  names-same g =
      ap (filter_map (λ (x : Part). option_map name_in (content_value x.content)))
      (passed-kind g is_file_name (λ x is stream. absurd (omega (arith, eqb-true x.kind FILE_NAME is, stream))))

  -- NUMBERS, and records in use
  pub numbers-same : (g : ℕ) → numbers_at (records_of mid) g ≡ numbers_at (records_of old) g
  numbers-same g =
      files.numbers-kept key cleared mid was_marks now_marks part g ∙ ap (λ (r : Records). numbers_at r g) records-cleared

  pub used-same : (n : ℕ) → is_some (record_on mid n) ≡ is_some (record_on old n)
  used-same = value.used-still key old mid sound apart e

  -- BLOCKS
  pub high : 4 ≤ key.file
  high = elim e.one.may [
    | inl root ↦ omega (arith, root)
    | inr above ↦ omega (arith, above)
  ]

  pub block-same : (n : ℕ) → n ≢ key.file → mid.block n ≡ old.block n
  block-same n ne = e.block.replaces.blocks n ne ∙ block-cleared n

  pub first-block : (n : ℕ) → n < 4 → mid.block n ≡ old.block n
  first-block n few = block-same n (λ same. let h = high in absurd (omega (arith, same, few, h)))

  pub first-copy : (n : ℕ) → n < 4 → mid.copy n ≡ old.copy n
  first-copy n few =
      e.block.replaces.copies n few (λ same. let h = high in absurd (omega (arith, same, few, h)))
      ∙ before.copies-mid key old cleared e.given e.taken e.prepares n few

  -- VALUES, but of the stream, of the table and its mirror, and of the bitmaps
  apart-cleared : LiesApart cleared
  apart-cleared = value.apart-mid key old mid sound apart e

  at-cleared : (g kind : ℕ) (name : List ℕ) → parts_at cleared g kind name ≡ parts_at old g kind name
  at-cleared g kind name = ap (λ (r : Records). filter (is_of kind name) (parts r g)) records-cleared

  pub clusters-same : (g kind : ℕ) (name : List ℕ) → same_key key (key_of g kind name) ≡ false → is_table_key (key_of g kind name) ≡ false
      → is_bits_key (key_of g kind name) ≡ false → KeepsClusters old mid (parts_at old g kind name)
  clusters-same g kind name free table bits vcn c at =
      let lies = apart-cleared in
      attribute-stays cleared mid e.block.replaces.clusters lies.owners lies.some lies.unnamed g kind name table vcn c
      (ap (λ xs. spot_at xs vcn) (at-cleared g kind name) ∙ at)
      ∙ value.clusters-mid key old mid sound apart e g kind name free bits vcn c at

  pub value-same : (g kind : ℕ) (name : List ℕ) → same_key key (key_of g kind name) ≡ false → is_table_key (key_of g kind name) ≡ false
      → is_bits_key (key_of g kind name) ≡ false → value_on mid (parts_at mid g kind name) ≡ value_on old (parts_at old g kind name)
  value-same g kind name free table bits =
      ap (λ s. value_of_parts mid.cluster s (parts_at mid g kind name)) size
      ∙ ap (value_of_parts mid.cluster (cluster_bytes old.layout)) (at-same g kind name free)
      ∙ value-frame old.cluster mid.cluster (cluster_bytes old.layout) (parts_at old g kind name)
      (clusters-same g kind name free table bits)

  -- LISTS
  list-clusters : (g vcn c : ℕ) → spot_at (filter is_list (parts (records_of old) g)) vcn ≡ At c → mid.cluster c ≡ old.cluster c
  list-clusters g vcn c at =
      let owned = spot_at-owned (filter is_list (parts (records_of old) g)) vcn c at in
      let its = Contains-from_filter is_list (parts (records_of old) g) owned.0 owned.1 in
      let kind = eqb-true owned.0.kind ATTRIBUTE_LIST its.1 in
      let lies = apart-cleared in
      let wrote = e.prepares in
      let bits : is_bits_key (key_of g owned.0.kind owned.0.name) ≡ false = ap (λ k. is_bits_key (key_of g k owned.0.name)) kind in
      let free : same_key key (key_of g owned.0.kind owned.0.name) ≡ false =
      other-kind g owned.0.kind owned.0.name (λ stream. absurd (omega (arith, kind, stream))) in
      part-stays cleared mid e.block.replaces.clusters lies.owners lies.some lies.unnamed g owned.0 c
      (subst (λ (r : Records). Contains (parts r g) owned.0) (sym records-cleared) its.0)
      (ap (λ k. (k == DATA) && bytes_eq owned.0.name []) kind) owned.2
      ∙ given.part-kept (same_key key) wrote.flagged cleared wrote.fills (value.apart-flagged key old mid sound apart e) g owned.0 c
      (subst (λ (r : Records). Contains (parts r g) owned.0) (sym (before.records-flagged key old cleared e.given e.taken wrote)) its.0)
      free owned.2
      ∙ given.part-kept is_bits_key wrote.freed wrote.flagged wrote.takes.writes (value.apart-freed key old mid sound apart e) g owned.0 c
      (subst (λ (r : Records). Contains (parts r g) owned.0) (sym (before.records-freed key old cleared e.given e.taken wrote)) its.0)
      bits owned.2
      ∙ given.part-kept is_bits_key old wrote.freed wrote.gives.writes apart g owned.0 c its.0 bits owned.2

  pub entries-same : (g : ℕ) → entries_of mid g ≡ entries_of old g
  entries-same g =
      ap list_entries
      (ap (λ s. value_of_parts mid.cluster s (filter is_list (parts (records_of mid) g))) size
      ∙ ap (value_of_parts mid.cluster (cluster_bytes old.layout))
      (passed-kind g is_list (λ x is stream. absurd (omega (arith, eqb-true x.kind ATTRIBUTE_LIST is, stream))))
      ∙ value-frame old.cluster mid.cluster (cluster_bytes old.layout) (filter is_list (parts (records_of old) g)) (list-clusters g))

  -- THE LOG AND THE MARK
  pub no-log : same_key key (key_of LOG_FILE DATA []) ≡ false
  no-log = other-file LOG_FILE DATA [] (λ same. let h = high in absurd (omega (arith, same, h)))

  pub log-same : log_parts mid ≡ log_parts old
  log-same = at-same LOG_FILE DATA [] no-log

  pub log_bytes-same : log_bytes mid ≡ log_bytes old
  unfolding log_bytes
  log_bytes-same =
      ap (λ xs. option_map_or (log_size mid) (first_part xs) 0) log-same
      ∙ ap (λ g. option_map_or g (first_part (log_parts old)) 0) (fun_ext (λ (x : Part).
      ap (λ b. if b && (is_some (content_extent x.content) && not (is_packed x.kind x.flags))
      then option_map_or (λ extent. extent.sizes.initialized) (content_extent x.content) 0 else 0)
      (used-same LOG_FILE)))

  pub first_cost-same : first_cost mid ≡ first_cost old
  first_cost-same =
      ap (λ block. if option_map_or (λ bit. bit == 1) (option_map dirty_bit (first_value VOLUME_INFORMATION (attributes
      (opened_of block)))) false then 0 else 2 + (log_bytes mid + 511) / 512) (first-block VOLUME (omega arith))
      ∙ ap (λ (n : ℕ). if option_map_or (λ bit. bit == 1) (dirty_flag old) false then 0 else 2 + (n + 511) / 512) log_bytes-same
