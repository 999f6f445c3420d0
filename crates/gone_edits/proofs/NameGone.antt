-- THE NAME GOES OUT OF THE RECORD of a file that has one, and no link is counted: what stands then, and what the file tells.
use Rattle.std.proofs.Common.{◌≡◌, ◌≢◌, ◌==◌, ◌++◌, ℕ, false, List, [], ◌∷◌, None, Option, Some, cond, filter, map}
use Rattle.std.proofs.Common.{refl, sym, ap, subst, inl, inr, ◌∙◌, arith, eq-eqb, true}
use Rattle.std.specs.List.{All, Contains, cons_option, filter_map, starts_with}
use Rattle.std.specs.Prelude.{◌%◌, IsSome, codes, nat_eq, option_map, unwrap_or}
use Rattle.std.proofs.lemmas.Bool.{and_parts, or_from}
use Rattle.std.proofs.lemmas.List.Elements.{All-contains, filter_map-append}
use Rattle.list_laws.specs.Replaces.{Replaces}
use Rattle.list_laws.specs.SameItems.{SameItems}
use Rattle.list_laws.proofs.FindLaws.{count-cons}
use Rattle.list_laws.proofs.MemberLaws.{Contains-head, Contains-nil}
use Rattle.list_laws.proofs.ReplacesLaws.{Replaces-count, Replaces-filter, Replaces-map, Replaces-member}
use Rattle.ntfs_def.specs.Attribute.{attributes}
use Rattle.ntfs_def.specs.FileName.{FileName, name_in}
use Rattle.ntfs_def.specs.Fixup.{opened_of}
use Rattle.ntfs_def.specs.Record.{Header, header_of, is_in_use, record_flags, sequence_of}
use Rattle.ntfs_def.specs.declared.kinds.TheConstants.{FILE_NAME}
use Rattle.volume_def.specs.FileNames.{is_file_name, names_of}
use Rattle.volume_def.specs.Files.{Content, Clusters, Part, Value, content_value, part_of, parts, record_of, records_of}
use Rattle.volume_def.specs.Freed.{stored_sequence}
use Rattle.volume_def.specs.Values.{first_vcn_of, is_first}
use Rattle.volume_def.specs.View.{VolumeView}
use Rattle.file_record.specs.Attributes.{RemovesAttribute}
use Rattle.edit_def.specs.Account.{nothing}
use Rattle.edit_def.specs.Edited.{Edited}
use Rattle.edit_def.specs.Kept.{Told, either, is_name_told, told_by, told_names}
use Rattle.edit_def.specs.Marks.{Marks}
use Rattle.edit_def.specs.Names.{KeepsOthers, Numbers, numbers_at}
use Rattle.edit_def.proofs.EditedLaws.{Edited-then}
use Rattle.record_edits.specs.Between.{IsReady}
use Rattle.record_edits.specs.RecordEdit.{parts_made}
use Rattle.record_edits.proofs.BlockEdits.{edit-of}
use Rattle.record_edits.proofs.FileEdits.{numbers-edit}
use Rattle.file_edits.specs.Links.{CountsFileLinks}
use Rattle.file_edits.proofs.LinkEdits as links
use Rattle.record_calls.specs.Calls.{IsInOneRecord, IsOtherValue}
use Rattle.record_calls.specs.Edits.{record_there}
use Rattle.record_calls.proofs.LinkCalls.{counts-file}
use Rattle.record_calls.proofs.Values.{body-value}
use Rattle.record_calls.proofs.WholeCalls.{edited-goes, ready-goes, stood}
use Rattle.name_edits.proofs.NamesInTurn.{KeepsOthers-then}
use Rattle.command_edits.specs.Calls.{IsOfName}
use Rattle.command_edits.specs.Keys.{is_name_key_of, no_key}
use Rattle.command_edits.proofs.CallKeys.{within-nothing}
use Rattle.command_edits.proofs.CallsMade.{Edited-more, within-same}
use Rattle.made_edits.proofs.AloneLaws.{StandsAlone, alone-counted, alone-edited, others-counted, others-edited, parts-counted}
use Rattle.made_edits.proofs.AloneLaws.{parts-edited}
use Rattle.made_edits.proofs.KeyLaws.{own-name}
use Rattle.gone_edits.specs.Goes.{QuitsName}

-- LISTS. Where one item of a list went, the rest and it are the list ..
replaced-same : {A : Type 0} (old new : List A) (x : A) → Replaces old new (x ∷ []) [] → SameItems (x ∷ new) old
replaced-same old new x r = record {
  counts = λ p.
      let a = Replaces-count p old new (x ∷ []) [] r in
      let b = count-cons p x new in
      let c = count-cons p x [] in
      omega (arith, a, b, c);
}

-- .. and a list of one item, with another among it, is that one.
pub record IsOnly {A : Type 0} (xs ys : List A) (x y : A) : Type 0 where
  pub before : xs ≡ []
  pub behind : ys ≡ []
  pub same : x ≡ y

only-one : {A : Type 0} (xs ys : List A) (x y : A) → xs ++ (x ∷ ys) ≡ y ∷ [] → IsOnly xs ys x y
only-one [] ys x y e = record { before = refl; behind = cc; same = cc }
only-one (z ∷ []) ys x y e = cc
only-one (z ∷ w ∷ zs) ys x y e = cc

pub some-value : {A : Type 0} (o : Option A) → IsSome o → (x : A) × (o ≡ Some x)
some-value None is = cc
some-value (Some x) is = (x, refl)

-- a value is a first part
first-value : (content : Content) → IsSome (content_value content) → (first_vcn_of content == 0) ≡ true
first-value (Value value) is = refl
first-value (Clusters extent runs) is = cc

-- the name that a part tells
abbrev named_by : Part → Option FileName
named_by part = option_map name_in (content_value part.content)

-- the number of a block that is in use
pub sequence-used : (stored : List ℕ) → is_in_use stored ≡ true → stored_sequence stored ≡ (header_of (opened_of stored)).sequence
unfolding header_of
sequence-used stored used =
    ap (λ b. cond b (sequence_of (opened_of stored)) 0) (and_parts (starts_with nat_eq stored (codes "FILE"))
    (record_flags stored % 2 == 1) used).0

-- THE FILE HAS NO NAME, and counts no link; the volume stands as between two calls. It is one edit of names of the file, of which all other
-- parts stay, and all other files.
pub record Unnamed (left unnamed counted : VolumeView) (marks : Marks) (n : ℕ) (name : FileName) : Type 0 where
  pub ready : IsReady counted marks
  pub alone : StandsAlone counted n (record_there counted n)
  pub edited : Edited (is_name_key_of n) nothing left counted marks marks
  pub others : KeepsOthers (records_of left) (records_of counted) n
  pub still : (part : Part) → Contains (parts (records_of counted) n) part → Contains (parts (records_of left) n) part
  pub nameless : names_of (records_of counted) n ≡ []
  pub value : Told
  pub value_name : IsOfName value name
  pub values : SameItems (value ∷ told_names counted n) (told_names left n)
  pub numbers : (was : Numbers) → numbers_at (records_of left) n ≡ Some was
      → numbers_at (records_of counted) n ≡ Some (record was { links = 0 })
  pub parts_unnamed : (g : ℕ) → g ≢ n → parts (records_of unnamed) g ≡ parts (records_of left) g
  pub parts_others : (g : ℕ) → g ≢ n → parts (records_of counted) g ≡ parts (records_of left) g
  pub sequence : stored_sequence (counted.block n) ≡ stored_sequence (left.block n)

module _ (left counted : VolumeView) (n : ℕ) (name : FileName) (marks : Marks) (ready : IsReady left marks)
    (alone : StandsAlone left n (record_there left n)) (one : IsInOneRecord left n)
    (values : All (λ (part : Part). IsSome (content_value part.content)) (parts (records_of left) n))
    (only : names_of (records_of left) n ≡ name ∷ []) (q : QuitsName left counted n) where
  abbrev unnamed : VolumeView
  unnamed = q.unnamed

  abbrev e : RemovesAttribute left q.unnamed n q.at
  e = q.name

  -- the part that goes, a value
  abbrev gone_part : Part
  gone_part = part_of n q.name.was

  value-is : IsSome (content_value gone_part.content)
  value-is = All-contains (λ (part : Part). IsSome (content_value part.content)) (parts (records_of left) n) gone_part values
      (stood n left unnamed marks ready one e.stored (e.was ∷ []) [] e.edits e.was (Contains-head e.was []))

  other : IsOtherValue e.was
  other = record {
    value = subst IsSome (body-value e.was.body) value-is;
    no_list = λ z. let k = q.kind in omega (arith, z, k);
    no_standard = λ z. let k = q.kind in omega (arith, z, k);
  }

  its-value : (value : List ℕ) × (content_value gone_part.content ≡ Some value)
  its-value = some-value (content_value gone_part.content) value-is

  -- OUT OF ITS RECORD
  ready-unnamed : IsReady unnamed marks
  ready-unnamed = ready-goes n q.at left unnamed marks e ready one other

  edited-unnamed : Edited (is_name_key_of n) nothing left unnamed marks marks
  edited-unnamed =
      Edited-more _ (is_name_key_of n) nothing nothing left unnamed marks marks
      (λ key free. own-name n e.was.kind e.was.name key q.kind free) (within-same nothing)
      (edited-goes n q.at left unnamed marks e ready one other)

  block-unnamed : unnamed.block n ≡ e.stored
  block-unnamed = e.edits.replaces.block e.edits.told

  alone-unnamed : StandsAlone unnamed n (record_there unnamed n)
  alone-unnamed = subst (λ block. StandsAlone unnamed n (record_of n (opened_of block))) (sym block-unnamed)
      (alone-edited left unnamed n e.stored (e.was ∷ []) [] e.edits (record_there left n) alone)

  -- ITS LINKS
  counts : CountsFileLinks n 0 unnamed counted
  counts = counts-file n 0 unnamed counted q.stored q.counts one.may alone-unnamed.base

  ready-counted : IsReady counted marks
  ready-counted = links.ready-links n 0 unnamed counted counts marks ready-unnamed

  block-counted : counted.block n ≡ q.stored
  block-counted = q.counts.replaces.block q.counts.told

  alone-now : StandsAlone counted n (record_there counted n)
  alone-now = subst (λ block. StandsAlone counted n (record_of n (opened_of block))) (sym block-counted)
      (alone-counted unnamed counted n 0 q.stored q.counts (record_there unnamed n) alone-unnamed refl)

  edited-counted : Edited (is_name_key_of n) nothing left counted marks marks
  edited-counted =
      Edited-more (either (is_name_key_of n) no_key) (is_name_key_of n) nothing nothing left counted marks marks
      (λ key free. or_from (is_name_key_of n key) false free refl) (within-same nothing)
      (Edited-then (is_name_key_of n) no_key nothing nothing nothing left unnamed counted marks marks marks (within-nothing nothing)
      edited-unnamed (links.edited-links n 0 unnamed counted counts marks ready-unnamed))

  -- OTHER FILES
  others-now : KeepsOthers (records_of left) (records_of counted) n
  others-now = KeepsOthers-then (records_of left) (records_of unnamed) (records_of counted) n
      (others-edited left unnamed n e.stored (e.was ∷ []) [] e.edits (record_there left n) alone)
      (others-counted unnamed counted n 0 q.stored q.counts (record_there unnamed n) alone-unnamed refl)

  others-unnamed : (g : ℕ) → g ≢ n → parts (records_of unnamed) g ≡ parts (records_of left) g
  others-unnamed = parts-edited left unnamed n e.stored (e.was ∷ []) [] e.edits (record_there left n) alone

  others-counted-parts : (g : ℕ) → g ≢ n → parts (records_of counted) g ≡ parts (records_of unnamed) g
  others-counted-parts = parts-counted unnamed counted n 0 q.stored q.counts (record_there unnamed n) alone-unnamed refl

  -- ITS PARTS: all but that one
  parts-cut : Replaces (parts (records_of left) n) (parts (records_of counted) n) (gone_part ∷ []) []
  parts-cut =
      let r = Replaces-map (part_of n) _ _ _ _ e.edits.attributes_are in
      record {
        before = r.before;
        after = r.after;
        old_is = alone.whole ∙ r.old_is;
        new_is = alone-now.whole ∙ ap (λ block. (record_of n (opened_of block)).parts) block-counted
            ∙ ap (map (part_of n)) (q.counts.attributes_are ∙ ap (λ block. attributes (opened_of block)) block-unnamed) ∙ r.new_is;
      }

  still-part : (part : Part) → Contains (parts (records_of counted) n) part → Contains (parts (records_of left) n) part
  still-part part c = elim (Replaces-member _ _ _ _ part parts-cut c) [
    | inl stayed ↦ stayed
    | inr came ↦ absurd (Contains-nil part came)
  ]

  names-cut : Replaces (filter is_file_name (parts (records_of left) n)) (filter is_file_name (parts (records_of counted) n))
      (gone_part ∷ []) []
  names-cut = subst (λ xs. Replaces (filter is_file_name (parts (records_of left) n)) (filter is_file_name (parts (records_of counted) n))
      xs [])
      (ap (λ b. cond b (gone_part ∷ []) []) (eq-eqb gone_part.kind FILE_NAME q.kind))
      (Replaces-filter is_file_name _ _ _ _ parts-cut)

  alike : IsOnly (filter_map named_by names-cut.before) (filter_map named_by names-cut.after) (name_in its-value.0) name
  unfolding names_of
  alike = only-one (filter_map named_by names-cut.before) (filter_map named_by names-cut.after) (name_in its-value.0) name
      (sym (ap (filter_map named_by) names-cut.old_is
      ∙ filter_map-append named_by names-cut.before (gone_part ∷ names-cut.after)
      ∙ ap (λ o. filter_map named_by names-cut.before ++ cons_option o (filter_map named_by names-cut.after))
      (ap (option_map name_in) its-value.1))
      ∙ only)

  unnamed-now : names_of (records_of counted) n ≡ []
  unfolding names_of
  unnamed-now =
      ap (filter_map named_by) names-cut.new_is
      ∙ filter_map-append named_by names-cut.before names-cut.after
      ∙ ap (λ xs. xs ++ filter_map named_by names-cut.after) alike.before
      ∙ alike.behind

  -- WHAT WENT, as it was told
  name-told : IsOfName (told_by gone_part) name
  name-told = ap (λ o. name_in (unwrap_or o [])) its-value.1 ∙ alike.same

  told-cut : Replaces (told_names left n) (told_names counted n) (told_by gone_part ∷ []) []
  told-cut = subst (λ xs. Replaces (told_names left n) (told_names counted n) xs [])
      (ap (λ b. filter is_name_told (map told_by (cond b (gone_part ∷ []) []))) (first-value gone_part.content value-is)
      ∙ ap (λ b. cond b (told_by gone_part ∷ []) []) (eq-eqb gone_part.kind FILE_NAME q.kind))
      (Replaces-filter is_name_told _ _ _ _ (Replaces-map told_by _ _ _ _ (Replaces-filter is_first _ _ _ _ parts-cut)))

  values-now : SameItems (told_by gone_part ∷ told_names counted n) (told_names left n)
  values-now = replaced-same (told_names left n) (told_names counted n) (told_by gone_part) told-cut

  -- NUMBERS
  numbers-now : (was : Numbers) → numbers_at (records_of left) n ≡ Some was
      → numbers_at (records_of counted) n ≡ Some (record was { links = 0 })
  numbers-now was at =
      links.numbers-own n 0 unnamed counted counts
      ∙ ap (option_map (λ (k : Numbers). record k { links = 0 }))
      (numbers-edit (records_of left) (records_of unnamed) n (parts_made n (e.was ∷ [])) []
      (edit-of left unnamed n e.stored (e.was ∷ []) [] e.edits) n ∙ at)

  sequence-now : stored_sequence (counted.block n) ≡ stored_sequence (left.block n)
  sequence-now =
      ap stored_sequence block-counted ∙ sequence-used q.stored q.counts.used_still ∙ ap (λ (h : Header). h.sequence) q.counts.header
      ∙ ap (λ block. (header_of (opened_of block)).sequence) block-unnamed ∙ e.edits.header.sequence
      ∙ sym (sequence-used (left.block n) e.edits.used)

  pub name-quit : Unnamed left q.unnamed counted marks n name
  name-quit = record {
    ready = ready-counted;
    alone = alone-now;
    edited = edited-counted;
    others = others-now;
    still = still-part;
    nameless = unnamed-now;
    value = told_by gone_part;
    value_name = name-told;
    values = values-now;
    numbers = numbers-now;
    parts_unnamed = others-unnamed;
    parts_others = λ g ne. others-counted-parts g ne ∙ others-unnamed g ne;
    sequence = sequence-now;
  }
