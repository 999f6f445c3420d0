-- THE PARTS OF THE NEW FILE after each call on its record: what the calls ask for, and leave.
use Rattle.std.proofs.Common.{◌≡◌, ◌≢◌, ◌<◌, ◌≤◌, ◌+◌, ◌%◌, ℕ, Bool, List, [], ◌∷◌, length, map, filter, refl, sym, ap, subst, inr, ◌∙◌}
use Rattle.std.proofs.Common.{arith}
use Rattle.std.specs.Prelude.{IfSome, IsSome, IsTrue, count_by, slice_get}
use Rattle.std.specs.List.{insert}
use Rattle.ntfs_def.specs.Attribute.{Attribute, attribute_at, attributes}
use Rattle.ntfs_def.specs.FileName.{is_name_key}
use Rattle.ntfs_def.specs.Fixup.{opened_of}
use Rattle.ntfs_def.specs.declared.kinds.TheConstants.{FILE_NAME}
use Rattle.ntfs_def.specs.declared.records.TheConstants.{FIRST_ORDINARY}
use Rattle.volume_def.specs.AttributesClause.{IsRightPart, times_id}
use Rattle.volume_def.specs.Files.{Part, is_of, part_of, parts, record_of, records_of}
use Rattle.volume_def.specs.ListsClause.{is_list}
use Rattle.volume_def.specs.View.{VolumeView}
use Rattle.volume_edits.specs.Rewritten.{CountsLinks}
use Rattle.edit_def.specs.Marks.{Marks}
use Rattle.edit_def.specs.Names.{KeepsOthers}
use Rattle.record_edits.specs.Between.{IsReady}
use Rattle.root_puts.specs.Files.{MakesFile}
use Rattle.root_puts.specs.FileRecordAttributes.{InsertsAttribute, opened_record}
use Rattle.root_puts.specs.Extensions.{CreatesBase}
use Rattle.root_puts.specs.NewFiles.{standard_part}
use Rattle.root_puts.specs.RecordCalls.{IsInOneRecord, IsNewName, MayCome}
use Rattle.root_puts.specs.Edits.{record_there}
use Rattle.made_edits.proofs.AloneLaws.{StandsAlone, alone-counted, alone-edited, alone-made, others-counted, others-edited}
use Rattle.made_edits.proofs.AloneLaws.{parts-counted, parts-edited}
use Rattle.made_edits.specs.Between.{body_part, new_parts}
use Rattle.made_edits.specs.Comes.{body_bytes, body_kind, body_value}
use Rattle.made_edits.proofs.BodyParts.{bodied_parts, body-above, body-even, body-is, body-new}
use Rattle.made_edits.proofs.NewParts.{name-is, name_bytes, name_part, one-mapped, two-mapped, value-body}

-- THE FILE STANDS ALONE in its record, with these parts.
pub record HoldsParts (view : VolumeView) (n : ℕ) (all : List Part) : Type 0 where
  pub alone : StandsAlone view n (record_there view n)
  pub all_are : (record_there view n).parts ≡ all

module _ (view : VolumeView) (n : ℕ) (all : List Part) (h : HoldsParts view n all) where
  pub parts-held : parts (records_of view) n ≡ all
  parts-held = h.alone.whole ∙ h.all_are

  pub one-record : FIRST_ORDINARY ≤ n → count_by is_list all ≡ 0 → IsInOneRecord view n
  one-record ordinary none = record {
    base = h.alone.base;
    may = inr (omega (arith, ordinary));
    no_list = ap (count_by is_list) parts-held ∙ none;
  }

-- IT IS MADE.
pub holds-made : (old new : VolumeView) (n : ℕ) (directory : Bool) (standard : List ℕ) (before after : Marks)
    → CreatesBase old new n directory standard → (t : MakesFile n old new before after) → IsReady old before
    → HoldsParts new n (standard_part n 0 standard ∷ [])
holds-made old new n directory standard before after creates t ready = record {
  alone = subst (λ block. StandsAlone new n (record_of n (opened_of block))) (sym (t.replaces.block t.told))
      (alone-made n old new before after t ready);
  all_are = ap (λ block. (record_of n (opened_of block)).parts) (creates.replaces.block t.told) ∙ creates.is.parts;
}

-- AN ATTRIBUTE CAME.
module _ (old new : VolumeView) (n i : ℕ) (attr : List ℕ) (e : InsertsAttribute old new n i attr)
    (alone : StandsAlone old n (record_there old n)) where
  block-is : new.block n ≡ e.stored
  block-is = e.edits.replaces.block e.edits.told

  pub alone-inserted : StandsAlone new n (record_there new n)
  alone-inserted = subst (λ block. StandsAlone new n (record_of n (opened_of block))) (sym block-is)
      (alone-edited old new n e.stored [] (attribute_at attr 0 ∷ []) e.edits (record_there old n) alone)

  pub attributes-inserted : attributes (opened_record new n) ≡ insert (attributes (opened_record old n)) i (attribute_at attr 0)
  attributes-inserted = ap (λ block. attributes (opened_of block)) block-is ∙ e.attributes_are

  pub others-inserted : KeepsOthers (records_of old) (records_of new) n
  others-inserted = others-edited old new n e.stored [] (attribute_at attr 0 ∷ []) e.edits (record_there old n) alone

  pub parts-inserted : (g : ℕ) → g ≢ n → parts (records_of new) g ≡ parts (records_of old) g
  parts-inserted = parts-edited old new n e.stored [] (attribute_at attr 0 ∷ []) e.edits (record_there old n) alone

-- ITS BODY
module _ (old new : VolumeView) (directory : Bool) (size n : ℕ) (standard : List ℕ)
    (holds : HoldsParts old n (standard_part n 0 standard ∷ [])) (e : InsertsAttribute old new n 1 (body_bytes directory size)) where
  abbrev body : Attribute
  body = attribute_at (body_bytes directory size) 0

  is-part : part_of n body ≡ body_part directory size n
  is-part = body-is directory size n

  above : FILE_NAME < body_kind directory
  above = body-above directory

  kind : body.kind ≡ body_kind directory
  kind = ap (λ (p : Part). p.kind) is-part

  was-based : (a : Attribute) × (attributes (opened_record old n) ≡ a ∷ []) × (part_of n a ≡ standard_part n 0 standard)
  was-based = one-mapped (part_of n) (attributes (opened_record old n)) (standard_part n 0 standard) holds.all_are

  pub holds-body : HoldsParts new n (bodied_parts directory size n standard)
  holds-body = record {
    alone = alone-inserted old new n 1 (body_bytes directory size) e holds.alone;
    all_are = ap (map (part_of n)) (attributes-inserted old new n 1 (body_bytes directory size) e holds.alone
        ∙ ap (λ (xs : List Attribute). insert xs 1 body) was-based.1)
        ∙ ap (λ (p : Part). p ∷ part_of n body ∷ []) was-based.2
        ∙ ap (λ (p : Part). standard_part n 0 standard ∷ p ∷ []) is-part;
  }

  right-body : IsRightPart (body_part directory size n)
  right-body = record { resident = λ k. refl; name = λ k. absurd (omega (arith, k, above)) }

  before-body : (j : ℕ) → j + 1 ≡ 1 → IfSome (slice_get (was-based.0 ∷ []) j) (λ (a : Attribute). a.kind ≤ body.kind)
  before-body j e =
      let first : was-based.0.kind ≡ 0x10 = ap (λ (p : Part). p.kind) was-based.2 in
      let zero_is : 0 ≡ j = omega (arith, e) in
      subst (λ j. IfSome (slice_get (was-based.0 ∷ []) j) (λ (a : Attribute). a.kind ≤ body.kind)) zero_is
      (let goal : was-based.0.kind ≤ body.kind = omega (arith, first, kind, above) in goal)

  pub may-body : MayCome old n 1 body
  may-body = record {
    other = record {
      value = subst IsSome (sym (value-body body.body (body_value directory size) (ap (λ (p : Part). p.content) is-part))) refl;
      no_list = λ is. absurd (omega (arith, is, kind, above));
      no_standard = λ is. absurd (omega (arith, is, kind, above));
    };
    part = subst IsRightPart (sym is-part) right-body;
    units = ap (λ (p : Part). length p.name % 2) is-part ∙ body-even directory;
    rises = record {
      inside = subst (λ (xs : List Attribute). 1 ≤ length xs) (sym was-based.1) (omega arith);
      before = subst (λ (xs : List Attribute). (j : ℕ) → j + 1 ≡ 1 → IfSome (slice_get xs j) (λ (a : Attribute). a.kind ≤ body.kind))
          (sym was-based.1) before-body;
      behind = subst (λ (xs : List Attribute). IfSome (slice_get xs 1) (λ (a : Attribute). body.kind ≤ a.kind)) (sym was-based.1) tt;
    };
    new_id = ap (times_id body.id) holds.all_are
        ∙ ap (λ (p : Part). times_id p.id (standard_part n 0 standard ∷ [])) is-part;
  }

  pub new-body : IsNewName old n body
  new-body other =
      ap (filter (is_of body.kind body.name)) (parts-held old n (standard_part n 0 standard ∷ []) holds)
      ∙ ap (λ (p : Part). filter (is_of p.kind p.name) (standard_part n 0 standard ∷ [])) is-part
      ∙ body-new directory n standard

-- ITS NAME
module _ (old new : VolumeView) (directory : Bool) (size n : ℕ) (standard key : List ℕ)
    (holds : HoldsParts old n (bodied_parts directory size n standard)) (short : length key ≤ 900)
    (is_name : IsTrue (is_name_key key)) (e : InsertsAttribute old new n 1 (name_bytes key)) where
  abbrev named : Attribute
  named = attribute_at (name_bytes key) 0

  named-is : part_of n named ≡ name_part n key
  named-is = name-is n key short

  was-named : (a : Attribute) × (b : Attribute) × (attributes (opened_record old n) ≡ a ∷ b ∷ [])
      × (part_of n a ≡ standard_part n 0 standard) × (part_of n b ≡ body_part directory size n)
  was-named = two-mapped (part_of n) (attributes (opened_record old n)) (standard_part n 0 standard) (body_part directory size n)
      holds.all_are

  pub holds-named : HoldsParts new n (new_parts directory size n standard key)
  holds-named = record {
    alone = alone-inserted old new n 1 (name_bytes key) e holds.alone;
    all_are = ap (map (part_of n)) (attributes-inserted old new n 1 (name_bytes key) e holds.alone
        ∙ ap (λ (xs : List Attribute). insert xs 1 named) was-named.2)
        ∙ ap (λ (p : Part). p ∷ part_of n named ∷ part_of n was-named.1 ∷ []) was-named.3
        ∙ ap (λ (p : Part). standard_part n 0 standard ∷ p ∷ part_of n was-named.1 ∷ []) named-is
        ∙ ap (λ (p : Part). standard_part n 0 standard ∷ name_part n key ∷ p ∷ []) was-named.4;
  }

  right-name : IsRightPart (name_part n key)
  right-name = record { resident = λ k. refl; name = λ k. is_name }

  before-name : (j : ℕ) → j + 1 ≡ 1
      → IfSome (slice_get (was-named.0 ∷ was-named.1 ∷ []) j) (λ (a : Attribute). a.kind ≤ named.kind)
  before-name j e =
      let first : was-named.0.kind ≡ 0x10 = ap (λ (p : Part). p.kind) was-named.3 in
      let kind : named.kind ≡ 0x30 = ap (λ (p : Part). p.kind) named-is in
      let zero_is : 0 ≡ j = omega (arith, e) in
      subst (λ j. IfSome (slice_get (was-named.0 ∷ was-named.1 ∷ []) j) (λ (a : Attribute). a.kind ≤ named.kind)) zero_is
      (let goal : was-named.0.kind ≤ named.kind = omega (arith, first, kind) in goal)

  behind-name : named.kind ≤ was-named.1.kind
  behind-name =
      let second : was-named.1.kind ≡ body_kind directory = ap (λ (p : Part). p.kind) was-named.4 in
      let kind : named.kind ≡ 0x30 = ap (λ (p : Part). p.kind) named-is in
      let above = body-above directory in
      omega (arith, second, kind, above)

  pub may-name : MayCome old n 1 named
  may-name = record {
    other = record {
      value = subst IsSome (sym (value-body named.body key (ap (λ (p : Part). p.content) named-is))) refl;
      no_list = λ is. let kind : named.kind ≡ 0x30 = ap (λ (p : Part). p.kind) named-is in absurd (omega (arith, is, kind));
      no_standard = λ is. let kind : named.kind ≡ 0x30 = ap (λ (p : Part). p.kind) named-is in absurd (omega (arith, is, kind));
    };
    part = subst IsRightPart (sym named-is) right-name;
    units = ap (λ (p : Part). length p.name % 2) named-is;
    rises = record {
      inside = subst (λ (xs : List Attribute). 1 ≤ length xs) (sym was-named.2) (omega arith);
      before = subst (λ (xs : List Attribute). (j : ℕ) → j + 1 ≡ 1 → IfSome (slice_get xs j) (λ (a : Attribute). a.kind ≤ named.kind))
          (sym was-named.2) before-name;
      behind = subst (λ (xs : List Attribute). IfSome (slice_get xs 1) (λ (a : Attribute). named.kind ≤ a.kind)) (sym was-named.2)
          behind-name;
    };
    new_id = ap (times_id named.id) holds.all_are
        ∙ ap (λ (p : Part). times_id p.id (bodied_parts directory size n standard)) named-is;
  }

  pub new-name : IsNewName old n named
  new-name other = absurd (other (ap (λ (p : Part). p.kind) named-is))

-- ITS LINKS COUNTED
module _ (old new : VolumeView) (n links : ℕ) (stored : List ℕ) (all : List Part) (holds : HoldsParts old n all)
    (e : CountsLinks old new n stored links) where
  pub holds-counted : HoldsParts new n all
  holds-counted = record {
    alone = subst (λ block. StandsAlone new n (record_of n (opened_of block))) (sym (e.replaces.block e.told))
        (alone-counted old new n links stored e (record_there old n) holds.alone refl);
    all_are = ap (λ block. (record_of n (opened_of block)).parts) (e.replaces.block e.told)
        ∙ ap (map (part_of n)) e.attributes_are ∙ holds.all_are;
  }

  pub others-of-counted : KeepsOthers (records_of old) (records_of new) n
  others-of-counted = others-counted old new n links stored e (record_there old n) holds.alone refl

  pub parts-of-counted : (g : ℕ) → g ≢ n → parts (records_of new) g ≡ parts (records_of old) g
  parts-of-counted = parts-counted old new n links stored e (record_there old n) holds.alone refl
