-- An edit of one stream, as a call promises it, and whether the stream is there before and after.
use Rattle.std.proofs.Common.{◌≡◌, ◌≢◌, ◌≤◌, ◌*◌, ◌==◌, ◌&&◌, ◌||◌, ℕ, Bool, true, false, List, [], length, Option, Some, None, refl}
use Rattle.std.proofs.Common.{sym, ap}
use Rattle.std.proofs.Common.{subst, ◌∙◌, arith, if◌then◌else◌}
use Rattle.std.specs.List.{count_by}
use Rattle.std.specs.Option.{option_map_or}
use Rattle.std.specs.Prelude.{IsSome, IsSomeAnd, map}
use Rattle.std.specs.List.{range_with_len}
use Rattle.std.specs.Str.{bytes_eq}
use Rattle.std.proofs.lemmas.Bool.{and_parts, eq-eqb, eqb-true, or_parts}
use Rattle.std.proofs.lemmas.Slice.Eq.{bytes_eq-Decides}
use Rattle.ntfs_def.specs.Flags.{is_packed}
use Rattle.ntfs_def.specs.declared.kinds.TheConstants.{ATTRIBUTE_LIST, BITMAP, DATA}
use Rattle.ntfs_def.specs.declared.records.TheConstants.{CLUSTER_BITMAP, MFT, MFT_MIRROR, UPCASE}
use Rattle.volume_def.specs.Files.{Part, is_of, parts, parts_at, records_of}
use Rattle.volume_def.specs.Readable.{IsReadableVolume}
use Rattle.volume_def.specs.StreamSize.{told_size}
use Rattle.volume_def.specs.Table.{cluster_bytes}
use Rattle.volume_def.specs.Values.{IsPlain, first_part, is_first, value_by, value_of_parts, value_on, value_over}
use Rattle.volume_def.specs.View.{VolumeView}
use Rattle.list_laws.proofs.BoolLaws.{and-none, same-test}
use Rattle.list_laws.proofs.FindLaws.{count-some, find-found}
use Rattle.list_laws.proofs.MemberLaws.{Contains-from_filter}
use Rattle.tree_model.specs.Reading.{is_packed_part, shown_content}
use Rattle.tree_model.specs.declared.tree.Content.TheVariants.{Packed, Plain}
use Rattle.edit_def.specs.Account.{Wants}
use Rattle.edit_def.specs.Edited.{Edited, is_room_file, is_room_key}
use Rattle.edit_def.specs.Kept.{AreTellable, Key, either, is_seen, key_of, same_key, told_of}
use Rattle.edit_def.specs.Marks.{Marks}
use Rattle.edit_def.specs.Names.{HasRightBases}
use Rattle.edit_def.proofs.IndexLaws.{fold-kept}
use Rattle.edit_def.proofs.KeptLaws.{KeepsFile-more}
use Rattle.edit_def.proofs.ToldLaws.{one-first}
use Rattle.stream_edits.specs.Names.{EditsStream, IsUnseenButStreams, NamesStream, times_begun}
use Rattle.stream_edits.specs.Streams.{ClusterStream, HasStream, HasValue, ShowsBytes, IsMissing, IsThere, Shows, extents_at}
use Rattle.stream_edits.proofs.ShownSteps.{value-shown}
use Rattle.stream_edits.proofs.StreamReading.{data-no-name}

-- WHAT AN ATTRIBUTE HOLDS that is not packed
first-kind : (view : VolumeView) (key : Key) (part : Part) → first_part (extents_at view key) ≡ Some part → part.kind ≡ key.kind
first-kind view key part first =
    let c = find-found is_first (extents_at view key) part first in
    let w = Contains-from_filter (is_of key.kind key.name) (parts (records_of view) key.file) part c.0 in
    let p = and_parts (part.kind == key.kind) (bytes_eq part.name key.name) w.1 in
    eqb-true part.kind key.kind p.0

plain-first : (view : VolumeView) (key : Key) (part : Part) (flags : ℕ) → first_part (extents_at view key) ≡ Some part
    → part.flags ≡ flags → is_packed key.kind flags ≡ false → IsPlain (extents_at view key)
plain-first view key part flags first same plain =
    subst (λ o. IsSomeAnd o (λ part. is_packed part.kind part.flags ≡ false)) (sym first)
    (ap (λ kind. is_packed kind part.flags) (first-kind view key part first) ∙ ap (is_packed key.kind) same ∙ plain)

pub stream-held : (view : VolumeView) (key : Key) (flags : ℕ) (s : ClusterStream) (byte : ℕ → ℕ) (n : ℕ) → HasStream view key flags s
    → Shows s byte n → is_packed key.kind flags ≡ false → ShowsBytes view key (map byte (range_with_len 0 n))
stream-held view key flags s byte n has shows plain = record {
  plain = plain-first view key has.part flags has.first has.flags_are plain;
  value = value-shown view key flags s byte n has shows;
}

pub value-held : (view : VolumeView) (key : Key) (flags : ℕ) (value : List ℕ) → HasValue view key flags value
    → is_packed key.kind flags ≡ false → ShowsBytes view key value
unfolding value_of_parts
value-held view key flags value has plain = record {
  plain = plain-first view key has.part flags has.only has.flags_are plain;
  value =
      ap (value_over view.cluster (cluster_bytes view.layout) (extents_at view key)) has.only
      ∙ ap (value_by view.cluster (cluster_bytes view.layout) (extents_at view key)) has.content;
}

-- is shown so.
pub shown-held : (view : VolumeView) (key : Key) (bytes : List ℕ) → ShowsBytes view key bytes
    → shown_content view (extents_at view key) ≡ Plain bytes
shown-held view key bytes h = by (first_part (extents_at view key)) refl h.plain ∙ ap Plain h.value
  where
    by : (o : Option Part) → first_part (extents_at view key) ≡ o → IsSomeAnd o (λ part. is_packed part.kind part.flags ≡ false)
        → shown_content view (extents_at view key) ≡ Plain (value_on view (extents_at view key))
    by None e is = absurd is
    by (Some part) e is =
        let test = ap (λ o. option_map_or is_packed_part o false) e ∙ is in
        ap (λ b. if b then Packed (told_size (first_part (extents_at view key))) else Plain (value_on view (extents_at view key))) test

-- WHETHER A STREAM IS THERE
some-first : (o : Option Part) (xs : List Part) → first_part xs ≡ o → IsSome o → 1 ≤ count_by is_first xs
some-first None xs e is = cc
some-first (Some part) xs e is = let c = find-found is_first xs part e in count-some is_first xs part c.0 c.1

pub begun-once : (view : VolumeView) (f : ℕ) (name : List ℕ) → HasRightBases (records_of view) → IsReadableVolume view
    → IsThere view (key_of f DATA name) → times_begun view f name ≡ 1
begun-once view f name bases readable is =
    let some = some-first (first_part (parts_at view f DATA name)) (parts_at view f DATA name) refl is in
    let few = one-first view f DATA name bases readable.extents data-no-name in
    omega (arith, some, few)

pub begun-never : (view : VolumeView) (f : ℕ) (name : List ℕ) → IsMissing view (key_of f DATA name) → times_begun view f name ≡ 0
begun-never view f name none = ap (count_by is_first) none

pub there-plain : (view : VolumeView) (key : Key) → IsPlain (extents_at view key) → IsThere view key
there-plain view key plain = by (first_part (extents_at view key)) plain
  where
    by : (o : Option Part) → IsSomeAnd o (λ part. is_packed part.kind part.flags ≡ false) → IsSome o
    by None is = absurd is
    by (Some part) is = refl

-- A CALL THAT NAMES ONE STREAM, of a file in whose streams no room is kept
module _ (f : ℕ) (name : List ℕ) (ordinary : is_room_file f ≡ false) where
  abbrev named : Key → Bool
  named = either is_room_key (same_key (key_of f DATA name))

  no-room : (other : List ℕ) → is_room_key (key_of f DATA other) ≡ false
  no-room other = ap (λ b. (length other == 0) && b) ordinary ∙ and-none (length other == 0)

  same-names : (other : List ℕ) → bytes_eq name other ≡ bytes_eq other name
  same-names other =
      same-test (bytes_eq name other) (bytes_eq other name)
      (λ e. sym ((bytes_eq-Decides name other).0 e), λ e. (bytes_eq-Decides name other).1 (sym e)) (bytes_eq-Decides other name)

  pub names-stream : NamesStream named f name
  names-stream other =
      ap (λ b. b || same_key (key_of f DATA name) (key_of f DATA other)) (no-room other)
      ∙ ap (λ b. b && bytes_eq name other) (eq-eqb f f refl) ∙ same-names other

  -- no list, no part of the table's bitmap, and no stream
  pub unseen-but-streams : IsUnseenButStreams named f
  unseen-but-streams kind other seen no_stream =
      let list : (kind == ATTRIBUTE_LIST) ≡ false = differs ATTRIBUTE_LIST (λ e. let z = sym (ap (λ k. is_seen k other) e) ∙ seen in cc) in
      let stream : (kind == DATA) ≡ false = differs DATA no_stream in
      let back : (DATA == kind) ≡ false = test-false DATA kind (λ e. no_stream (sym e)) in
      ap (λ b. b || (kind == BITMAP) && ((length other == 0) && (f == MFT)) || (kind == DATA) && ((length other == 0) && is_room_file f)
      || same_key (key_of f DATA name) (key_of f kind other)) list
      ∙ ap (λ b. (kind == BITMAP) && ((length other == 0) && b) || (kind == DATA) && ((length other == 0) && is_room_file f)
      || same_key (key_of f DATA name) (key_of f kind other)) no_table
      ∙ ap (λ b. (kind == BITMAP) && b || (kind == DATA) && ((length other == 0) && is_room_file f)
      || same_key (key_of f DATA name) (key_of f kind other)) (and-none (length other == 0))
      ∙ ap (λ b. b || (kind == DATA) && ((length other == 0) && is_room_file f)
      || same_key (key_of f DATA name) (key_of f kind other)) (and-none (kind == BITMAP))
      ∙ ap (λ b. b && ((length other == 0) && is_room_file f) || same_key (key_of f DATA name) (key_of f kind other)) stream
      ∙ ap (λ b. b && ((f == f) && bytes_eq name other)) back
    where
      test-false : (a b : ℕ) → a ≢ b → (a == b) ≡ false
      test-false a b ne = by (a == b) refl
        where
          by : (t : Bool) → (a == b) ≡ t → t ≡ false
          by true e = absurd (ne (eqb-true a b e))
          by false e = refl

      differs : (other : ℕ) → kind ≢ other → (kind == other) ≡ false
      differs other ne = test-false kind other ne

      no_table : (f == MFT) ≡ false
      no_table = first-none (f == MFT) (f == MFT_MIRROR) (f == CLUSTER_BITMAP) ordinary
        where
          first-none : (a b c : Bool) → (a || b || c) ≡ false → a ≡ false
          first-none true b c e = cc
          first-none false b c e = refl

  -- Of other attributes it names none.
  abbrev NamesNoOther : (Key → Bool) → Type 0
  NamesNoOther changed = (key : Key) → same_key (key_of f DATA name) key ≡ false → changed key ≡ false

  -- not the table of case
  case-unnamed : (changed : Key → Bool) → NamesNoOther changed → f ≢ UPCASE → either is_room_key changed (key_of UPCASE DATA []) ≡ false
  case-unnamed changed none other = none (key_of UPCASE DATA []) (ap (λ b. b && bytes_eq name []) (by (f == UPCASE) refl))
    where
      by : (t : Bool) → (f == UPCASE) ≡ t → (f == UPCASE) ≡ false
      by true e = absurd (other (eqb-true f UPCASE e))
      by false e = e

  no-more : (changed : Key → Bool) → NamesNoOther changed → (key : Key) → named key ≡ false → either is_room_key changed key ≡ false
  no-more changed none key e =
      let p = or_parts (is_room_key key) (same_key (key_of f DATA name) key) e in
      ap (λ b. b || changed key) p.0 ∙ none key p.1

  pub edited-stream : (changed : Key → Bool) → NamesNoOther changed → (wants : Wants) (old new : VolumeView) (was now : Marks)
      → Edited changed wants old new was now → IsReadableVolume old → HasRightBases (records_of old) → AreTellable (told_of old f)
      → f ≢ UPCASE → EditsStream named old new f name
  edited-stream changed none wants old new was now e readable bases tellable other =
      let size : cluster_bytes new.layout ≡ cluster_bytes old.layout = ap (λ n. 512 * n) e.volume.cluster_sectors in
      record {
        names = names-stream;
        kept = KeepsFile-more (either is_room_key changed) named old new f (no-more changed none) (e.kept f);
        tellable = tellable;
        readable = readable;
        readable_now = e.editable.readable;
        bases = bases;
        bases_now = e.bases;
        size = size;
        fold = fold-kept (either is_room_key changed) old new e.kept size bases readable (case-unnamed changed none other);
      }
