-- THE STREAM OF THE BITMAP, as it is held: it is the one that is found by the empty name.
use Rattle.std.proofs.Common.{◌≡◌, ◌+◌, ◌*◌, ◌/◌, ◌%◌, ◌==◌, ℕ, Bool, true, false, cond, List, [], length, map, Option, Some, None}
use Rattle.std.proofs.Common.{refl, sym, ap, subst, ◌∙◌, arith}
use Rattle.std.specs.List.{Contains, find}
use Rattle.std.specs.Option.{option_map_or, option_or}
use Rattle.std.specs.Prelude.{filter}
use Rattle.std.specs.Str.{bytes_eq}
use Rattle.std.proofs.lemmas.Bool.{and_from, eq-eqb}
use Rattle.std.proofs.lemmas.List.{nil_from_length}
use Rattle.std.proofs.lemmas.List.FromFn.{length-map-range_with_len}
use Rattle.std.proofs.lemmas.Slice.Eq.{bytes_eq-Decides}
use Rattle.ntfs_def.specs.Units.{units_at, units_in}
use Rattle.ntfs_def.specs.declared.kinds.TheConstants.{DATA}
use Rattle.list_laws.proofs.FindLaws.{count-some, find-fails, find-found}
use Rattle.list_laws.proofs.MemberLaws.{Contains-filter, Contains-from_filter, Contains-from_map, Contains-map}
use Rattle.list_laws.proofs.OptionLaws.{some_same}
use Rattle.list_laws.proofs.OrderedLaws.{Contains-from_in_order, count-in_order}
use Rattle.vol_bytes.specs.Field.{u16_at}
use Rattle.volume_def.specs.BitmapClauses.{cluster_bits}
use Rattle.volume_def.specs.CaseClause.{volume_fold}
use Rattle.volume_def.specs.Files.{Part, is_of, parts, records_of}
use Rattle.volume_def.specs.Readable.{IsFile}
use Rattle.volume_def.specs.StreamSize.{told_size}
use Rattle.volume_def.specs.Values.{first_part, is_first, value_on}
use Rattle.volume_def.specs.View.{VolumeView}
use Rattle.file_record.specs.declared.parts.FileParts.{FileParts}
use Rattle.file_record.specs.Held.{parts_held}
use Rattle.sparse_io.specs.First.{IsStored, attribute_held}
use Rattle.tree_model.specs.Cases.{is_packed}
use Rattle.tree_model.specs.Reading.{begins_stream, is_packed_part, stream_at, streams_of}
use Rattle.tree_model.specs.Streams.{stream_above}
use Rattle.tree_model.specs.Tree.{are_same, sought_stream}
use Rattle.tree_model.specs.declared.tree.Content.TheVariants.{Packed, Plain}
use Rattle.tree_model.specs.declared.tree.Stream.{Stream}
use Rattle.sparse_io.specs.declared.find.FoundStream.{FoundStream}
use Rattle.sparse_io.specs.Held.{IsHeldWith, IsStream, streams_held}
use Rattle.sparse_io.proofs.KeptLaws.{begins-both, get-among, kept-size, tells-first}
use Rattle.sparse_io.proofs.NamesApart.{parts-even}
use Rattle.stored_bits.specs.HeldBits.{HoldsBits}
use Rattle.stored_bits.proofs.BitsStream.{bits-begin, part-names}

-- a name without a unit
no-units : (name : List ℕ) → length name % 2 ≡ 0 → units_in name ≡ [] → name ≡ []
unfolding units_at
no-units name even none =
    let count = length-map-range_with_len (λ (k : ℕ). u16_at name (0 + 2 * k)) 0 (length name / 2) in
    let zero = ap length none in
    nil_from_length name (omega (arith, even, count, zero))

units-none : units_in [] ≡ []
unfolding units_at
units-none = refl

module _ (view : VolumeView) (table : List ℕ) (file : FileParts) (found : FoundStream) (h : HoldsBits view table file found) where
  abbrev all : List Part
  all = parts_held file

  abbrev part : Part
  part = h.can.part

  pub held-bits : attribute_held file DATA [] ≡ cluster_bits view
  held-bits = ap (λ ps. filter (is_of DATA []) ps) (h.parts.parts ∙ ap (parts (records_of view)) h.number)

  pub held-stored : IsStored file DATA [] (record { part = found.part; len = found.size })
  held-stored = record { first = part; at = h.at; is_first = ap first_part held-bits ∙ h.can.first; len = h.size }

  pub held-with : IsHeldWith view table file
  held-with = record {
    readable = h.can.readable;
    parts = h.parts;
    is_file = subst (IsFile view) (sym h.number) h.can.is_file;
    case = h.case;
  }

  among : Contains all part
  among = get-among view table file held-with found.part all part h.at

  begins : begins_stream part ≡ true
  begins =
      and_from (part.kind == DATA) (is_first part) (eq-eqb part.kind DATA (part-names view h.can).0) (bits-begin view h.can)

  abbrev stream : Stream
  stream = stream_at view all part

  abbrev unnamed : Stream → Bool
  unnamed s = bytes_eq s.name []

  is-unnamed : unnamed stream ≡ true
  is-unnamed = (bytes_eq-Decides (units_in part.name) []).1 (ap units_in (part-names view h.can).1 ∙ units-none)

  -- it is there,
  there : find unnamed (streams_held view file) ≡ None → ⊥
  unfolding streams_of
  there none =
      let streams = map (stream_at view all) (filter begins_stream all) in
      let zero = find-fails unnamed (streams_held view file) none in
      let count = count-in_order (stream_above (volume_fold view)) unnamed streams in
      let some = count-some unnamed streams stream
      (Contains-map (stream_at view all) (filter begins_stream all) part
      (Contains-filter begins_stream all part among begins)) is-unnamed in
      omega (arith, zero, count, some)

  -- and no other one has no name.
  only : (other : Stream) → Contains (streams_held view file) other → unnamed other ≡ true → other ≡ stream
  unfolding streams_of
  only other c is =
      let streams = map (stream_at view all) (filter begins_stream all) in
      let from = Contains-from_map (stream_at view all) (filter begins_stream all) other
      (Contains-from_in_order (stream_above (volume_fold view)) streams other c) in
      let its = Contains-from_filter begins_stream all from.0 from.1 in
      let none : units_in from.0.name ≡ [] =
      ap (λ (s : Stream). s.name) from.2 ∙ (bytes_eq-Decides other.name []).0 is in
      let name : from.0.name ≡ [] = no-units from.0.name (parts-even file from.0 its.0) none in
      let kind : from.0.kind ≡ DATA = (begins-both view table file held-with from.0 its.1).0 in
      let first : first_part (attribute_held file DATA []) ≡ Some from.0 =
      ap (λ k. first_part (filter (is_of k []) all)) (sym kind)
      ∙ ap (λ n. first_part (filter (is_of from.0.kind n) all)) (sym name) ∙ tells-first view table file held-with from.0 its.0 its.1 in
      let same : from.0 ≡ part = some_same (sym first ∙ ap first_part held-bits ∙ h.can.first) in
      sym from.2 ∙ ap (stream_at view all) same

  sought : sought_stream (volume_fold view) (streams_held view file) [] ≡ Some stream
  sought = by (find unnamed (streams_held view file)) refl
    where
      by : (o : Option Stream) → find unnamed (streams_held view file) ≡ o
          → option_or o (find (λ (s : Stream). are_same (volume_fold view) s.name []) (streams_held view file)) ≡ Some stream
      by None e = absurd (there e)
      by (Some other) e =
          let its = find-found unnamed (streams_held view file) other e in ap Some (only other its.0 its.1)

  first-like : first_part (filter (is_of part.kind part.name) all) ≡ Some part
  first-like = tells-first view table file held-with part among begins

  not-packed : is_packed stream.content ≡ false
  not-packed =
      let size = told_size (first_part (filter (is_of part.kind part.name) all)) in
      let value = value_on view (filter (is_of part.kind part.name) all) in
      ap (λ (o : Option Part). is_packed (cond (option_map_or is_packed_part o false) (Packed size) (Plain value))) first-like
      ∙ ap (λ b. is_packed (cond b (Packed size) (Plain value))) h.can.plain

  pub held-stream : (is : IsStream view file [] found) × (is.part.name ≡ [])
  held-stream = (
    record {
      stream = stream;
      sought = sought;
      part = part;
      at = h.at;
      begins = begins;
      is = refl;
      packed = h.packed ∙ h.can.plain ∙ sym not-packed;
      size = h.size ∙ kept-size view table file held-with part first-like;
    },
    (part-names view h.can).1,
  )
