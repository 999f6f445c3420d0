-- THE STREAM THAT IS FOUND by its name in the node of a file is an attribute of the file, and holds the bytes that the node shows.
use Rattle.std.proofs.Common.{◌≡◌, ◌==◌, ℕ, Bool, true, false, cond, List, map, filter, Option, Some, None, refl, sym, ap, subst, ◌∙◌}
use Rattle.std.specs.List.{Contains, find}
use Rattle.std.specs.Option.{option_map_or, option_or}
use Rattle.std.specs.Prelude.{IsSomeAnd}
use Rattle.std.specs.Str.{bytes_eq}
use Rattle.std.proofs.lemmas.Bool.{and_parts, eqb-true}
use Rattle.ntfs_def.specs.Flags.{is_packed}
use Rattle.ntfs_def.specs.Units.{units_in}
use Rattle.ntfs_def.specs.declared.kinds.TheConstants.{DATA}
use Rattle.list_laws.proofs.FindLaws.{find-found}
use Rattle.list_laws.proofs.MemberLaws.{Contains-from_filter, Contains-from_map}
use Rattle.list_laws.proofs.OrderedLaws.{Contains-from_in_order}
use Rattle.volume_def.specs.CaseClause.{volume_fold}
use Rattle.volume_def.specs.Files.{Part, is_of, parts, records_of}
use Rattle.volume_def.specs.Readable.{IsFile, IsReadableVolume}
use Rattle.volume_def.specs.StreamSize.{told_size}
use Rattle.volume_def.specs.Values.{IsPlain, first_part, is_first, value_on}
use Rattle.volume_def.specs.View.{VolumeView}
use Rattle.tree_model.specs.Reading.{begins_stream, is_packed_part, node_at, shown_content, stream_at, streams_of}
use Rattle.tree_model.specs.Streams.{stream_above}
use Rattle.tree_model.specs.Tree.{are_same, sought_stream}
use Rattle.tree_model.specs.declared.tree.Content.TheVariants.{Packed, Plain}
use Rattle.tree_model.specs.declared.tree.Node.{Node}
use Rattle.tree_model.specs.declared.tree.Stream.{Stream}
use Rattle.stream_edits.proofs.StreamNames.{name-there, names-apart}
use Rattle.stream_overwrites.specs.Overwritten.{FindsPlain}
use Rattle.stream_overwrites.proofs.ShownFile.{node-streams}
use Rattle.stream_overwrites.proofs.StreamParts as stream

-- what is sought is one of those among which it is sought
sought-among : (fold : ℕ → ℕ) (streams : List Stream) (asked : List ℕ) (found : Stream) → sought_stream fold streams asked ≡ Some found
    → Contains streams found
sought-among fold streams asked found is = by (find (λ (s : Stream). bytes_eq s.name asked) streams) refl is
  where
    by : (o : Option Stream) → find (λ (s : Stream). bytes_eq s.name asked) streams ≡ o
        → option_or o (find (λ (s : Stream). are_same fold s.name asked) streams) ≡ Some found → Contains streams found
    by (Some other) here e = (find-found (λ (s : Stream). bytes_eq s.name asked) streams found (here ∙ e)).0
    by None here e = (find-found (λ (s : Stream). are_same fold s.name asked) streams found e).0

-- each stream that is read is that of a part that begins one
stream-part : (view : VolumeView) (all : List Part) (found : Stream) → Contains (streams_of view all) found
    → (part : Part) × Contains all part × (begins_stream part ≡ true) × (stream_at view all part ≡ found)
unfolding streams_of
stream-part view all found c =
    let among = Contains-from_in_order (stream_above (volume_fold view)) (map (stream_at view all) (filter begins_stream all)) found c in
    let of_part = Contains-from_map (stream_at view all) (filter begins_stream all) found among in
    let its = Contains-from_filter begins_stream all of_part.0 of_part.1 in
    (of_part.0, its.0, its.1, of_part.2)

-- WHAT IS SHOWN PLAINLY is not packed, and is the value.
shown-plain : (view : VolumeView) (extents : List Part) (first : Part) (held : List ℕ) → first_part extents ≡ Some first
    → shown_content view extents ≡ Plain held → (is_packed first.kind first.flags ≡ false) × (value_on view extents ≡ held)
shown-plain view extents first held is shown = by (is_packed first.kind first.flags) refl
  where
    content : shown_content view extents
        ≡ cond (is_packed first.kind first.flags) (Packed (told_size (first_part extents))) (Plain (value_on view extents))
    content =
        ap (λ o. cond (option_map_or is_packed_part o false) (Packed (told_size (first_part extents))) (Plain (value_on view extents)))
        is

    by : (b : Bool) → is_packed first.kind first.flags ≡ b
        → (is_packed first.kind first.flags ≡ false) × (value_on view extents ≡ held)
    by true e =
        let never : Packed (told_size (first_part extents)) ≡ Plain held =
        sym (ap (λ b. cond b (Packed (told_size (first_part extents))) (Plain (value_on view extents))) e) ∙ sym content ∙ shown in
        cc
    by false e =
        let same : Plain (value_on view extents) ≡ Plain held =
        sym (ap (λ b. cond b (Packed (told_size (first_part extents))) (Plain (value_on view extents))) e) ∙ sym content ∙ shown in
        let value : value_on view extents ≡ held = cc in
        (e, value)

module _ (view : VolumeView) (f : ℕ) (node : Node) (asked name held : List ℕ) (readable : IsReadableVolume view) (file : IsFile view f)
    (at : node_at view f ≡ Some node) (finds : FindsPlain view f node asked name held) where
  abbrev all : List Part
  all = parts (records_of view) f

  abbrev extents : List Part
  extents = stream.extents view f name readable file finds.there

  pub sought : sought_stream (volume_fold view) (streams_of view all) asked ≡ Some finds.stream
  sought = ap (λ streams. sought_stream (volume_fold view) streams asked) (sym (node-streams view f node at)) ∙ finds.sought

  -- the stream is what the parts of this name show
  content : shown_content view extents ≡ Plain held
  content =
      let found = stream-part view all finds.stream (sought-among (volume_fold view) (streams_of view all) asked finds.stream sought) in
      let part = found.0 in
      let kind = eqb-true part.kind DATA (and_parts (part.kind == DATA) (is_first part) found.2).0 in
      let units : units_in part.name ≡ units_in name = ap (λ (s : Stream). s.name) found.3 ∙ finds.spelt in
      let same = names-apart view f finds.tellable part.name name
      (stream.part-named view f name readable file finds.there part found.1 kind)
      (name-there view f name (stream.begun view f name readable file finds.there)) units in
      ap (λ n. shown_content view (filter (is_of DATA n) all)) (sym same)
      ∙ ap (λ k. shown_content view (filter (is_of k part.name) all)) (sym kind)
      ∙ ap (λ (s : Stream). s.content) found.3 ∙ finds.content

  both : (is_packed (stream.first view f name readable file finds.there).0.kind (stream.first view f name readable file finds.there).0.flags
      ≡ false) × (value_on view extents ≡ held)
  both =
      let first = stream.first view f name readable file finds.there in
      shown-plain view extents first.0 held first.1 content

  pub plain : is_packed (stream.first view f name readable file finds.there).0.kind
      (stream.first view f name readable file finds.there).0.flags ≡ false
  plain = both.0

  pub value : value_on view extents ≡ held
  value = both.1

  pub plain-parts : IsPlain extents
  plain-parts =
      subst (λ (o : Option Part). IsSomeAnd o (λ part. is_packed part.kind part.flags ≡ false))
      (sym (stream.first view f name readable file finds.there).1) plain
