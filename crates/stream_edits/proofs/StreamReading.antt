-- THE READING OF A FILE OF WHICH ONE STREAM CHANGED: that stream alone.
use Rattle.std.proofs.Common.{◌≡◌, ◌≢◌, not, ℕ, Bool, true, false, List, ◌∷◌, map, filter, refl, sym, ap, subst, inl, inr}
use Rattle.std.proofs.Common.{◌⊎◌, ◌∙◌, arith, if◌then◌else◌, Some, None}
use Rattle.std.specs.List.{Contains}
use Rattle.std.specs.Ordering.{is_gt}
use Rattle.std.specs.Str.{bytes_eq}
use Rattle.std.proofs.lemmas.Bool.{cases_Bool}
use Rattle.std.proofs.lemmas.Simd.{map-map}
use Rattle.std.proofs.lemmas.Slice.Eq.{bytes_eq-Decides}
use Rattle.ntfs_def.specs.KeyOrder.{compare_units}
use Rattle.ntfs_def.specs.Units.{units_in}
use Rattle.ntfs_def.specs.declared.kinds.TheConstants.{DATA, FILE_NAME}
use Rattle.volume_def.specs.CaseClause.{volume_fold}
use Rattle.volume_def.specs.Files.{parts, parts_at, records_of}
use Rattle.volume_def.specs.View.{VolumeView}
use Rattle.list_laws.specs.Ordered.{in_order, put_in_order}
use Rattle.list_laws.specs.SameItems.{SameItems}
use Rattle.list_laws.proofs.FilterLaws.{filter-all}
use Rattle.list_laws.proofs.MemberLaws.{Contains-cases, Contains-from_map, Contains-head, Contains-later, map_agree}
use Rattle.list_laws.proofs.OrderedLaws.{Contains-from_in_order}
use Rattle.list_laws.proofs.SameItemsLaws.{SameItems-sym}
use Rattle.tree_model.specs.Reading.{shown_content, streams_of}
use Rattle.tree_model.specs.Streams.{dropped, put_bytes, set_content, stream_above}
use Rattle.tree_model.specs.declared.tree.Content.TheVariants.{Plain}
use Rattle.tree_model.specs.declared.tree.Stream.{Stream}
use Rattle.tree_model.proofs.ShownLinksLaws.{in_order-map}
use Rattle.edit_def.specs.Kept.{Key, key_of}
use Rattle.edit_def.proofs.ToldLaws.{content-kept, one-first}
use Rattle.stream_edits.specs.Names.{EditsStream, shown_as, stream_names, times_begun}
use Rattle.stream_edits.proofs.StreamNames.{name-begun, name-there, names-apart, names-gone, names-kept, names-made}
use Rattle.stream_edits.proofs.StreamOrder.{by-name, filter-put, in-both, streams-alike}

pub data-no-name : DATA ≢ FILE_NAME
data-no-name e = cc

false-true : false ≡ true → ⊥
false-true e = cc

-- a stream of which the bytes are set keeps its name
set-name : (stream : Stream) (bytes : List ℕ) (other : Stream) → (set_content stream bytes other).name ≡ other.name
set-name stream bytes other = by (bytes_eq other.name stream.name)
  where
    by : (b : Bool) → (if b then record other { content = Plain bytes } else other).name ≡ other.name
    by true = refl
    by false = refl

module _ (changed : Key → Bool) (old new : VolumeView) (f : ℕ) (name : List ℕ) (e : EditsStream changed old new f name) where
  -- a name that is not that of the edited stream
  unnamed : (other : List ℕ) → other ≢ name → changed (key_of f DATA other) ≡ false
  unnamed other differs = e.names other ∙ by (bytes_eq other name) refl
    where
      by : (b : Bool) → bytes_eq other name ≡ b → b ≡ false
      by true is = absurd (differs ((bytes_eq-Decides other name).0 is))
      by false is = refl

  -- shows what it showed
  shown-other : (other : List ℕ) → other ≢ name → shown_as new f other ≡ shown_as old f other
  shown-other other differs =
      ap (λ content. record { name = units_in other; content = content })
      (content-kept changed old new f DATA other e.kept (unnamed other differs)
      (one-first old f DATA other e.bases e.readable.extents data-no-name) e.size)

  -- the streams of the new volume, by the old table of case
  streams-now : streams_of new (parts (records_of new) f)
      ≡ in_order (stream_above (volume_fold old)) (map (shown_as new f) (stream_names new f))
  streams-now =
      by-name new f ∙ ap (λ fold. in_order (stream_above fold) (map (shown_as new f) (stream_names new f))) e.fold

  apart : (a b : List ℕ) → Contains (stream_names old f) a → Contains (stream_names old f) b → units_in a ≡ units_in b → a ≡ b
  apart = names-apart old f e.tellable

  -- ONE STREAM HAS OTHER BYTES
  module _ (stream : Stream) (asked bytes : List ℕ) (is : stream.name ≡ units_in name) (was : times_begun old f name ≡ 1)
      (now : times_begun new f name ≡ 1) (shows : shown_content new (parts_at new f DATA name) ≡ Plain bytes) where
    names : SameItems (stream_names old f) (stream_names new f)
    names = names-kept changed old new f name e.names e.kept (now ∙ sym was)

    -- each name shows what it showed, or the bytes
    shown : (other : List ℕ) → Contains (stream_names old f) other → shown_as new f other ≡ set_content stream bytes (shown_as old f other)
    shown other c = elim (cases_Bool (bytes_eq (units_in other) stream.name))
        as (λ _. shown_as new f other ≡ set_content stream bytes (shown_as old f other)) [
          | inl same ↦
              let one : other ≡ name = apart other name c (name-there old f name (omega (arith, was)))
              ((bytes_eq-Decides (units_in other) stream.name).0 same ∙ is) in
              ap (λ content. record { name = units_in other; content = content })
              (ap (λ n. shown_content new (parts_at new f DATA n)) one ∙ shows)
              ∙ sym (ap (λ b. if b then record (shown_as old f other) { content = Plain bytes } else shown_as old f other) same)
          | inr differs ↦
              let ne : other ≢ name = λ q. false-true (sym differs ∙ (bytes_eq-Decides (units_in other) stream.name).1
              (ap units_in q ∙ sym is)) in
              shown-other other ne
              ∙ sym (ap (λ b. if b then record (shown_as old f other) { content = Plain bytes } else shown_as old f other) differs)
        ]

    -- .. and all others are as they were.
    pub streams-put : streams_of new (parts (records_of new) f)
        ≡ put_bytes (volume_fold old) asked bytes (streams_of old (parts (records_of old) f)) (Some stream)
    streams-put =
        let above = stream_above (volume_fold old) in
        let set : Stream → Stream = set_content stream bytes in
        let before : List ℕ → Stream = shown_as old f in
        streams-now
        ∙ ap (in_order above) (map_agree (λ n. set (before n)) (shown_as new f) (stream_names new f)
        (λ n c. shown n (in-both (stream_names old f) (stream_names new f) names n c)))
        ∙ streams-alike (volume_fold old) (λ n. set (before n)) (λ n. set-name stream bytes (before n)) (stream_names old f)
        (stream_names new f) apart names
        ∙ ap (in_order above) (sym (map-map set before (stream_names old f)))
        ∙ sym (in_order-map set above above
        (λ x y. ap (λ n. is_gt (compare_units (volume_fold old) n y.name)) (sym (set-name stream bytes x))
        ∙ ap (λ n. is_gt (compare_units (volume_fold old) (set x).name n)) (sym (set-name stream bytes y)))
        (map before (stream_names old f)))
        ∙ ap (map set) (sym (by-name old f))

  -- A STREAM IS MADE
  module _ (bytes : List ℕ) (was : times_begun old f name ≡ 0) (now : times_begun new f name ≡ 1)
      (free : (other : List ℕ) → Contains (stream_names old f) other → units_in other ≢ units_in name)
      (shows : shown_content new (parts_at new f DATA name) ≡ Plain bytes) where
    names-more : SameItems (name ∷ stream_names old f) (stream_names new f)
    names-more = names-made changed old new f name e.names e.kept was now

    apart-more : (a b : List ℕ) → Contains (name ∷ stream_names old f) a → Contains (name ∷ stream_names old f) b
        → units_in a ≡ units_in b → a ≡ b
    apart-more a b ca cb same = by (Contains-cases name (stream_names old f) a ca) (Contains-cases name (stream_names old f) b cb)
      where
        by : (name ≡ a) ⊎ Contains (stream_names old f) a → (name ≡ b) ⊎ Contains (stream_names old f) b → a ≡ b
        by (inl x) (inl y) = sym x ∙ y
        by (inl x) (inr y) = absurd (free b y (sym same ∙ ap units_in (sym x)))
        by (inr x) (inl y) = absurd (free a x (same ∙ ap units_in (sym y)))
        by (inr x) (inr y) = apart a b x y same

    absent : (other : List ℕ) → Contains (stream_names old f) other → other ≢ name
    absent other c q = free other c (ap units_in q)

    pub streams-made : streams_of new (parts (records_of new) f)
        ≡ put_bytes (volume_fold old) (units_in name) bytes (streams_of old (parts (records_of old) f)) None
    streams-made =
        let above = stream_above (volume_fold old) in
        let made : Stream = record { name = units_in name; content = Plain bytes } in
        streams-now
        ∙ streams-alike (volume_fold old) (shown_as new f) (λ n. refl) (name ∷ stream_names old f)
        (stream_names new f) apart-more names-more
        ∙ ap (λ content. put_in_order above (record { name = units_in name; content = content })
        (in_order above (map (shown_as new f) (stream_names old f)))) shows
        ∙ ap (λ rest. put_in_order above made (in_order above rest))
        (map_agree (shown_as old f) (shown_as new f) (stream_names old f) (λ n c. shown-other n (absent n c)))
        ∙ ap (put_in_order above made) (sym (by-name old f))

  -- A STREAM GOES
  module _ (stream : Stream) (is : stream.name ≡ units_in name) (was : times_begun old f name ≡ 1) (now : times_begun new f name ≡ 0) where
    names-less : SameItems (name ∷ stream_names new f) (stream_names old f)
    names-less = names-gone changed old new f name e.names e.kept was now

    abbrev stays : Stream → Bool
    stays other = not (bytes_eq other.name stream.name)

    gone : (other : List ℕ) → Contains (stream_names new f) other → other ≢ name
    gone other c q = let begun = name-begun new f name (subst (Contains (stream_names new f)) q c) in omega (arith, begun, now)

    was-there : (other : List ℕ) → Contains (name ∷ stream_names new f) other → Contains (stream_names old f) other
    was-there other c = in-both (stream_names old f) (name ∷ stream_names new f) (SameItems-sym _ _ names-less) other c

    apart-less : (a b : List ℕ) → Contains (name ∷ stream_names new f) a → Contains (name ∷ stream_names new f) b
        → units_in a ≡ units_in b → a ≡ b
    apart-less a b ca cb same = apart a b (was-there a ca) (was-there b cb) same

    -- each of the others stays
    other-stays : (x : Stream) → Contains (in_order (stream_above (volume_fold old)) (map (shown_as old f) (stream_names new f))) x
        → stays x ≡ true
    other-stays x c =
        let w = Contains-from_map (shown_as old f) (stream_names new f) x
        (Contains-from_in_order (stream_above (volume_fold old)) (map (shown_as old f) (stream_names new f)) x c) in
        by w.0 w.1 w.2 (bytes_eq x.name stream.name) refl
      where
        by : (n : List ℕ) → Contains (stream_names new f) n → shown_as old f n ≡ x → (b : Bool) → bytes_eq x.name stream.name ≡ b
            → not b ≡ true
        by n among q true same =
            absurd (gone n among (apart n name (was-there n (Contains-later name (stream_names new f) n among))
            (was-there name (Contains-head name (stream_names new f)))
            (ap (λ s. s.name) q ∙ (bytes_eq-Decides x.name stream.name).0 same ∙ is)))
        by n among q false same = refl

    pub streams-dropped : streams_of new (parts (records_of new) f) ≡ dropped (streams_of old (parts (records_of old) f)) (Some stream)
    streams-dropped =
        let above = stream_above (volume_fold old) in
        let rest = in_order above (map (shown_as old f) (stream_names new f)) in
        streams-now
        ∙ ap (in_order above) (map_agree (shown_as old f) (shown_as new f) (stream_names new f) (λ n c. shown-other n (gone n c)))
        ∙ sym (filter-all stays rest other-stays)
        ∙ sym (filter-put above stays (shown_as old f name) rest
        (ap not ((bytes_eq-Decides (units_in name) stream.name).1 (sym is))))
        ∙ ap (filter stays)
        (sym (streams-alike (volume_fold old) (shown_as old f) (λ n. refl) (name ∷ stream_names new f) (stream_names old f)
        apart-less names-less))
        ∙ ap (filter stays) (sym (by-name old f))
