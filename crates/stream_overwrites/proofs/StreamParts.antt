-- THE PARTS OF A STREAM of a file that can be read, one of which begins it.
use Rattle.std.proofs.Common.{◌≡◌, ◌≢◌, ◌≤◌, ◌+◌, ◌*◌, ◌==◌, ◌&&◌, ◌||◌, not, ℕ, Bool, true, false, cond, List, [], ◌∷◌, filter, Option}
use Rattle.std.proofs.Common.{Some, None, refl, sym, ap, subst, inl, inr, ◌∙◌, arith}
use Rattle.std.specs.List.{Contains, count_by}
use Rattle.std.specs.Prelude.{IfSome, IsSome, IsSomeAnd, IsTrue, unwrap_or}
use Rattle.std.specs.Str.{bytes_eq}
use Rattle.std.proofs.lemmas.Bool.{and_from, and_parts, eq-eqb, eqb-true, ne_eqb}
use Rattle.std.proofs.lemmas.List.Elements.{All-contains}
use Rattle.std.proofs.lemmas.Slice.Eq.{bytes_eq-Decides}
use Rattle.ntfs_def.specs.Attribute.{ExtentHeader}
use Rattle.ntfs_def.specs.Flags.{is_packed}
use Rattle.ntfs_def.specs.Units.{units_in}
use Rattle.ntfs_def.specs.declared.kinds.TheConstants.{DATA}
use Rattle.ntfs_def.specs.declared.records.TheConstants.{BAD_CLUSTERS}
use Rattle.ntfs_def.specs.declared.run_text.Run.{Run}
use Rattle.ntfs_def.specs.declared.run_text.Spot.TheVariants.{At}
use Rattle.list_laws.proofs.BoolLaws.{same-test}
use Rattle.list_laws.proofs.CodedLaws.{SameItems-Contains}
use Rattle.list_laws.proofs.FindLaws.{count-some, find-found}
use Rattle.list_laws.proofs.MemberLaws.{Contains-cases, Contains-filter, Contains-from_filter, Contains-head, Contains-later}
use Rattle.list_laws.proofs.MemberLaws.{Contains-map, Contains-nil, Contains-only}
use Rattle.list_laws.proofs.SameItemsLaws.{SameItems-sym}
use Rattle.volume_def.specs.Coverage.{times_covered}
use Rattle.volume_def.specs.ExtentsClause.{AreAttribute, AreWhole, BeginsAt, FitExtents, FollowFrom, bad_name, has_sizes, is_bad_stream}
use Rattle.volume_def.specs.Files.{Clusters, Content, Part, Value, all_covered, content_extent, content_runs, content_value, is_of}
use Rattle.volume_def.specs.Files.{part_clusters, part_runs, parts, parts_at, parts_like, records_of}
use Rattle.volume_def.specs.Readable.{IsFile, IsReadableVolume}
use Rattle.volume_def.specs.StreamSize.{IsFirstExtent}
use Rattle.volume_def.specs.Table.{cluster_bytes}
use Rattle.volume_def.specs.Values.{first_part, first_vcn_of, is_first, spot_at}
use Rattle.volume_def.specs.View.{VolumeView}
use Rattle.volume_def.proofs.Codes.{part_code}
use Rattle.volume_def.proofs.ReadableLaws.{readable-stream}
use Rattle.volume_def.proofs.ValueLaws.{spot_at-owned}
use Rattle.tree_model.specs.Reading.{begins_stream}
use Rattle.tree_model.specs.StreamRoom.{parts_named}
use Rattle.edit_def.specs.Kept.{AreTellable, key_of, told_of}
use Rattle.stream_edits.specs.Names.{stream_names}
use Rattle.stream_edits.specs.Streams.{IsThere}
use Rattle.stream_edits.proofs.StreamNames.{name-there, names-apart}
use Rattle.stream_edits.proofs.StreamReading.{data-no-name}

-- ONE OF WHOLE PARTS begins: a value, or the extent from cluster 0 on.
value-first : (part : Part) → IsSome (content_value part.content) → is_first part ≡ true
value-first part is = eq-eqb (first_vcn_of part.content) 0 (by part.content is)
  where
    by : (content : Content) → IsSome (content_value content) → first_vcn_of content ≡ 0
    by (Value v) is = refl
    by (Clusters extent runs) is = cc

begins-first : (part : Part) → BeginsAt 0 part → is_first part ≡ true
begins-first part begins = eq-eqb (first_vcn_of part.content) 0 (by part.content begins.first)
  where
    by : (content : Content) → IsSomeAnd (content_extent content) (λ extent. extent.sizes.first ≡ 0) → first_vcn_of content ≡ 0
    by (Value v) h = absurd h
    by (Clusters extent runs) h = h

whole-first : (xs : List Part) (part : Part) → AreWhole xs → Contains xs part → (one : Part) × Contains xs one × (is_first one ≡ true)
whole-first [] part whole c = absurd (Contains-nil part c)
whole-first (x ∷ []) part (inl value) c = (x, Contains-head x [], value-first x value)
whole-first (x ∷ []) part (inr begins) c = (x, Contains-head x [], begins-first x begins)
whole-first (x ∷ y ∷ xs) part whole c = (x, Contains-head x (y ∷ xs), begins-first x whole.0)

-- A VALUE is its only part, and covers no cluster.
follow-runs : (vcn : ℕ) (xs : List Part) (part : Part) → FollowFrom vcn xs → Contains xs part → IsSome (content_runs part.content)
follow-runs vcn [] part follow c = absurd (Contains-nil part c)
follow-runs vcn (x ∷ xs) part follow c = elim (Contains-cases x xs part c) [
  | inl same ↦ subst (λ (p : Part). IsSome (content_runs p.content)) same follow.0.runs
  | inr later ↦ follow-runs (vcn + part_clusters x) xs part follow.1 later
]

no-runs : (v : List ℕ) (content : Content) → content ≡ Value v → IsSome (content_runs content) → ⊥
no-runs v (Value u) e runs = cc
no-runs v (Clusters extent r) e runs = cc

whole-value : (xs : List Part) (part other : Part) (v : List ℕ) (c : ℕ) → AreWhole xs → Contains xs part → Contains xs other
    → part.content ≡ Value v → 1 ≤ times_covered (part_runs other) c → ⊥
whole-value [] part other v c whole one two is covered = Contains-nil part one
whole-value (x ∷ []) part other v c whole one two is covered =
    let same : other ≡ part = sym (Contains-only x other two) ∙ Contains-only x part one in
    let none : times_covered (part_runs other) c ≡ 0 =
    ap (λ (p : Part). times_covered (part_runs p) c) same ∙ ap (λ k. times_covered (unwrap_or (content_runs k) []) c) is in
    absurd (omega (arith, covered, none))
whole-value (x ∷ y ∷ xs) part other v c whole one two is covered =
    no-runs v part.content is (follow-runs 0 (x ∷ y ∷ xs) part whole one)

-- what passes among the items alone
filter-among : {A : Type 0} (p q : A → Bool) (xs : List A) → ((x : A) → Contains xs x → p x ≡ q x) → filter p xs ≡ filter q xs
filter-among p q [] same = refl
filter-among p q (x ∷ xs) same =
    ap (λ b. cond b (x ∷ filter p xs) (filter p xs)) (same x (Contains-head x xs))
    ∙ ap (λ ys. cond (q x) (x ∷ ys) ys) (filter-among p q xs (λ y c. same y (Contains-later x xs y c)))

first-of : (o : Option Part) → IsSome o → (part : Part) × (o ≡ Some part)
first-of None is = cc
first-of (Some part) is = (part, refl)

module _ (view : VolumeView) (f : ℕ) (name : List ℕ) (readable : IsReadableVolume view) (file : IsFile view f)
    (there : IsThere view (key_of f DATA name)) where
  abbrev all : List Part
  all = parts (records_of view) f

  abbrev pub extents : List Part
  extents = parts_at view f DATA name

  -- its first part
  pub first : (part : Part) × (first_part extents ≡ Some part)
  first = first-of (first_part extents) there

  pub begins : Contains extents first.0 × (is_first first.0 ≡ true)
  begins = find-found is_first extents first.0 first.1

  first-among : Contains all first.0 × (is_of DATA name first.0 ≡ true)
  first-among = Contains-from_filter (is_of DATA name) all first.0 begins.0

  pub first-kind : first.0.kind ≡ DATA
  first-kind = eqb-true first.0.kind DATA (and_parts (first.0.kind == DATA) (bytes_eq first.0.name name) first-among.1).0

  first-name : first.0.name ≡ name
  first-name =
      (bytes_eq-Decides first.0.name name).0 (and_parts (first.0.kind == DATA) (bytes_eq first.0.name name) first-among.1).1

  pub begun : 1 ≤ count_by is_first extents
  begun = count-some is_first extents first.0 begins.0 begins.1

  -- The parts are one attribute.
  pub attribute : AreAttribute (cluster_bytes view.layout) f extents
  attribute =
      subst (λ kind. AreAttribute (cluster_bytes view.layout) f (filter (is_of kind name) all)) first-kind
      (subst (λ other. AreAttribute (cluster_bytes view.layout) f (filter (is_of first.0.kind other) all)) first-name
      (readable-stream view f first.0 readable file first-among.0 (λ e. data-no-name (sym first-kind ∙ e))))

  first-ordered : Contains attribute.ordered first.0
  first-ordered = SameItems-Contains part_code extents attribute.ordered first.0 attribute.order begins.0

  -- IN CLUSTERS the first extent tells the sizes.
  pub first-extent : (extent : ExtentHeader) (runs : Option (List Run)) → first.0.content ≡ Clusters extent runs
      → IsFirstExtent extents extent
  first-extent extent runs is = record {
    part = first.0;
    among = begins.0;
    told = ap content_extent is;
    from_start = sym (ap first_vcn_of is) ∙ eqb-true (first_vcn_of first.0.content) 0 begins.1;
  }

  pub inside : f ≢ BAD_CLUSTERS → is_packed first.0.kind first.0.flags ≡ false → (extent : ExtentHeader) (runs : Option (List Run))
      → first.0.content ≡ Clusters extent runs → extent.sizes.initialized ≤ extent.sizes.real
  inside other plain extent runs is =
      let size = cluster_bytes view.layout in
      let Sized : Part → Type 0 = λ part. IsTrue (has_sizes f part) → IfSome (content_extent part.content) (λ extent.
      extent.sizes.first ≡ 0 → FitExtents (all_covered attribute.ordered * size) part.flags extent.sizes) in
      let sized : IsTrue (has_sizes f first.0) =
      ap (λ b. not (b || is_bad_stream f first.0)) plain ∙ ap (λ b. not (b && is_of DATA bad_name first.0)) (ne_eqb f BAD_CLUSTERS other) in
      let told = All-contains Sized attribute.ordered first.0 attribute.sizes first-ordered sized in
      let fits = subst (λ (content : Content). IfSome (content_extent content) (λ extent.
      extent.sizes.first ≡ 0 → FitExtents (all_covered attribute.ordered * size) first.0.flags extent.sizes)) is told in
      (fits (first-extent extent runs is).from_start).initialized

  -- A VALUE lies in no cluster.
  pub value-nowhere : (v : List ℕ) → first.0.content ≡ Value v → (vcn c : ℕ) → spot_at extents vcn ≡ At c → ⊥
  value-nowhere v is vcn c at =
      let owned = spot_at-owned extents vcn c at in
      whole-value attribute.ordered first.0 owned.0 v c attribute.whole first-ordered
      (SameItems-Contains part_code extents attribute.ordered owned.0 attribute.order owned.1) is owned.2

  -- EACH PART OF A STREAM of the file has a name by which a stream begins.
  pub part-named : (part : Part) → Contains all part → part.kind ≡ DATA → Contains (stream_names view f) part.name
  part-named part among kind =
      let its = readable-stream view f part readable file among (λ e. data-no-name (sym kind ∙ e)) in
      let itself = and_from (part.kind == part.kind) (bytes_eq part.name part.name) (eq-eqb part.kind part.kind refl)
      ((bytes_eq-Decides part.name part.name).1 refl) in
      let own = Contains-filter (is_of part.kind part.name) all part among itself in
      let one = whole-first its.ordered part its.whole
      (SameItems-Contains part_code (parts_like part all) its.ordered part its.order own) in
      let back = SameItems-Contains part_code its.ordered (parts_like part all) one.0 (SameItems-sym (parts_like part all) its.ordered
      its.order) one.1 in
      let like = Contains-from_filter (is_of part.kind part.name) all one.0 back in
      let same = and_parts (one.0.kind == part.kind) (bytes_eq one.0.name part.name) like.1 in
      let data_is : (one.0.kind == DATA) ≡ true = eq-eqb one.0.kind DATA (eqb-true one.0.kind part.kind same.0 ∙ kind) in
      subst (Contains (stream_names view f)) ((bytes_eq-Decides one.0.name part.name).0 same.1)
      (Contains-map (λ (p : Part). p.name) (filter begins_stream all) one.0
      (Contains-filter begins_stream all one.0 like.0 (and_from (one.0.kind == DATA) (is_first one.0) data_is one.2)))

  -- Where names are told apart by their units, the parts that are sought by the units of the name are those of the stream.
  pub named-same : AreTellable (told_of view f) → parts_named view f (units_in name) ≡ extents
  named-same tellable = filter-among (λ part. (part.kind == DATA) && bytes_eq (units_in part.name) (units_in name)) (is_of DATA name) all
      (λ part among. by part among (part.kind == DATA) refl)
    where
      by : (part : Part) → Contains all part → (b : Bool) → (part.kind == DATA) ≡ b
          → ((part.kind == DATA) && bytes_eq (units_in part.name) (units_in name)) ≡ is_of DATA name part
      by part among false e =
          ap (λ b. b && bytes_eq (units_in part.name) (units_in name)) e ∙ sym (ap (λ b. b && bytes_eq part.name name) e)
      by part among true e =
          ap (λ b. (part.kind == DATA) && b)
          (same-test (bytes_eq (units_in part.name) (units_in name)) (bytes_eq part.name name) (
            (λ same. names-apart view f tellable part.name name (part-named part among (eqb-true part.kind DATA e))
                (name-there view f name begun) ((bytes_eq-Decides (units_in part.name) (units_in name)).0 same)),
            (λ same. (bytes_eq-Decides (units_in part.name) (units_in name)).1 (ap units_in same)),
          ) (bytes_eq-Decides part.name name))
