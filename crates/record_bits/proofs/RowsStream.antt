-- THE STREAM OF THE BITMAP OF RECORDS: one attribute, whose bytes below its real size all lie in clusters of its own.
use Rattle.std.proofs.Common.{◌≡◌, ◌+◌, ◌-◌, ◌*◌, ◌/◌, ◌<◌, ◌≤◌, ◌==◌, ◌||◌, ℕ, true, not, List, [], ◌∷◌, Option, Some, None}
use Rattle.std.proofs.Common.{refl, sym, ap, subst, inl, inr, ◌∙◌, arith}
use Rattle.std.specs.List.{All, Contains}
use Rattle.std.specs.Option.{option_map}
use Rattle.std.specs.Prelude.{IfSome, IsSome, IsSomeAnd, IsTrue, filter, slice_get}
use Rattle.std.proofs.lemmas.Bool.{cases_lt, eqb-true}
use Rattle.std.proofs.lemmas.List.Elements.{All-contains}
use Rattle.std.proofs.lemmas.List.Sums.{sum_by-append, sum_by-cons}
use Rattle.std.proofs.lemmas.Nat.{div_below}
use Rattle.ntfs_def.specs.Attribute.{Attribute, ExtentHeader}
use Rattle.ntfs_def.specs.Runs.{spot_in, spot_of, total_clusters}
use Rattle.ntfs_def.specs.declared.kinds.TheConstants.{BITMAP}
use Rattle.ntfs_def.specs.declared.records.TheConstants.{MFT}
use Rattle.ntfs_def.specs.declared.run_text.Run.{Run}
use Rattle.ntfs_def.specs.declared.run_text.Spot.{Spot}
use Rattle.ntfs_def.specs.declared.run_text.Spot.TheVariants.{At}
use Rattle.ntfs_def.proofs.SpotLaws.{spot_of-first, spot_of-past}
use Rattle.list_laws.proofs.CodedLaws.{SameItems-Contains}
use Rattle.list_laws.proofs.FindLaws.{find-found}
use Rattle.list_laws.proofs.MemberLaws.{Contains-from_filter, Contains-from_flat_map, Contains-head, Contains-later}
use Rattle.list_laws.proofs.OptionLaws.{none_other, some_same}
use Rattle.list_laws.proofs.SameItemsLaws.{SameItems-sym}
use Rattle.volume_def.specs.BitmapClauses.{record_bits, written_in}
use Rattle.volume_def.specs.ExtentsClause.{AreAttribute, FitExtents, has_sizes, is_bad_stream}
use Rattle.volume_def.specs.Files.{Clusters, Content, Part, Value, all_covered, content_extent, is_of, joined_runs, part_of}
use Rattle.volume_def.specs.Files.{part_clusters, part_runs}
use Rattle.volume_def.specs.Files.{parts, records_of}
use Rattle.volume_def.specs.StreamSize.{IsFirstExtent}
use Rattle.volume_def.specs.Table.{cluster_bytes}
use Rattle.volume_def.specs.Values.{first_part, first_vcn_of, is_first, spot_at}
use Rattle.volume_def.specs.View.{VolumeView}
use Rattle.volume_def.proofs.Codes.{part_code}
use Rattle.volume_def.proofs.ExtentLaws.{spot_at-exact}
use Rattle.volume_def.proofs.ReadableLaws.{readable-stream}
use Rattle.volume_def.proofs.RunPieces.{total-cons}
use Rattle.volume_def.proofs.PartLaws.{named}
use Rattle.volume_edits.specs.Clusters.{IsOwnStream}
use Rattle.volume_edits.proofs.StreamClusters.{stream-own}
use Rattle.sparse_io.specs.FileParts.{FileParts}
use Rattle.sparse_io.specs.FileRecordHeld.{AreParts, file_number, parts_held}
use Rattle.sparse_io.specs.FirstPart.{FirstPart}
use Rattle.sparse_io.specs.First.{attribute_held}
use Rattle.sparse_io.specs.Sought.{parts_held_like}
use Rattle.sparse_io.proofs.StoredLaws.{stored-like}
use Rattle.record_bits.specs.HeldRecordBits.{HoldsRecordBits}

-- RUNS WITHOUT A HOLE: each of their clusters lies somewhere.
place-there : (lcn : Option ℕ) (k : ℕ) → IsSome lcn → (c : ℕ) × (spot_in (Some (option_map (λ place. place + k) lcn)) ≡ At c)
place-there None k is = cc
place-there (Some place) k is = (place + k, refl)

runs-placed : (runs : List Run) (k : ℕ) → ((run : Run) → Contains runs run → IsSome run.lcn) → k < total_clusters runs
    → (c : ℕ) × (spot_of runs k ≡ At c)
runs-placed [] k all h = absurd (omega arith)
runs-placed (run ∷ runs) k all h = elim (cases_lt k run.len) [
  | inl lt ↦
      let its = place-there run.lcn k (all run (Contains-head run runs)) in
      (its.0, spot_of-first run runs k lt ∙ its.1)
  | inr ge ↦
      let t = total-cons run runs in
      let its = runs-placed runs (k - run.len) (λ other among. all other (Contains-later run runs other among)) (omega arith) in
      (its.0, spot_of-past run runs k ge ∙ its.1)
]

total-joined : (parts : List Part) → total_clusters (joined_runs parts) ≡ all_covered parts
total-joined [] = refl
total-joined (part ∷ parts) =
    sum_by-append (λ (r : Run). r.len) (part_runs part) (joined_runs parts)
    ∙ ap (λ n. part_clusters part + n) (total-joined parts)
    ∙ sym (sum_by-cons part_clusters part parts)

-- what is held of it
pub rows-held : (view : VolumeView) (file : FileParts) → AreParts view file → file_number file ≡ MFT
    → attribute_held file BITMAP [] ≡ record_bits view
rows-held view file are number = ap (λ ps. filter (is_of BITMAP []) ps) (are.parts ∙ ap (parts (records_of view)) number)

module _ (view : VolumeView) (file : FileParts) (its : FirstPart) (h : HoldsRecordBits view file its) where
  abbrev size : ℕ
  size = cluster_bytes view.layout

  abbrev rows : List Part
  rows = record_bits view

  abbrev part : Part
  part = h.tells.part

  pub rows-part : first_part (record_bits view) ≡ Some h.tells.part
  rows-part = sym (ap first_part (rows-held view file h.parts h.number)) ∙ h.tells.is_first

  begins : Contains rows part × (is_first part ≡ true)
  begins = find-found is_first rows part rows-part

  among : Contains (parts (records_of view) MFT) part × (is_of BITMAP [] part ≡ true)
  among = Contains-from_filter (is_of BITMAP []) (parts (records_of view) MFT) part begins.0

  part-names : (part.kind ≡ BITMAP) × (part.name ≡ [])
  part-names = named BITMAP [] part among.1

  pub rows-attribute : AreAttribute (cluster_bytes view.layout) MFT (record_bits view)
  rows-attribute =
      subst (λ kind. AreAttribute size MFT (filter (is_of kind []) (parts (records_of view) MFT))) part-names.0
      (subst (λ name. AreAttribute size MFT (filter (is_of part.kind name) (parts (records_of view) MFT))) part-names.1
      (readable-stream view MFT part h.readable h.is_file among.0
      (λ e. absurd (omega (arith, part-names.0, e)))))

  pub rows-first : IsFirstExtent (record_bits view) h.extent
  rows-first = record {
    part = part;
    among = begins.0;
    told = h.told;
    from_start = from part.content h.extent h.told begins.1;
  }
    where
      from : (content : Content) (extent : ExtentHeader) → content_extent content ≡ Some extent
          → (first_vcn_of content == 0) ≡ true → extent.sizes.first ≡ 0
      from (Value value) extent is first = absurd (none_other is)
      from (Clusters other runs) extent is first = ap (λ (e : ExtentHeader). e.sizes.first) (sym (some_same is)) ∙ eqb-true _ _ first

  ordered-part : Contains rows-attribute.ordered part
  ordered-part = SameItems-Contains part_code rows rows-attribute.ordered part rows-attribute.order begins.0

  fits : FitExtents (all_covered rows-attribute.ordered * cluster_bytes view.layout) part.flags h.extent.sizes
  fits =
      let Sized : Part → Type 0 = λ part. IsTrue (has_sizes MFT part) → IfSome (content_extent part.content) (λ extent.
      extent.sizes.first ≡ 0 → FitExtents (all_covered rows-attribute.ordered * size) part.flags extent.sizes) in
      let sized : IsTrue (has_sizes MFT part) = ap (λ b. not (b || is_bad_stream MFT part)) h.plain in
      let told = All-contains Sized rows-attribute.ordered part rows-attribute.sizes ordered-part sized in
      subst (λ o. IfSome o (λ extent. extent.sizes.first ≡ 0
      → FitExtents (all_covered rows-attribute.ordered * size) part.flags extent.sizes)) h.told told rows-first.from_start

  pub rows-within : h.extent.sizes.initialized ≤ h.extent.sizes.real
  rows-within = fits.initialized

  no-hole : (run : Run) → Contains (joined_runs rows-attribute.ordered) run → IsSome run.lcn
  no-hole run there =
      let one = Contains-from_flat_map part_runs rows-attribute.ordered run there in
      let back = SameItems-Contains part_code rows-attribute.ordered rows one.0
      (SameItems-sym rows rows-attribute.ordered rows-attribute.order) one.1 in
      All-contains (λ run. IsSome run.lcn) (part_runs one.0) run
      (All-contains (λ part. All (λ run. IsSome run.lcn) (part_runs part)) rows one.0 h.no_hole back) one.2

  -- EACH BYTE of the value lies in a cluster.
  pub rows-placed : (i : ℕ) → i < h.extent.sizes.real → (c : ℕ) × (spot_at (record_bits view) (i / cluster_bytes view.layout) ≡ At c)
  rows-placed i lt =
      let covered = fits.real in
      let some : 0 < size = let per = h.apart.some in omega (arith, per) in
      let k : i / size < all_covered rows-attribute.ordered =
      div_below i size (all_covered rows-attribute.ordered) some (omega (arith, lt, covered)) in
      let one = runs-placed (joined_runs rows-attribute.ordered) (i / size) no-hole (omega
      (arith, k, total-joined rows-attribute.ordered)) in
      (one.0, spot_at-exact size MFT rows (i / size) rows-attribute ∙ one.1)

  -- what was written of it
  written-same : (content : Content) (extent : ExtentHeader) → content_extent content ≡ Some extent
      → written_in content ≡ extent.sizes.initialized
  written-same (Value value) extent is = absurd (none_other is)
  written-same (Clusters other runs) extent is = ap (λ (e : ExtentHeader). e.sizes.initialized) (some_same is)

  pub rows-written : its.written ≡ h.extent.sizes.initialized
  rows-written = h.tells.written ∙ written-same part.content h.extent h.told

  pub rows-own : IsOwnStream view.layout (spot_at (record_bits view))
  rows-own = stream-own view MFT BITMAP [] h.owners h.apart.some (inl (λ e. absurd (omega (arith, e))))

  -- the attribute at the place of that part
  pub rows-like : (a : Attribute) → IsSomeAnd (slice_get (parts_held file) its.index) (λ part. part ≡ part_of part.holder a)
      → parts_held_like file a ≡ record_bits view
  rows-like a at =
      stored-like file BITMAP [] (record { part = its.index; len = its.len })
      (record { first = part; at = h.tells.at; is_first = h.tells.is_first; len = h.tells.len }) a at
      ∙ rows-held view file h.parts h.number

  -- where its clusters lie, as it is told by that attribute
  pub spot-found : (a : Attribute) → IsSomeAnd (slice_get (parts_held file) its.index) (λ part. part ≡ part_of part.holder a)
      → (at size : ℕ) (spot : Spot) → size ≡ cluster_bytes view.layout
      → ((s f : ℕ) → AreAttribute s f (parts_held_like file a) → spot ≡ spot_at (parts_held_like file a) (at / size))
      → spot ≡ spot_at (record_bits view) (at / cluster_bytes view.layout)
  spot-found a there at size spot is told =
      let like = rows-like a there in
      told (cluster_bytes view.layout) MFT (subst (AreAttribute (cluster_bytes view.layout) MFT) (sym like) rows-attribute)
      ∙ ap (λ ps. spot_at ps (at / size)) like ∙ ap (λ n. spot_at (record_bits view) (at / n)) is
