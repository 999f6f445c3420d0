-- THE STREAM OF THE BITMAP OF CLUSTERS: one attribute, whose bytes below its real size all lie in clusters, so that they may be written in
-- place below its initialized size.
use Rattle.std.proofs.Common.{◌≡◌, ◌+◌, ◌-◌, ◌*◌, ◌/◌, ◌<◌, ◌≤◌, ◌==◌, ◌||◌, ℕ, true, not, List, [], ◌∷◌, Option, Some, None}
use Rattle.std.proofs.Common.{refl, sym, ap, subst, inl, inr, ◌∙◌, arith}
use Rattle.std.specs.List.{All, Contains}
use Rattle.std.specs.Option.{option_map}
use Rattle.std.specs.Prelude.{IfSome, IsSome, IsTrue, filter}
use Rattle.std.proofs.lemmas.Bool.{cases_lt, eqb-true}
use Rattle.std.proofs.lemmas.List.Elements.{All-contains}
use Rattle.std.proofs.lemmas.List.Sums.{sum_by-append, sum_by-cons}
use Rattle.std.proofs.lemmas.Nat.{div_below}
use Rattle.ntfs_def.specs.Attribute.{ExtentHeader}
use Rattle.ntfs_def.specs.Runs.{spot_in, spot_of, total_clusters}
use Rattle.ntfs_def.specs.declared.kinds.TheConstants.{DATA, FILE_NAME}
use Rattle.ntfs_def.specs.declared.records.TheConstants.{CLUSTER_BITMAP}
use Rattle.ntfs_def.specs.declared.run_text.Run.{Run}
use Rattle.ntfs_def.specs.declared.run_text.Spot.TheVariants.{At}
use Rattle.ntfs_def.proofs.SpotLaws.{spot_of-first, spot_of-past}
use Rattle.list_laws.proofs.CodedLaws.{SameItems-Contains}
use Rattle.list_laws.proofs.FindLaws.{find-found}
use Rattle.list_laws.proofs.MemberLaws.{Contains-from_filter, Contains-from_flat_map, Contains-head, Contains-later}
use Rattle.list_laws.proofs.OptionLaws.{none_other, some_same}
use Rattle.list_laws.proofs.SameItemsLaws.{SameItems-sym}
use Rattle.volume_def.specs.BitmapClauses.{cluster_bits, written_by, written_in}
use Rattle.volume_def.specs.ExtentsClause.{AreAttribute, FitExtents, has_sizes, is_bad_stream}
use Rattle.volume_def.specs.Files.{Clusters, Content, Part, Value, all_covered, content_extent, is_of, joined_runs}
use Rattle.volume_def.specs.Files.{part_clusters, part_runs}
use Rattle.volume_def.specs.Files.{parts, records_of}
use Rattle.volume_def.specs.StreamSize.{IsFirstExtent, real_size}
use Rattle.volume_def.specs.Table.{cluster_bytes}
use Rattle.volume_def.specs.Values.{first_part, first_vcn_of, is_first, spot_at}
use Rattle.volume_def.specs.View.{VolumeView}
use Rattle.volume_def.proofs.Codes.{part_code}
use Rattle.volume_def.proofs.ExtentLaws.{spot_at-exact}
use Rattle.volume_def.proofs.ReadableLaws.{readable-stream}
use Rattle.volume_def.proofs.RunPieces.{total-cons}
use Rattle.volume_def.proofs.PartLaws.{named}
use Rattle.volume_edits.specs.Clusters.{IsOwnStream, IsWritable}
use Rattle.volume_edits.proofs.StreamClusters.{stream-own}
use Rattle.stored_bits.specs.PutFlags.{HasOwnBits}

-- RUNS WITHOUT A HOLE: each of their clusters lies somewhere.
place-there : (lcn : Option ℕ) (k : ℕ) → IsSome lcn → (c : ℕ) × (spot_in (Some (option_map (λ place. place + k) lcn)) ≡ At c)
place-there None k is = cc
place-there (Some place) k is = (place + k, refl)

runs-placed : (runs : List Run) (k : ℕ) → ((run : Run) → Contains runs run → IsSome run.lcn) → k < total_clusters runs
    → (c : ℕ) × (spot_of runs k ≡ At c)
runs-placed [] k all h = absurd (omega arith)
runs-placed (run ∷ runs) k all h = elim (cases_lt k run.len) [
  | inl lt ↦
      let its = place-there run.lcn k (all run (Contains-head run runs)) in
      (its.0, spot_of-first run runs k lt ∙ its.1)
  | inr ge ↦
      let t = total-cons run runs in
      let its = runs-placed runs (k - run.len) (λ other among. all other (Contains-later run runs other among)) (omega arith) in
      (its.0, spot_of-past run runs k ge ∙ its.1)
]

total-joined : (parts : List Part) → total_clusters (joined_runs parts) ≡ all_covered parts
total-joined [] = refl
total-joined (part ∷ parts) =
    sum_by-append (λ (r : Run). r.len) (part_runs part) (joined_runs parts)
    ∙ ap (λ n. part_clusters part + n) (total-joined parts)
    ∙ sym (sum_by-cons part_clusters part parts)

module _ (view : VolumeView) (h : HasOwnBits view) where
  abbrev size : ℕ
  size = cluster_bytes view.layout

  abbrev bits : List Part
  bits = cluster_bits view

  pub size-some : 0 < cluster_bytes view.layout
  size-some = let some = h.apart.some in omega (arith, some)

  begins : Contains bits h.part × (is_first h.part ≡ true)
  begins = find-found is_first bits h.part h.first

  pub bits-begin : is_first h.part ≡ true
  bits-begin = begins.1

  among : Contains (parts (records_of view) CLUSTER_BITMAP) h.part × (is_of DATA [] h.part ≡ true)
  among = Contains-from_filter (is_of DATA []) (parts (records_of view) CLUSTER_BITMAP) h.part begins.0

  pub part-names : (h.part.kind ≡ DATA) × (h.part.name ≡ [])
  part-names = named DATA [] h.part among.1

  pub bits-attribute : AreAttribute (cluster_bytes view.layout) CLUSTER_BITMAP (cluster_bits view)
  bits-attribute =
      subst (λ kind. AreAttribute size CLUSTER_BITMAP (filter (is_of kind []) (parts (records_of view) CLUSTER_BITMAP))) part-names.0
      (subst (λ name. AreAttribute size CLUSTER_BITMAP (filter (is_of h.part.kind name) (parts
      (records_of view) CLUSTER_BITMAP))) part-names.1
      (readable-stream view CLUSTER_BITMAP h.part h.readable h.is_file among.0
      (λ e. let never : DATA ≡ FILE_NAME = sym part-names.0 ∙ e in cc)))

  pub bits-first : IsFirstExtent (cluster_bits view) h.extent
  bits-first = record {
    part = h.part;
    among = begins.0;
    told = h.told;
    from_start = from h.part.content h.extent h.told begins.1;
  }
    where
      from : (content : Content) (extent : ExtentHeader) → content_extent content ≡ Some extent
          → (first_vcn_of content == 0) ≡ true → extent.sizes.first ≡ 0
      from (Value value) extent is first = absurd (none_other is)
      from (Clusters other runs) extent is first = ap (λ (e : ExtentHeader). e.sizes.first) (sym (some_same is)) ∙ eqb-true _ _ first

  ordered-part : Contains bits-attribute.ordered h.part
  ordered-part = SameItems-Contains part_code bits bits-attribute.ordered h.part bits-attribute.order begins.0

  fits : FitExtents (all_covered bits-attribute.ordered * cluster_bytes view.layout) h.part.flags h.extent.sizes
  fits =
      let Sized : Part → Type 0 = λ part. IsTrue (has_sizes CLUSTER_BITMAP part) → IfSome (content_extent part.content) (λ extent.
      extent.sizes.first ≡ 0 → FitExtents (all_covered bits-attribute.ordered * size) part.flags extent.sizes) in
      let sized : IsTrue (has_sizes CLUSTER_BITMAP h.part) =
      ap (λ b. not (b || is_bad_stream CLUSTER_BITMAP h.part)) h.plain in
      let told = All-contains Sized bits-attribute.ordered h.part bits-attribute.sizes ordered-part sized in
      subst (λ o. IfSome o (λ extent. extent.sizes.first ≡ 0
      → FitExtents (all_covered bits-attribute.ordered * size) h.part.flags extent.sizes)) h.told told bits-first.from_start

  pub within : h.extent.sizes.initialized ≤ h.extent.sizes.real
  within = fits.initialized

  no-hole : (run : Run) → Contains (joined_runs bits-attribute.ordered) run → IsSome run.lcn
  no-hole run there =
      let its = Contains-from_flat_map part_runs bits-attribute.ordered run there in
      let back = SameItems-Contains part_code bits-attribute.ordered bits its.0
      (SameItems-sym bits bits-attribute.ordered bits-attribute.order) its.1 in
      All-contains (λ run. IsSome run.lcn) (part_runs its.0) run
      (All-contains (λ part. All (λ run. IsSome run.lcn) (part_runs part)) bits its.0 h.no_hole back) its.2

  -- EACH BYTE of the value lies in a cluster.
  byte-placed : (i : ℕ) → i < h.extent.sizes.real → (c : ℕ) × (spot_at (cluster_bits view) (i / cluster_bytes view.layout) ≡ At c)
  byte-placed i lt =
      let covered = fits.real in
      let k : i / size < all_covered bits-attribute.ordered =
      div_below i size (all_covered bits-attribute.ordered) size-some (omega (arith, lt, covered)) in
      let its = runs-placed (joined_runs bits-attribute.ordered) (i / size) no-hole (omega
      (arith, k, total-joined bits-attribute.ordered)) in
      (its.0, spot_at-exact size CLUSTER_BITMAP bits (i / size) bits-attribute ∙ its.1)

  written-is : written_by (first_part (cluster_bits view)) ≡ h.extent.sizes.initialized
  written-is = ap written_by h.first ∙ by h.part.content h.extent h.told
    where
      by : (content : Content) (extent : ExtentHeader) → content_extent content ≡ Some extent
          → written_in content ≡ extent.sizes.initialized
      by (Value value) extent is = absurd (none_other is)
      by (Clusters other runs) extent is = ap (λ (e : ExtentHeader). e.sizes.initialized) (some_same is)

  pub real-is : real_size h.part.content ≡ h.extent.sizes.real
  real-is = by h.part.content h.extent h.told
    where
      by : (content : Content) (extent : ExtentHeader) → content_extent content ≡ Some extent → real_size content ≡ extent.sizes.real
      by (Value value) extent is = absurd (none_other is)
      by (Clusters other runs) extent is = ap (λ (e : ExtentHeader). e.sizes.real) (some_same is)

  pub bits-own : IsOwnStream view.layout (spot_at (cluster_bits view))
  bits-own =
      stream-own view CLUSTER_BITMAP DATA [] h.owners h.apart.some (inr (
        (λ e. absurd (omega (arith, e))),
        (λ e. absurd (omega
            (arith, e))),
      ))

  -- BYTES MAY BE WRITTEN below its initialized size.
  pub bits-writable : (at len : ℕ) → at + len ≤ h.extent.sizes.initialized → IsWritable view (cluster_bits view) at len
  bits-writable at len below = record {
    apart = h.apart;
    own = bits-own;
    placed = λ i inside. byte-placed i (omega (arith, inside.1, below, within));
    below = omega (arith, below, written-is);
  }
