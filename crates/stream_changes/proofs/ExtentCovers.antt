-- A STREAM IN CLUSTERS, IN ONE PART, covers its bytes, and so it can end earlier.
use Rattle.std.proofs.Common.{◌≡◌, ◌≤◌, ◌+◌, ◌*◌, ◌^◌, ◌||◌, ◌&&◌, not, ℕ, List, [], ◌∷◌, length, sym, ap, inl, inr, false, ◌-◌}
use Rattle.std.proofs.Common.{subst, ◌∙◌, arith}
use Rattle.std.specs.List.{Contains}
use Rattle.std.specs.Prelude.{IfSome, IsTrue}
use Rattle.std.proofs.lemmas.Bool.{eq-eqb, ne_eqb}
use Rattle.std.proofs.lemmas.List.Elements.{All-contains}
use Rattle.std.proofs.lemmas.List.Sums.{sum_by-cons}
use Rattle.std.proofs.lemmas.Nat.{div-add-mod'}
use Rattle.list_laws.proofs.FindLaws.{find-yes}
use Rattle.list_laws.proofs.MemberLaws.{Contains-cases, Contains-head, Contains-nil}
use Rattle.list_laws.proofs.SameItemsLaws.{SameItems-length}
use Rattle.list_laws.proofs.CodedLaws.{SameItems-Contains}
use Rattle.ntfs_def.specs.Flags.{is_packed}
use Rattle.ntfs_def.specs.Runs.{total_clusters}
use Rattle.ntfs_def.specs.declared.kinds.TheConstants.{DATA}
use Rattle.ntfs_def.specs.declared.records.TheConstants.{BAD_CLUSTERS}
use Rattle.volume_def.specs.ExtentsClause.{AreAttribute, FitExtents, bad_name, has_sizes, is_bad_stream}
use Rattle.volume_def.proofs.Codes.{part_code}
use Rattle.volume_def.specs.Files.{Content, Part, all_covered, content_extent, is_of, part_clusters}
use Rattle.volume_def.specs.Table.{cluster_bytes}
use Rattle.volume_def.specs.Values.{first_vcn_of, is_first}
use Rattle.volume_def.specs.View.{VolumeView}
use Rattle.volume_def.proofs.SoundLaws.{readable-sound}
use Rattle.edit_def.proofs.Sums.{clusters_for-least}
use Rattle.extent_edits.specs.Cut.{CanBeCut}
use Rattle.sparse_io.specs.declared.find.FoundStream.{FoundStream}
use Rattle.value_edits.proofs.Below.{file, not-bad}
use Rattle.value_edits.proofs.Below as below
use Rattle.value_edits.proofs.OneExtent.{fits-one}
use Rattle.value_edits.proofs.ValueCalls.{plain-one}
use Rattle.stream_changes.specs.Streams.{CanGive}
use Rattle.stream_changes.proofs.ExtentLaws.{part-kind, part-runs}

pub one-list : {A : Type 0} (xs : List A) (x : A) → length xs ≡ 1 → Contains xs x → xs ≡ x ∷ []
one-list [] x none c = absurd (Contains-nil x c)
one-list (y ∷ []) x one c = elim (Contains-cases y [] x c) [ inl same ↦ ap (λ z. z ∷ []) same | inr rest ↦ absurd (Contains-nil x rest) ]
one-list (y ∷ z ∷ xs) x one c = absurd (omega (arith, one))

-- one part has no other order
pub ordered-one : (size f : ℕ) (part : Part) (attribute : AreAttribute size f (part ∷ [])) → attribute.ordered ≡ part ∷ []
ordered-one size f part attribute =
    one-list attribute.ordered part (SameItems-length (part ∷ []) attribute.ordered attribute.order)
    (SameItems-Contains part_code (part ∷ []) attribute.ordered part attribute.order (Contains-head part []))

module _ (old : VolumeView) (found : FoundStream) (f : ℕ) (can : CanGive old found f) where
  abbrev size : ℕ
  size = cluster_bytes old.layout

  begins : first_vcn_of can.part.content ≡ 0
  begins = ap first_vcn_of can.is ∙ can.first

  attribute : AreAttribute size f (can.part ∷ [])
  attribute = subst (AreAttribute size f) can.alone
      (below.attribute old f can.named.name (readable-sound old can.named.can.can.sound)
      (file old f can.named.can.node can.named.can.can.there) can.named.finds.there)

  ordered : attribute.ordered ≡ can.part ∷ []
  ordered = ordered-one size f can.part attribute

  plain : is_packed can.part.kind can.part.flags ≡ false
  plain =
      let n = can.named in
      ap (λ k. is_packed k can.part.flags) (part-kind old found f can)
      ∙ plain-one old f n.can.node n.asked n.name n.held n.can.can n.finds can.part can.alone
      (find-yes is_first can.part (eq-eqb (first_vcn_of can.part.content) 0 begins)) (part-kind old found f can)

  sized : IsTrue (has_sizes f can.part)
  sized =
      ap (λ b. not (b || is_bad_stream f can.part)) plain
      ∙ ap (λ b. not (b && is_of DATA bad_name can.part))
      (ne_eqb f BAD_CLUSTERS (not-bad old f can.named.can.node can.named.can.can.there))

  -- all that its part covers
  pub covers-one : all_covered (can.part ∷ []) ≡ total_clusters can.runs
  covers-one = covered-one ∙ ap total_clusters (part-runs old found f can)
    where
      covered-one : all_covered (can.part ∷ []) ≡ part_clusters can.part
      covered-one = let one = sum_by-cons part_clusters can.part [] in omega (arith, one)

  -- its clusters have room for its bytes
  covers : can.extent.sizes.real ≤ total_clusters can.runs * size
  covers =
      let Sized : Part → Type 0 = λ part. IsTrue (has_sizes f part) → IfSome (content_extent part.content) (λ extent.
      extent.sizes.first ≡ 0 → FitExtents (all_covered attribute.ordered * size) part.flags extent.sizes) in
      let told = All-contains Sized attribute.ordered can.part attribute.sizes
      (subst (λ (ps : List Part). Contains ps can.part) (sym ordered) (Contains-head can.part [])) sized in
      let fits = subst (λ (content : Content). IfSome (content_extent content) (λ extent.
      extent.sizes.first ≡ 0 → FitExtents (all_covered attribute.ordered * size) can.part.flags extent.sizes)) can.is told can.first in
      let all : all_covered attribute.ordered ≡ total_clusters can.runs = ap all_covered ordered ∙ covers-one in
      subst (λ n. can.extent.sizes.real ≤ n * size) all fits.real

  -- so it can be cut behind each number of bytes that it has
  pub can-cut : (bytes : ℕ) → bytes ≤ can.extent.sizes.real → bytes ≤ 2 ^ 40 → old.layout.cluster_sectors ≤ 8
      → CanBeCut size bytes can.part.content
  can-cut bytes long near few =
      let some = can.named.can.can.apart.some in
      let whole = div-add-mod' (bytes + (size - 1)) size in
      record {
        extent = can.extent;
        runs = can.runs;
        is = can.is;
        first = can.first;
        long = long;
        covers = clusters_for-least (total_clusters can.runs) bytes size (omega (arith, some)) (omega (arith, long, covers));
        told = omega (arith, whole, near, few);
      }

  -- Its numbers fit its clusters.
  pub extent-fits : FitExtents (total_clusters can.runs * cluster_bytes old.layout) can.part.flags can.extent.sizes
  extent-fits = fits-one size can.part can.extent can.runs can.is can.first f attribute sized
