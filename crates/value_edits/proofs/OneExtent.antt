-- AN EXTENT FROM CLUSTER 0 ON that is a stream by itself: what its header tells, where it was made so, and where the volume is sound.
use Rattle.std.proofs.Common.{◌≡◌, ◌⊎◌, ◌+◌, ◌*◌, ℕ, Bool, true, false, List, [], ◌∷◌, Option, Some, None, length}
use Rattle.std.proofs.Common.{refl, sym, ap, subst, inr, ◌∙◌, arith}
use mathlib.Core.Path.{fun_ext}
use Rattle.std.specs.List.{Contains, range_with_len}
use Rattle.std.specs.Option.{option_map, option_map_or}
use Rattle.std.specs.Prelude.{IfSome, IsSome, IsSomeAnd, IsTrue, count_by, sum_by, unwrap_or}
use Rattle.std.proofs.lemmas.List.Elements.{All-contains}
use Rattle.list_laws.proofs.CodedLaws.{SameItems-Contains}
use Rattle.list_laws.proofs.MemberLaws.{Contains-head, Contains-nil, Contains-only}
use Rattle.list_laws.proofs.SameItemsLaws.{SameItems-length}
use Rattle.ntfs_def.specs.Attribute.{ExtentHeader}
use Rattle.ntfs_def.specs.Flags.{is_sparse}
use Rattle.ntfs_def.specs.Runs.{spot_of, total_clusters}
use Rattle.ntfs_def.specs.declared.run_text.Run.{Run}
use Rattle.volume_def.specs.ExtentsClause.{AreAttribute, BeginsAt, FitExtents, has_sizes, last_vcn_of}
use Rattle.volume_def.specs.Files.{Clusters, Content, Part, all_covered, content_extent, content_runs, part_clusters, part_runs}
use Rattle.volume_def.specs.Values.{first_vcn_of, spot_at}
use Rattle.volume_def.proofs.Codes.{part_code}
use Rattle.tree_model.specs.StreamRoom.{is_cluster}
use Rattle.edit_def.specs.Purses.{run_size}
use Rattle.session_def.specs.Nodes.{IsSpreadRight, IsSpreadSame, Spread, is_sparse_stream, owned_by, spread_of}
use Rattle.record_edits.proofs.WholeEdits.{one-extent}
use Rattle.value_edits.proofs.OnePart.{covered-one, first-one, spot-one, spread-one, spread_in}
use Rattle.value_edits.proofs.RunHoles.{owned-count}

-- one part has no other order
one-list : {A : Type 0} (xs : List A) (x : A) → length xs ≡ 1 → Contains xs x → xs ≡ x ∷ []
one-list [] x one c = absurd (Contains-nil x c)
one-list (y ∷ []) x one c = ap (λ z. z ∷ []) (Contains-only y x c)
one-list (y ∷ z ∷ xs) x one c = absurd (omega (arith, one))

pub ordered-one : (size f : ℕ) (part : Part) (attribute : AreAttribute size f (part ∷ [])) → attribute.ordered ≡ part ∷ []
ordered-one size f part attribute =
    one-list attribute.ordered part (SameItems-length (part ∷ []) attribute.ordered attribute.order)
    (SameItems-Contains part_code (part ∷ []) attribute.ordered part attribute.order (Contains-head part []))

-- a number that is told anew where one was told
pub told-anew : (n : ℕ) (o : Option ℕ) → IsSome o → option_map (λ (old : ℕ). n) o ≡ Some n
told-anew n (Some old) is = refl
told-anew n None is = cc

module _ (bytes : ℕ) (part : Part) (extent : ExtentHeader) (runs : List Run) (is : part.content ≡ Clusters extent (Some runs))
    (first : extent.sizes.first ≡ 0) where
  pub runs-are : part_runs part ≡ runs
  runs-are = ap (λ (content : Content). unwrap_or (content_runs content) []) is

  pub from-first : first_vcn_of part.content ≡ 0
  from-first = ap first_vcn_of is ∙ first

  pub clusters-are : part_clusters part ≡ total_clusters runs
  clusters-are = ap total_clusters runs-are

  pub spot-runs : (vcn : ℕ) → spot_at (part ∷ []) vcn ≡ spot_of runs vcn
  spot-runs vcn = spot-one part vcn from-first ∙ ap (λ (all : List Run). spot_of all vcn) runs-are

  -- IT IS AN ATTRIBUTE where its numbers fit its clusters ..
  begins : extent.sizes.last ≡ last_vcn_of (total_clusters runs) → BeginsAt 0 part
  begins last = record {
    runs = subst (λ (content : Content). IsSome (content_runs content)) (sym is) refl;
    first = subst (λ (content : Content). IsSomeAnd (content_extent content) (λ extent. extent.sizes.first ≡ 0)) (sym is) first;
    last = subst (λ (content : Content). IsSomeAnd (content_extent content) (λ extent.
        extent.sizes.last ≡ last_vcn_of (0 + part_clusters part))) (sym is) (last ∙ ap last_vcn_of (omega (arith, clusters-are)));
  }

  pub whole-one : (f : ℕ) → extent.sizes.last ≡ last_vcn_of (total_clusters runs)
      → FitExtents (total_clusters runs * bytes) part.flags extent.sizes → AreAttribute bytes f (part ∷ [])
  whole-one f last fits = one-extent bytes f part (begins last) (λ judged. subst (λ (content : Content).
      IfSome (content_extent content) (λ extent. extent.sizes.first ≡ 0 → FitExtents (part_clusters part * bytes) part.flags extent.sizes))
      (sym is) (λ zero. subst (λ n. FitExtents (n * bytes) part.flags extent.sizes) (sym clusters-are) fits))

  -- .. and where it is one, they do.
  pub fits-one : (f : ℕ) → AreAttribute bytes f (part ∷ []) → IsTrue (has_sizes f part)
      → FitExtents (total_clusters runs * bytes) part.flags extent.sizes
  fits-one f attribute judged =
      let ordered = ordered-one bytes f part attribute in
      let Sized : Part → Type 0 = λ other. IsTrue (has_sizes f other) → IfSome (content_extent other.content) (λ extent.
      extent.sizes.first ≡ 0 → FitExtents (all_covered attribute.ordered * bytes) other.flags extent.sizes) in
      let told = All-contains Sized attribute.ordered part attribute.sizes
      (subst (λ (ps : List Part). Contains ps part) (sym ordered) (Contains-head part [])) judged in
      let fits = subst (λ (content : Content). IfSome (content_extent content) (λ extent.
      extent.sizes.first ≡ 0 → FitExtents (all_covered attribute.ordered * bytes) part.flags extent.sizes)) is told first in
      subst (λ n. FitExtents (n * bytes) part.flags extent.sizes) (ap all_covered ordered ∙ covered-one part ∙ clusters-are) fits

  -- ITS CLUSTERS that are no hole
  pub owned-one : owned_by (part ∷ []) ≡ sum_by run_size runs
  owned-one =
      ap (λ (lies : ℕ → Bool). count_by lies (range_with_len 0 (all_covered (part ∷ []))))
      (fun_ext (λ vcn. ap is_cluster (spot-one part vcn from-first)))
      ∙ ap (λ n. count_by (λ vcn. is_cluster (spot_of (part_runs part) vcn)) (range_with_len 0 n)) (covered-one part)
      ∙ owned-count (part_runs part) ∙ ap (sum_by run_size) runs-are

  -- ITS SIZES tell its clusters.
  told : spread_of (part ∷ []) ≡ Some (spread_in extent)
  told = spread-one part from-first ∙ ap (λ (content : Content). option_map spread_in (content_extent content)) is

  sparse-part : is_sparse_stream (part ∷ []) ≡ true → is_sparse part.flags ≡ true
  sparse-part sparse =
      sym (ap (λ (o : Option Part). option_map_or (λ (p : Part). is_sparse p.flags) o false) (first-one part from-first)) ∙ sparse

  pub sizes-told : (was : List Part) → extent.sizes.allocated ≡ total_clusters runs * bytes
      → (is_sparse part.flags ≡ true → extent.compressed ≡ Some (sum_by run_size runs * bytes))
      → IfSome (spread_of (part ∷ [])) (λ (s : Spread). IsSpreadSame was (part ∷ []) ⊎ IsSpreadRight bytes (part ∷ []) s)
  sizes-told was allocated compressed =
      let spread : IsSpreadRight bytes (part ∷ []) (spread_in extent) = record {
        allocated = allocated ∙ ap (λ n. n * bytes) (sym (covered-one part ∙ clusters-are));
        compressed = λ sparse. compressed (sparse-part sparse) ∙ ap (λ (n : ℕ). Some (n * bytes)) (sym owned-one);
      } in
      subst (λ (o : Option Spread). IfSome o (λ (s : Spread). IsSpreadSame was (part ∷ []) ⊎ IsSpreadRight bytes (part ∷ []) s))
      (sym told) (inr spread)
