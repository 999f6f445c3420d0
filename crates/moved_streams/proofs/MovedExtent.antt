-- AN EXTENT THAT A VALUE BECAME, as a part: it is an attribute by itself, lies in the run alone, has no hole, and its sizes tell its
-- clusters. What its header tells that no part has is as of one that is made anew.
use Rattle.std.proofs.Common.{◌≡◌, ◌⊎◌, ◌≤◌, ◌<◌, ◌+◌, ◌*◌, ◌==◌, ◌||◌, ℕ, true, false, List, [], ◌∷◌, Option, Some, None}
use Rattle.std.proofs.Common.{refl, sym, ap, subst, inl, inr, ◌∙◌, arith}
use Rattle.std.specs.Prelude.{IfSome, IsSome, is_none, sum_by, unwrap_or, if◌then◌else◌}
use Rattle.std.proofs.lemmas.Bool.{cases_lt}
use Rattle.ntfs_def.specs.Attribute.{Attribute, ExtentHeader}
use Rattle.ntfs_def.specs.Flags.{is_sparse}
use Rattle.ntfs_def.specs.Runs.{spot_of, total_clusters}
use Rattle.ntfs_def.specs.declared.kinds.TheConstants.{DATA, FILE_NAME}
use Rattle.ntfs_def.specs.declared.run_text.Run.{Run}
use Rattle.volume_def.specs.ExtentsClause.{AreAttribute, FitExtents, last_vcn_of}
use Rattle.volume_def.specs.Files.{Clusters, Content, Part, content_runs, part_of, part_runs}
use Rattle.volume_def.specs.Values.{first_part, first_vcn_of, spot_at}
use Rattle.volume_def.proofs.RunPieces.{spot_of-behind, total-cons}
use Rattle.tree_model.specs.StreamRoom.{is_cluster}
use Rattle.edit_def.specs.Forms.{IsNewForm, form_of}
use Rattle.edit_def.specs.Places.{flags_of}
use Rattle.edit_def.specs.Purses.{part_size, run_size}
use Rattle.session_def.specs.Nodes.{IsSpreadRight, IsSpreadSame, Spread, has_hole, spread_of}
use Rattle.extent_edits.specs.Numbers.{sizes_over}
use Rattle.value_moves.specs.Moved.{BecomesExtent}
use Rattle.value_edits.proofs.OneExtent as one
use Rattle.value_edits.proofs.OnePart.{flags-one, holed-one}
use Rattle.value_edits.proofs.RunHoles.{has_hole_in}

-- a run with a place is no hole
pub placed-alone : (run : Run) → IsSome run.lcn → has_hole_in (run ∷ []) ≡ false
placed-alone run placed = by run.lcn placed
  where
    by : (lcn : Option ℕ) → IsSome lcn → (is_none lcn || false) ≡ false
    by None is = cc
    by (Some place) is = refl

module _ (bytes : ℕ) (run : Run) (real initialized : ℕ) (was now : Attribute) (becomes : BecomesExtent bytes run real initialized was now)
    (f : ℕ) where
  abbrev part : Part
  part = part_of f now

  abbrev pub extent : ExtentHeader
  extent = record { sizes = sizes_over run.len bytes real initialized; compressed = None }

  pub content : part.content ≡ Clusters extent (Some (run ∷ []))
  content = becomes.content

  -- ITS HEADER is made anew.
  pub form-new : was.kind ≡ DATA → IsNewForm (form_of now)
  form-new kind =
      subst IsNewForm (sym becomes.form)
      (record { unit = refl; indexed = subst (λ type. ◌≡◌ {A = ℕ} 0 (if type == FILE_NAME then 1 else 0)) (sym kind) refl })

  pub runs-now : part_runs part ≡ run ∷ []
  runs-now = one.runs-are bytes part extent (run ∷ []) content refl

  pub runs-was : part_runs (part_of f was) ≡ []
  runs-was = ap (λ (content : Content). unwrap_or (content_runs content) []) becomes.can.is

  first-was : first_vcn_of (part_of f was).content ≡ 0
  first-was = ap first_vcn_of becomes.can.is

  pub first-now : first_vcn_of part.content ≡ 0
  first-now = one.from-first bytes part extent (run ∷ []) content refl

  total : total_clusters (run ∷ []) ≡ run.len
  total = let all = total-cons run [] in let none : total_clusters [] ≡ 0 = refl in omega (arith, all, none)

  -- IT IS AN ATTRIBUTE, where its clusters have room for its bytes.
  pub whole : initialized ≤ real → real ≤ run.len * bytes → AreAttribute bytes f (part ∷ [])
  whole inside room =
      let all : total_clusters (run ∷ []) * bytes ≡ run.len * bytes = ap (λ n. n * bytes) total in
      let fits : FitExtents (total_clusters (run ∷ []) * bytes) part.flags extent.sizes = record {
        initialized = inside;
        real = omega (arith, all, room);
        allocated = λ plain. sym all;
      } in
      one.whole-one bytes part extent (run ∷ []) content refl f (ap last_vcn_of (sym total)) fits

  -- IT LIES in the run alone.
  pub size-now : part_size part ≡ part_size (part_of f was) + sum_by run_size (run ∷ [])
  size-now =
      let now_is : part_size part ≡ sum_by run_size (run ∷ []) = ap (sum_by run_size) runs-now in
      let was_is : part_size (part_of f was) ≡ 0 = ap (sum_by run_size) runs-was in
      omega (arith, now_is, was_is)

  pub spot-now : (vcn : ℕ) → spot_at (part ∷ []) vcn ≡ spot_of (run ∷ []) vcn
  spot-now vcn = one.spot-runs bytes part extent (run ∷ []) content refl vcn

  pub spot-inside : (vcn : ℕ) → is_cluster (spot_at (part ∷ []) vcn) ≡ true → vcn < run.len
  spot-inside vcn lies = elim (cases_lt vcn run.len) [
    | inl inside ↦ inside
    | inr past ↦
        let never = sym (ap is_cluster (spot-now vcn ∙ spot_of-behind (run ∷ []) vcn (omega (arith, past, total)))) ∙ lies in
        absurd (cc)
  ]

  -- IT HAS NO HOLE.
  pub no-hole : IsSome run.lcn → has_hole (part ∷ []) ≡ true → ⊥
  no-hole placed holed =
      let never = sym (ap has_hole_in runs-now ∙ placed-alone run placed) ∙ holed-one part holed in
      cc

  plain : part.flags ≡ 0 → is_sparse part.flags ≡ true → ⊥
  plain none sparse = let never = sym (ap is_sparse none) ∙ sparse in cc

  -- ITS SIZES tell its clusters.
  pub sizes-told : part.flags ≡ 0 → IfSome (spread_of (part ∷ [])) (λ (s : Spread).
      IsSpreadSame (part_of f was ∷ []) (part ∷ []) ⊎ IsSpreadRight bytes (part ∷ []) s)
  sizes-told none =
      one.sizes-told bytes part extent (run ∷ []) content refl (part_of f was ∷ []) (ap (λ n. n * bytes) (sym total))
      (λ sparse. absurd (plain none sparse))

  pub flags-kept : now.flags ≡ was.flags → flags_of (first_part (part ∷ [])) ≡ flags_of (first_part (part_of f was ∷ []))
  flags-kept same = flags-one part first-now ∙ same ∙ sym (flags-one (part_of f was) first-was)
