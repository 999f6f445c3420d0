-- AN EXTENT THAT GOT A RUN behind its others, or none, and other sizes, part by part: it is an attribute by itself, lies where the shorter
-- one lay and in the clusters of the run, has a hole only where that had one, and its sizes tell its clusters.
use Rattle.std.proofs.Common.{◌≡◌, ◌⊎◌, ◌≤◌, ◌<◌, ◌+◌, ◌-◌, ◌*◌, ◌||◌, ℕ, Bool, true, false, List, [], ◌∷◌, ◌++◌, Option, Some, None}
use Rattle.std.proofs.Common.{refl, sym, ap, inl, inr, ◌∙◌, arith}
use Rattle.std.specs.Option.{option_to_list}
use Rattle.std.specs.Prelude.{IfSome, IsSome, is_none, sum_by}
use Rattle.std.proofs.lemmas.Bool.{or_cases, or_right}
use Rattle.std.proofs.lemmas.List.Sums.{sum_by-append}
use Rattle.ntfs_def.specs.Flags.{is_sparse}
use Rattle.ntfs_def.specs.Runs.{spot_of, total_clusters}
use Rattle.ntfs_def.specs.declared.run_text.Run.{Run}
use Rattle.ntfs_def.specs.declared.sizes.Sizes.{Sizes}
use Rattle.volume_def.specs.ExtentsClause.{AreAttribute, FitExtents}
use Rattle.volume_def.specs.Files.{Part, part_runs}
use Rattle.volume_def.specs.Values.{first_part, first_vcn_of, spot_at}
use Rattle.volume_def.proofs.RunPieces.{spot_of-back, spot_of-front}
use Rattle.edit_def.specs.Places.{flags_of}
use Rattle.edit_def.specs.Purses.{part_size, run_size}
use Rattle.session_def.specs.Nodes.{IsSpreadRight, IsSpreadSame, Spread, has_hole, spread_of}
use Rattle.extent_edits.specs.Extended.{IsExtended}
use Rattle.value_edits.proofs.OneExtent as one
use Rattle.value_edits.proofs.OneExtent.{told-anew}
use Rattle.value_edits.proofs.OnePart.{flags-one, holed-one}
use Rattle.value_edits.proofs.RunHoles.{has_hole_in}

-- the run has a place
abbrev pub IsPlacedRun : Option Run → Type 0
IsPlacedRun run = IfSome run (λ (r : Run). IsSome r.lcn)

-- a hole of two lists is one of the first, where the second has none
hole-front : (xs ys : List Run) → has_hole_in ys ≡ false → has_hole_in (xs ++ ys) ≡ true → has_hole_in xs ≡ true
hole-front [] ys none holed = let never = sym holed ∙ none in cc
hole-front (x ∷ xs) ys none holed = elim (or_cases (is_none x.lcn) (has_hole_in (xs ++ ys)) holed) [
  | inl here ↦ ap (λ b. b || has_hole_in xs) here
  | inr later ↦ or_right (is_none x.lcn) (has_hole_in xs) (hole-front xs ys none later)
]

placed-run : (run : Option Run) → IsPlacedRun run → has_hole_in (option_to_list run) ≡ false
placed-run None placed = refl
placed-run (Some run) placed = by run.lcn placed
  where
    by : (lcn : Option ℕ) → IsSome lcn → (is_none lcn || false) ≡ false
    by None is = cc
    by (Some place) is = refl

pub total-append : (xs ys : List Run) → total_clusters (xs ++ ys) ≡ total_clusters xs + total_clusters ys
total-append xs ys = sum_by-append (λ (run : Run). run.len) xs ys

module _ (bytes real initialized : ℕ) (run : Option Run) (was now : Part)
    (long : IsExtended bytes real initialized run was.content now.content) where
  abbrev more : List Run
  more = option_to_list run

  pub runs-was : part_runs was ≡ long.can.runs
  runs-was = one.runs-are bytes was long.can.extent long.can.runs long.can.is long.can.first

  first-is : long.extent.sizes.first ≡ 0
  first-is = ap (λ (s : Sizes). s.first) long.sizes

  pub runs-now : part_runs now ≡ long.can.runs ++ more
  runs-now = one.runs-are bytes now long.extent long.runs long.is first-is ∙ long.longer

  pub first-was : first_vcn_of was.content ≡ 0
  first-was = one.from-first bytes was long.can.extent long.can.runs long.can.is long.can.first

  pub first-now : first_vcn_of now.content ≡ 0
  first-now = one.from-first bytes now long.extent long.runs long.is first-is

  -- IT IS AN ATTRIBUTE, where its clusters have room for its bytes.
  pub whole : initialized ≤ real → real ≤ total_clusters (long.can.runs ++ more) * bytes → (f : ℕ) → AreAttribute bytes f (now ∷ [])
  whole inside room f =
      let all : total_clusters long.runs * bytes ≡ total_clusters (long.can.runs ++ more) * bytes =
      ap (λ (runs : List Run). total_clusters runs * bytes) long.longer in
      let initialized_is = ap (λ (s : Sizes). s.initialized) long.sizes in
      let real_is = ap (λ (s : Sizes). s.real) long.sizes in
      let fits : FitExtents (total_clusters long.runs * bytes) now.flags long.extent.sizes = record {
        initialized = omega (arith, initialized_is, real_is, inside);
        real = omega (arith, real_is, all, room);
        allocated = λ plain. ap (λ (s : Sizes). s.allocated) long.sizes;
      } in
      one.whole-one bytes now long.extent long.runs long.is first-is f (ap (λ (s : Sizes). s.last) long.sizes) fits

  -- IT LIES where the shorter one lay, and behind that in the run.
  pub size-more : part_size now ≡ part_size was + sum_by run_size more
  size-more =
      ap (sum_by run_size) runs-now ∙ sum_by-append run_size long.can.runs more
      ∙ ap (λ (runs : List Run). sum_by run_size runs + sum_by run_size more) (sym runs-was)

  pub spot-now : (vcn : ℕ) → spot_at (now ∷ []) vcn ≡ spot_of (long.can.runs ++ more) vcn
  spot-now vcn =
      one.spot-runs bytes now long.extent long.runs long.is first-is vcn ∙ ap (λ (runs : List Run). spot_of runs vcn) long.longer

  pub spot-was : (vcn : ℕ) → spot_at (was ∷ []) vcn ≡ spot_of long.can.runs vcn
  spot-was vcn = one.spot-runs bytes was long.can.extent long.can.runs long.can.is long.can.first vcn

  pub spot-inside : (vcn : ℕ) → vcn < total_clusters long.can.runs → spot_at (now ∷ []) vcn ≡ spot_at (was ∷ []) vcn
  spot-inside vcn inside = spot-now vcn ∙ spot_of-front long.can.runs more vcn inside ∙ sym (spot-was vcn)

  pub spot-behind : (vcn : ℕ) → total_clusters long.can.runs ≤ vcn
      → spot_at (now ∷ []) vcn ≡ spot_of more (vcn - total_clusters long.can.runs)
  spot-behind vcn past = spot-now vcn ∙ spot_of-back long.can.runs more vcn past

  -- A HOLE of it was one of the shorter one.
  pub holes : IsPlacedRun run → has_hole (now ∷ []) ≡ true → has_hole (was ∷ []) ≡ true
  holes placed holed =
      let all : has_hole_in (long.can.runs ++ more) ≡ true = sym (ap has_hole_in runs-now) ∙ holed-one now holed in
      ap (λ (b : Bool). b || false) (ap has_hole_in runs-was ∙ hole-front long.can.runs more (placed-run run placed) all)

  -- ITS SIZES tell its clusters.
  pub sizes-told : (is_sparse now.flags ≡ true → IsSome long.can.extent.compressed)
      → IfSome (spread_of (now ∷ [])) (λ (s : Spread). IsSpreadSame (was ∷ []) (now ∷ []) ⊎ IsSpreadRight bytes (now ∷ []) s)
  sizes-told compressed =
      one.sizes-told bytes now long.extent long.runs long.is first-is (was ∷ []) (ap (λ (s : Sizes). s.allocated) long.sizes)
      (λ sparse. long.compressed ∙ told-anew (sum_by run_size long.runs * bytes) long.can.extent.compressed (compressed sparse))

  pub flags-kept : now.flags ≡ was.flags → flags_of (first_part (now ∷ [])) ≡ flags_of (first_part (was ∷ []))
  flags-kept same = flags-one now first-now ∙ same ∙ sym (flags-one was first-was)
