-- AN EXTENT THAT WAS CUT, part by part: it is an attribute by itself, lies where the longer one lay, has a hole only where that had one,
-- and its sizes tell its clusters.
use Rattle.std.proofs.Common.{◌≡◌, ◌⊎◌, ◌≤◌, ◌<◌, ◌+◌, ◌-◌, ◌*◌, ◌||◌, ℕ, Bool, true, false, List, [], ◌∷◌, length}
use Rattle.std.proofs.Common.{take, sym, ap, inl, inr, ◌∙◌, arith, drop, length-drop, length-take, refl}
use Rattle.std.specs.Prelude.{IfSome, IsSome, is_some, sum_by}
use Rattle.std.proofs.lemmas.Bool.{cases_lt}
use Rattle.std.proofs.lemmas.List.Sums.{count_by-le-length}
use Rattle.std.proofs.lemmas.Nat.{div-add-mod', mod_below}
use Rattle.ntfs_def.specs.Flags.{is_sparse}
use Rattle.ntfs_def.specs.Rounded.{clusters_for}
use Rattle.ntfs_def.specs.Runs.{IsRunListFrom, clusters_of, total_clusters}
use Rattle.ntfs_def.specs.declared.run_text.Run.{Run}
use Rattle.ntfs_def.specs.declared.run_text.Spot.TheVariants.{Outside}
use Rattle.ntfs_def.specs.declared.sizes.Sizes.{Sizes}
use Rattle.volume_def.specs.ExtentsClause.{AreAttribute, FitExtents, last_vcn_of}
use Rattle.volume_def.specs.Files.{Part, part_clusters, part_runs}
use Rattle.volume_def.specs.Values.{first_part, first_vcn_of, spot_at}
use Rattle.data_runs.proofs.PieceLaws.{total-is}
use Rattle.tree_model.specs.StreamRoom.{is_cluster}
use Rattle.edit_def.specs.Places.{flags_of}
use Rattle.edit_def.specs.Purses.{part_size, run_size}
use Rattle.session_def.specs.Nodes.{IsSpreadRight, IsSpreadSame, Spread, has_hole, spread_of}
use Rattle.record_edits.proofs.RunTimes.{cut-inside, cut-past, size-cut}
use Rattle.extent_edits.specs.Cut.{IsCut}
use Rattle.value_edits.proofs.OneExtent as one
use Rattle.value_edits.proofs.OneExtent.{told-anew}
use Rattle.value_edits.proofs.OnePart.{flags-one, holed-one, spot-one}
use Rattle.value_edits.proofs.RunHoles.{has_hole_in, holed-fewer, placed-all}

-- so many clusters have room for the bytes
pub room-for : (size bytes : ℕ) → 0 < bytes → size ≤ clusters_for size bytes * bytes
room-for size bytes some =
    let whole = div-add-mod' (size + (bytes - 1)) bytes in
    let less = mod_below (size + (bytes - 1)) bytes some in
    omega (arith, whole, less, some)

module _ (bytes size : ℕ) (some : 0 < bytes) (was now : Part) (cut : IsCut bytes size was.content now.content) where
  -- as many as it has then
  abbrev many : ℕ
  many = clusters_for size bytes

  pub runs-was : part_runs was ≡ cut.can.runs
  runs-was = one.runs-are bytes was cut.can.extent cut.can.runs cut.can.is cut.can.first

  first-is : cut.extent.sizes.first ≡ 0
  first-is = ap (λ (s : Sizes). s.first) cut.sizes

  pub runs-now : part_runs now ≡ cut.runs
  runs-now = one.runs-are bytes now cut.extent cut.runs cut.is first-is

  pub clusters-now : clusters_of (part_runs now) ≡ take many (clusters_of (part_runs was))
  clusters-now = ap clusters_of runs-now ∙ cut.clusters ∙ ap (λ (runs : List Run). take many (clusters_of runs)) (sym runs-was)

  pub first-was : first_vcn_of was.content ≡ 0
  first-was = one.from-first bytes was cut.can.extent cut.can.runs cut.can.is cut.can.first

  pub first-now : first_vcn_of now.content ≡ 0
  first-now = one.from-first bytes now cut.extent cut.runs cut.is first-is

  covered : part_clusters now ≡ many
  covered =
      let all : total_clusters (part_runs was) ≡ total_clusters cut.can.runs = ap total_clusters runs-was in
      let long = sym (total-is (part_runs now)) ∙ ap length clusters-now ∙ length-take many (clusters_of (part_runs was)) in
      omega (arith, all, long, total-is (part_runs was), cut.can.covers)

  many-are : total_clusters cut.runs ≡ many
  many-are = sym (one.clusters-are bytes now cut.extent cut.runs cut.is first-is) ∙ covered

  -- IT IS AN ATTRIBUTE
  fits : FitExtents (total_clusters cut.runs * bytes) now.flags cut.extent.sizes
  fits =
      let initialized = ap (λ (s : Sizes). s.initialized) cut.sizes in
      let real = ap (λ (s : Sizes). s.real) cut.sizes in
      let all : total_clusters cut.runs * bytes ≡ many * bytes = ap (λ n. n * bytes) many-are in
      record {
        initialized = omega (arith, initialized, real);
        real = omega (arith, real, all, room-for size bytes some);
        allocated = λ plain. ap (λ (s : Sizes). s.allocated) cut.sizes ∙ sym all;
      }

  pub whole : (f : ℕ) → AreAttribute bytes f (now ∷ [])
  whole f =
      one.whole-one bytes now cut.extent cut.runs cut.is first-is f
      (ap (λ (s : Sizes). s.last) cut.sizes ∙ ap last_vcn_of (sym many-are)) fits

  -- IT LIES where the longer one lay.
  pub size-less : part_size now ≤ part_size was
  size-less = let sum = size-cut (part_runs was) (part_runs now) many clusters-now in omega (arith, sum)

  pub spot-inside : (vcn : ℕ) → vcn < many → spot_at (now ∷ []) vcn ≡ spot_at (was ∷ []) vcn
  spot-inside vcn inside =
      spot-one now vcn first-now ∙ cut-inside (part_runs was) (part_runs now) many vcn clusters-now inside
      ∙ sym (spot-one was vcn first-was)

  pub spot-past : (vcn : ℕ) → many ≤ vcn → spot_at (now ∷ []) vcn ≡ Outside
  spot-past vcn past = spot-one now vcn first-now ∙ cut-past (part_runs was) (part_runs now) many vcn clusters-now past

  pub spots : (vcn : ℕ) → is_cluster (spot_at (now ∷ []) vcn) ≡ true → is_cluster (spot_at (was ∷ []) vcn) ≡ true
  spots vcn lies = elim (cases_lt vcn many) [
    | inl inside ↦ sym (ap is_cluster (spot-inside vcn inside)) ∙ lies
    | inr past ↦ let never = sym (ap is_cluster (spot-past vcn past)) ∙ lies in cc
  ]

  -- A HOLE of it was one of the longer one.
  pub holes : IsRunListFrom 0 (part_runs now) → has_hole (now ∷ []) ≡ true → has_hole (was ∷ []) ≡ true
  holes list holed = by (has_hole_in (part_runs was)) refl
    where
      by : (b : Bool) → has_hole_in (part_runs was) ≡ b → has_hole (was ∷ []) ≡ true
      by true e = ap (λ (b : Bool). b || false) e
      by false e =
          let behind = drop many (clusters_of (part_runs was)) in
          let owns = size-cut (part_runs was) (part_runs now) many clusters-now in
          let all = placed-all (part_runs was) e in
          let fewer = holed-fewer 0 (part_runs now) list (holed-one now holed) in
          let most = count_by-le-length is_some behind in
          let long = length-drop many (clusters_of (part_runs was)) in
          let room : total_clusters (part_runs was) ≡ total_clusters cut.can.runs = ap total_clusters runs-was in
          absurd (omega (arith, owns, all, fewer, most, long, room, covered, total-is (part_runs was), cut.can.covers))

  -- ITS SIZES tell its clusters.
  pub sizes-told : (is_sparse now.flags ≡ true → IsSome cut.can.extent.compressed)
      → IfSome (spread_of (now ∷ [])) (λ (s : Spread). IsSpreadSame (was ∷ []) (now ∷ []) ⊎ IsSpreadRight bytes (now ∷ []) s)
  sizes-told compressed =
      one.sizes-told bytes now cut.extent cut.runs cut.is first-is (was ∷ [])
      (ap (λ (s : Sizes). s.allocated) cut.sizes ∙ ap (λ n. n * bytes) (sym many-are))
      (λ sparse. cut.compressed ∙ told-anew (sum_by run_size cut.runs * bytes) cut.can.extent.compressed (compressed sparse))

  pub flags-kept : now.flags ≡ was.flags → flags_of (first_part (now ∷ [])) ≡ flags_of (first_part (was ∷ []))
  flags-kept same = flags-one now first-now ∙ same ∙ sym (flags-one was first-was)
