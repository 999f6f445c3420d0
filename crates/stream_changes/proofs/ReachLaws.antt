-- WHERE BYTES CAN GO over those of a stream, or right behind them: what it needs for that, and that they have their place then.
use Rattle.std.proofs.Common.{◌≡◌, ◌+◌, ◌-◌, ◌*◌, ◌/◌, ◌<◌, ◌≤◌, ◌==◌, ◌&&◌, ◌||◌, not, ℕ, Bool, true, false, List, [], ◌∷◌, ◌++◌}
use Rattle.std.proofs.Common.{Option, None, Some, refl, sym, ap, subst, inl, inr, ◌∙◌, arith}
use Rattle.std.specs.List.{range_with_len}
use Rattle.std.specs.Option.{option_to_list}
use Rattle.std.specs.Prelude.{IfSome, is_some, nat_le, nat_lt, sum_by, if◌then◌else◌}
use Rattle.std.proofs.Math.Nat.{div-lt_iff_lt-mul, div-mul-le_self, le-div_iff_mul-le, mul-le-mul_right}
use Rattle.std.proofs.lemmas.Bool.{and_from, and_parts, both_ways, cases_Bool, cases_lt, eq-eqb, eqb-true, le-leb, leb-true, lt-ltb, ne_eqb}
use Rattle.std.proofs.lemmas.List.{append-nil}
use Rattle.std.proofs.lemmas.List.Sums.{sum_by-append, sum_by-cons}
use Rattle.std.proofs.lemmas.Nat.{div-add-mod'}
use Rattle.list_laws.proofs.FindLaws.{count-some}
use Rattle.list_laws.proofs.MemberLaws.{Contains-range}
use Rattle.ntfs_def.specs.Rounded.{clusters_for}
use Rattle.ntfs_def.specs.Runs.{spot_of, total_clusters}
use Rattle.ntfs_def.specs.declared.kinds.TheConstants.{DATA}
use Rattle.ntfs_def.specs.declared.records.TheConstants.{MFT, MFT_MIRROR}
use Rattle.ntfs_def.specs.declared.run_text.Run.{Run}
use Rattle.ntfs_def.specs.declared.run_text.Spot.{Spot}
use Rattle.ntfs_def.specs.declared.run_text.Spot.TheVariants.{At, Hole, Outside}
use Rattle.volume_def.specs.ExtentsClause.{FitExtents}
use Rattle.volume_def.specs.Files.{Part, all_covered, part_clusters, parts_at}
use Rattle.volume_def.specs.StreamSize.{real_size, told_size}
use Rattle.volume_def.specs.Room.{free_bytes}
use Rattle.volume_def.specs.Table.{cluster_bytes}
use Rattle.volume_def.specs.Values.{first_part, first_vcn_of, spot_at}
use Rattle.volume_def.specs.View.{VolumeView}
use Rattle.volume_def.proofs.RunPieces.{spot_of-back, spot_of-front}
use Rattle.volume_edits.specs.Clusters.{IsInRange, IsOwnStream, IsPlaced}
use Rattle.volume_edits.proofs.StreamClusters.{stream-own}
use Rattle.edit_def.specs.Purses.{run_size}
use Rattle.record_edits.proofs.BlockEdits.{apart-from}
use Rattle.sparse_io.specs.Behind.{TellsBehind, len_inside}
use Rattle.sparse_io.specs.declared.find.FoundStream.{FoundStream}
use Rattle.sparse_io.proofs.BehindLaws as behind
use Rattle.sparse_io.proofs.OverLaws.{unplaced}
use Rattle.tree_model.specs.StreamRoom.{goes_over, initialized_size, is_cluster, is_in_place, new_clusters, touches}
use Rattle.tree_model.specs.Ways.{goes_behind, has_free_run}
use Rattle.value_edits.proofs.CutExtent.{room-for}
use Rattle.value_edits.proofs.OneExtent as one
use Rattle.value_edits.proofs.OnePart.{covered-one, first-one}
use Rattle.stored_bits.specs.Taken.{IsUnownedRun}
use Rattle.tree_edit.specs.Write.{has_run_for}
use Rattle.stream_changes.specs.Reached.{NeedsFor}
use Rattle.stream_changes.specs.Streams.{CanGive}
use Rattle.stream_changes.proofs.ExtentCovers.{extent-fits}
use Rattle.stream_changes.proofs.ExtentLaws.{runs-owned}
use Rattle.stream_changes.proofs.OwnRuns.{longer-own, run-placed}

-- as many bytes as clusters, at least
pub le-mul : (n size : ℕ) → 0 < size → n ≤ n * size
le-mul n size some = let d : size ≡ 1 + (size - 1) = omega (arith, some) in
    let all : n * size ≡ n + n * (size - 1) = ap (λ s. n * s) d ∙ omega arith in omega (arith, all)

-- a cluster, by what is told of its spot
at-cluster : (spot : Spot) → is_cluster spot ≡ true → (c : ℕ) × (spot ≡ At c)
at-cluster Outside is = cc
at-cluster Hole is = cc
at-cluster (At c) is = (c, refl)

-- the cluster of a byte, of those that so many bytes fill
byte-cluster : (i end size : ℕ) → 0 < size → i < end → i / size < clusters_for end size
byte-cluster i end size some below =
    let low = div-mul-le_self i size in
    let next : (i / size + 1) * size ≡ i / size * size + size = omega arith in
    let up : i / size + 1 ≤ (end + (size - 1)) / size = (le-div_iff_mul-le some).1 (omega (arith, low, next, below, some)) in
    omega (arith, up)

-- no more clusters than bytes
pub few-clusters : (end size : ℕ) → 0 < size → clusters_for end size ≤ end
few-clusters end size some =
    let next : (end + 1) * size ≡ end * size + size = omega arith in
    let most = le-mul end size some in
    let up : (end + (size - 1)) / size < end + 1 = (div-lt_iff_lt-mul some).1 (omega (arith, next, most, some)) in
    omega (arith, up)

-- .. is touched by them
byte-touched : (i at n size : ℕ) → 0 < size → at ≤ i → i < at + n → touches size at n (i / size) ≡ true
byte-touched i at n size some low high =
    let whole = div-add-mod' i size in
    let from = div-mul-le_self i size in
    let up : i < (i / size + 1) * size = (div-lt_iff_lt-mul some).0 (omega arith) in
    let next : (i / size + 1) * size ≡ i / size * size + size = omega arith in
    and_from (nat_lt 0 n && nat_lt (i / size * size) (at + n)) (nat_lt at (i / size * size + size))
    (and_from (nat_lt 0 n) (nat_lt (i / size * size) (at + n)) (lt-ltb 0 n (omega (arith, low, high)))
    (lt-ltb (i / size * size) (at + n) (omega (arith, from, high)))) (lt-ltb at (i / size * size + size) (omega (arith, up, next, low)))

-- where none of the clusters that are touched is unplaced, each of their bytes lies somewhere
all-placed : (spot : ℕ → Spot) (size at n i : ℕ) → 0 < size → at ≤ i → i < at + n → unplaced spot size at n ≡ 0
    → (c : ℕ) × (spot (i / size) ≡ At c)
all-placed spot size at n i some low high none = at-cluster (spot (i / size)) (elim (cases_Bool (is_cluster (spot (i / size)))) [
  | inl is ↦ is
  | inr hole ↦
      let test : ℕ → Bool = λ vcn. touches size at n vcn && not (is_cluster (spot vcn)) in
      let its : test (i / size) ≡ true = and_from (touches size at n (i / size)) (not (is_cluster (spot (i / size))))
      (byte-touched i at n size some low high) (ap not hole) in
      let one = count-some test (range_with_len 0 (clusters_for (at + n) size)) (i / size)
      (Contains-range 0 (clusters_for (at + n) size) (i / size) (omega arith) (omega (arith, byte-cluster i (at + n) size some high)))
      its in
      absurd (omega (arith, one, none))
])

module _ (v : VolumeView) (found : FoundStream) (f : ℕ) (give : CanGive v found f) where
  abbrev size : ℕ
  size = cluster_bytes v.layout

  abbrev alone : List Part
  alone = give.part ∷ []

  abbrev total : ℕ
  total = total_clusters give.runs

  pub positive : 0 < cluster_bytes v.layout
  positive = let some = give.named.can.can.apart.some in omega (arith, some)

  pub from-first : first_vcn_of give.part.content ≡ 0
  from-first = one.from-first size give.part give.extent give.runs give.is give.first

  pub clusters-are : part_clusters give.part ≡ total_clusters give.runs
  clusters-are = one.clusters-are size give.part give.extent give.runs give.is give.first

  pub spots-are : (vcn : ℕ) → spot_at (parts_at v f DATA give.named.name) vcn ≡ spot_of give.runs vcn
  spots-are vcn = ap (λ (ps : List Part). spot_at ps vcn) give.alone
      ∙ one.spot-runs size give.part give.extent give.runs give.is give.first vcn

  fits : FitExtents (total * size) give.part.flags give.extent.sizes
  fits = extent-fits v found f give

  -- IT HAS ITS CLUSTERS FOR ITSELF, and those of a run without an owner behind them
  its-own : IsOwnStream v.layout (spot_of give.runs)
  its-own =
      let may = give.one.may in
      let own = stream-own v f DATA give.named.name give.named.can.can.apart.owners give.named.can.can.apart.some
      (inr (
        apart-from f MFT may (omega arith) (λ z. absurd (omega (arith, z))),
        apart-from f MFT_MIRROR may (omega arith) (λ z. absurd (omega (arith, z))),
      )) in
      record {
        inside = λ vcn c at. own.inside vcn c (spots-are vcn ∙ at);
        outside = λ vcn c at. own.outside vcn c (spots-are vcn ∙ at);
        once = λ vcn other c at there. own.once vcn other c (spots-are vcn ∙ at) (spots-are other ∙ there);
      }

  pub reach-own : (run : Option Run) → IfSome run (IsUnownedRun v) → IsOwnStream v.layout (spot_of (give.runs ++ option_to_list run))
  reach-own run free =
      longer-own v give.named.can.can.apart.owners give.named.can.can.apart.some give.runs run its-own (runs-owned v found f give) free

  module _ (at len : ℕ) (goes : goes_behind (cluster_bytes v.layout) (give.part ∷ []) at len ≡ true) where
    abbrev many : ℕ
    many = clusters_for (at + len) size

    abbrev more : ℕ
    more = behind.more give.part give.extent (Some give.runs) give.is from-first size at len

    pub low : at ≤ give.extent.sizes.initialized
    low = elim (cases_lt give.extent.sizes.initialized at) [
      | inl past ↦
          absurd (both_ways _ (behind.not-written give.part give.extent (Some give.runs) give.is from-first size at len past) goes)
      | inr le ↦ le
    ]

    module _ (some : 0 < len) where
      abbrev inside : ℕ
      inside = len_inside (part_clusters give.part) size at len more

      abbrev is-placed : Bool
      is-placed = unplaced (spot_at alone) size at inside == 0

      within : at / size ≤ part_clusters give.part
      within =
          let first = fits.initialized in
          let behind = fits.real in
          let many_are = clusters-are in
          let next : (total + 1) * size ≡ total * size + size = omega arith in
          let up : at / size < total + 1 = (div-lt_iff_lt-mul positive).1 (omega (arith, low, first, behind, next, positive)) in
          omega (arith, up, many_are)

      tells : TellsBehind size alone at len (if is-placed then Some more else None)
      tells = behind.tells-inside give.part give.extent (Some give.runs) give.is from-first size at len inside refl low
          (inr (some, within)) positive is-placed refl

      both : (unplaced (spot_at alone) size at inside ≡ 0) × (more ≡ new_clusters size alone at len)
      both = by is-placed refl tells
        where
          by : (b : Bool) → b ≡ is-placed → TellsBehind size alone at len (if b then Some more else None)
              → (unplaced (spot_at alone) size at inside ≡ 0) × (more ≡ new_clusters size alone at len)
          by true e t = (eqb-true _ 0 (sym e), t.1)
          by false e t = absurd (both_ways _ t goes)

      -- HOW MANY IT NEEDS
      pub needs-are : new_clusters (cluster_bytes v.layout) (give.part ∷ []) at len
          ≡ clusters_for (at + len) (cluster_bytes v.layout) - total_clusters give.runs
      needs-are = sym both.1 ∙ ap (λ n. many - n) clusters-are

      -- those that it has are there where bytes go,
      front : (i : ℕ) → IsInRange at len i → i / size < total → (c : ℕ) × (spot_of give.runs (i / size) ≡ At c)
      front i (from, to) inside_of =
          let below : i < total * size = (div-lt_iff_lt-mul positive).0 inside_of in
          let high : i < at + inside = by (more == 0) below in
          let its = all-placed (spot_at alone) size at inside i positive from high both.0 in
          (its.0, sym (one.spot-runs size give.part give.extent give.runs give.is give.first (i / size)) ∙ its.1)
        where
          by : (b : Bool) → i < total * size → i < at + (if b then len else part_clusters give.part * size - at)
          by true below = to
          by false below =
              let all : part_clusters give.part * size ≡ total * size = ap (λ n. n * size) clusters-are in
              omega (arith, below, all, from)

      -- and so are those of a run that it gets.
      pub reach-placed : (run : Option Run) → NeedsFor (total_clusters give.runs) (clusters_for (at + len) (cluster_bytes v.layout)) run
          → IsPlaced (cluster_bytes v.layout) (spot_of (give.runs ++ option_to_list run)) at len
      reach-placed run needs i within_them = elim (cases_lt (i / size) total) [
        | inl inside_of ↦
            let its = front i within_them inside_of in
            (its.0, spot_of-front give.runs (option_to_list run) (i / size) inside_of ∙ its.1)
        | inr past ↦
            let its = of-run run needs (byte-cluster i (at + len) size positive within_them.1) past in
            (its.0, spot_of-back give.runs (option_to_list run) (i / size) past ∙ its.1)
      ]
        where
          of-run : (run : Option Run) → NeedsFor total many run → i / size < many → total ≤ i / size
              → (c : ℕ) × (spot_of (option_to_list run) (i / size - total) ≡ At c)
          of-run None needs high past = absurd (omega (arith, needs, high, past))
          of-run (Some run) needs high past =
              let len = needs.len in
              run-placed run (i / size - total) needs.placed (omega (arith, len, high, past))

      -- There is room for them then.
      pub reach-room : (run : Option Run) → NeedsFor (total_clusters give.runs) (clusters_for (at + len) (cluster_bytes v.layout)) run
          → at + len ≤ total_clusters (give.runs ++ option_to_list run) * cluster_bytes v.layout
      reach-room run needs =
          let all = all-many run needs in
          let most : many * size ≤ total_clusters (give.runs ++ option_to_list run) * size = mul-le-mul_right size all in
          let whole = room-for (at + len) size positive in
          omega (arith, most, whole)
        where
          all-many : (run : Option Run) → NeedsFor total many run → many ≤ total_clusters (give.runs ++ option_to_list run)
          all-many None needs = let same = ap total_clusters (append-nil give.runs) in omega (arith, same, needs)
          all-many (Some run) needs =
              let both = sum_by-append (λ (r : Run). r.len) give.runs (run ∷ []) in
              let one = sum_by-cons (λ (r : Run). r.len) run [] in
              omega (arith, both, one, needs.len)

      -- THE RUN IS THERE, and so are the bytes in its record
      pub reach-has : total_clusters give.runs < clusters_for (at + len) (cluster_bytes v.layout)
          → has_run_for v f (new_clusters (cluster_bytes v.layout) (give.part ∷ []) at len) ≡ true
          → (24 ≤ free_bytes v f) × (has_free_run v (clusters_for (at + len) (cluster_bytes v.layout) - total_clusters give.runs) ≡ true)
      reach-has fewer has =
          let count : ℕ = many - total in
          let its : has_run_for v f count ≡ true = subst (λ n. has_run_for v f n ≡ true) needs-are has in
          let none : (count == 0) ≡ false = ne_eqb count 0 (λ z. absurd (omega (arith, z, fewer))) in
          let there : (nat_le 24 (free_bytes v f) && has_free_run v count) ≡ true =
          sym (ap (λ b. b || (nat_le 24 (free_bytes v f) && has_free_run v count)) none) ∙ its in
          let parts = and_parts (nat_le 24 (free_bytes v f)) (has_free_run v count) there in
          (leb-true 24 (free_bytes v f) parts.0, parts.1)

      -- it takes no more clusters than it needs
      pub reach-few : (run : Option Run) → NeedsFor (total_clusters give.runs) (clusters_for (at + len) (cluster_bytes v.layout)) run
          → sum_by run_size (option_to_list run) ≤ new_clusters (cluster_bytes v.layout) (give.part ∷ []) at len
      reach-few None needs = let none : sum_by run_size [] ≡ 0 = refl in omega (arith, none)
      reach-few (Some run) needs =
          let one = sum_by-cons run_size run [] in
          let most : run_size run ≤ run.len = size-most run.lcn run.len in
          omega (arith, one, most, needs.len, needs-are)
        where
          size-most : (lcn : Option ℕ) (n : ℕ) → (if is_some lcn then n else 0) ≤ n
          size-most None n = omega arith
          size-most (Some place) n = omega arith

    -- NO BYTES go over those that were written, and nothing else
    pub reach-nothing : len ≡ 0 → goes_over (cluster_bytes v.layout) (give.part ∷ []) at len ≡ true
    reach-nothing none =
        let first = fits.initialized in
        let behind_all = fits.real in
        let first_is = first-one give.part from-first in
        let covered = covered-one give.part in
        let many_are = clusters-are in
        let few : many ≤ total =
        let up : (at + len + (size - 1)) / size < total + 1 = (div-lt_iff_lt-mul positive).1
        (let next : (total + 1) * size ≡ total * size + size = omega arith in
        omega (arith, low, first, behind_all, next, positive, none)) in
        omega (arith, up) in
        let both = and_parts (nat_le at (initialized_size alone)) _ goes in
        let count : new_clusters size alone at len ≡ 0 = eqb-true (new_clusters size alone at len) (many - all_covered alone) both.1
        ∙ omega (arith, few, covered, many_are) in
        let end : at + len ≡ at = omega (arith, none) in
        let below : nat_le (at + len) (initialized_size alone) ≡ true = ap (λ n. nat_le n (initialized_size alone)) end ∙ both.0 in
        let real : told_size (first_part alone) ≡ give.extent.sizes.real =
        ap told_size first_is ∙ ap real_size give.is in
        and_from (is_some (first_part alone)) _ (ap (λ (o : Option Part). is_some o) first_is)
        (and_from (is_in_place size alone at len) (nat_le (at + len) (initialized_size alone))
        (and_from ((new_clusters size alone at len == 0) && nat_le at (initialized_size alone))
        (nat_le (at + len) (told_size (first_part alone)))
        (and_from (new_clusters size alone at len == 0) (nat_le at (initialized_size alone)) (eq-eqb _ 0 count) both.0)
        (le-leb (at + len) (told_size (first_part alone)) (omega (arith, real, end, low, first)))) below)
