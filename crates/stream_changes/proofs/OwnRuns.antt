-- RUNS THAT A STREAM HAS FOR ITSELF: those of two streams that share no cluster, and a run without an owner.
use Rattle.std.proofs.Common.{◌≡◌, ◌+◌, ◌-◌, ◌<◌, ◌≤◌, ℕ, List, [], ◌∷◌, ◌++◌, Option, None, Some, refl, sym, ap, subst, inl}
use Rattle.std.proofs.Common.{inr, ◌∙◌, arith}
use Rattle.std.specs.Option.{option_map, option_to_list}
use Rattle.std.specs.Prelude.{IfSome, IsSome}
use Rattle.std.proofs.lemmas.Bool.{cases_lt}
use Rattle.std.proofs.lemmas.List.{append-nil}
use Rattle.std.proofs.lemmas.List.Sums.{count_by-le-length}
use Rattle.ntfs_def.specs.Runs.{spot_in, spot_of, total_clusters}
use Rattle.ntfs_def.specs.declared.records.TheConstants.{MFT, MFT_MIRROR}
use Rattle.ntfs_def.specs.declared.run_text.Run.{Run}
use Rattle.ntfs_def.specs.declared.run_text.Spot.TheVariants.{At}
use Rattle.ntfs_def.proofs.SpotLaws.{spot_of-first}
use Rattle.volume_def.specs.Coverage.{IsOutsideTable, has_cluster, mirror_at, times_covered}
use Rattle.volume_def.specs.Files.{records_of}
use Rattle.volume_def.specs.OwnersClause.{times_owned}
use Rattle.volume_def.specs.Table.{TableLayout}
use Rattle.volume_def.specs.View.{VolumeView}
use Rattle.volume_def.proofs.RunPieces.{spot_of-back, spot_of-front}
use Rattle.volume_def.proofs.RunPlaces.{spot_of-once, times_in-spot_of}
use Rattle.volume_edits.specs.Clusters.{IsOwnStream}
use Rattle.volume_edits.specs.Owners.{HasOwners}
use Rattle.volume_edits.proofs.OwnerLaws.{mirror-holds, owned-once}
use Rattle.stored_bits.specs.Taken.{IsUnownedRun}

-- TWO, one behind the other
pub joined-own : (layout : TableLayout) (xs ys : List Run) → IsOwnStream layout (spot_of xs) → IsOwnStream layout (spot_of ys)
    → ((c : ℕ) → 1 ≤ times_covered xs c → 1 ≤ times_covered ys c → ⊥) → IsOwnStream layout (spot_of (xs ++ ys))
joined-own layout xs ys one two apart = record {
  inside = λ vcn c at. elim (cases_lt vcn (total_clusters xs)) [
    | inl low ↦ one.inside vcn c (front vcn c low at)
    | inr past ↦ two.inside (vcn - total_clusters xs) c (back vcn c past at)
  ];
  outside = λ vcn c at. elim (cases_lt vcn (total_clusters xs)) [
    | inl low ↦ one.outside vcn c (front vcn c low at)
    | inr past ↦ two.outside (vcn - total_clusters xs) c (back vcn c past at)
  ];
  once = λ vcn other c at there. elim (cases_lt vcn (total_clusters xs)) [
    | inl low ↦ elim (cases_lt other (total_clusters xs)) [
      | inl also ↦ one.once vcn other c (front vcn c low at) (front other c also there)
      | inr past ↦ absurd (both vcn (other - total_clusters xs) c (front vcn c low at) (back other c past there))
    ]
    | inr past ↦ elim (cases_lt other (total_clusters xs)) [
      | inl low ↦ absurd (both other (vcn - total_clusters xs) c (front other c low there) (back vcn c past at))
      | inr also ↦
          let same = two.once (vcn - total_clusters xs) (other - total_clusters xs) c (back vcn c past at) (back other c also there) in
          omega (arith, same, past, also)
    ]
  ];
}
  where
    front : (vcn c : ℕ) → vcn < total_clusters xs → spot_of (xs ++ ys) vcn ≡ At c → spot_of xs vcn ≡ At c
    front vcn c low at = sym (spot_of-front xs ys vcn low) ∙ at

    back : (vcn c : ℕ) → total_clusters xs ≤ vcn → spot_of (xs ++ ys) vcn ≡ At c → spot_of ys (vcn - total_clusters xs) ≡ At c
    back vcn c past at = sym (spot_of-back xs ys vcn past) ∙ at

    both : (k n c : ℕ) → spot_of xs k ≡ At c → spot_of ys n ≡ At c → ⊥
    both k n c at there = apart c (times_in-spot_of xs k c at) (times_in-spot_of ys n c there)

-- A CLUSTER WITHOUT AN OWNER lies outside the table.
unowned-outside : (view : VolumeView) → HasOwners view → 0 < view.layout.cluster_sectors → (c : ℕ) → times_owned (records_of view) c ≡ 0
    → IsOutsideTable view.layout c
unowned-outside view o some c none = record {
  table =
      let own = owned-once view MFT o.table.part c o.table.among in
      let is = ap (λ (runs : List Run). times_covered runs c) o.table.runs in
      omega (arith, own, is, none);
  mirror = λ s few same.
      let its = mirror-holds view o s few some in
      let own = owned-once view MFT_MIRROR its.part (mirror_at view.layout s) its.among in
      let covered = its.covered in
      let zero = ap (times_owned (records_of view)) same ∙ none in
      omega (arith, own, covered, zero);
}

-- A RUN of such clusters, and where its clusters lie
run-own : (view : VolumeView) → HasOwners view → 0 < view.layout.cluster_sectors → (run : Run) → IsUnownedRun view run
    → IsOwnStream view.layout (spot_of (run ∷ []))
run-own view o some run free = record {
  inside = λ vcn c at. free.inside c (times_in-spot_of (run ∷ []) vcn c at);
  outside = λ vcn c at. unowned-outside view o some c (free.unowned c (times_in-spot_of (run ∷ []) vcn c at));
  once = λ vcn other c at there. spot_of-once (run ∷ []) vcn other c (λ n. count_by-le-length (has_cluster n) (run ∷ [])) at there;
}

pub run-placed : (run : Run) (k : ℕ) → IsSome run.lcn → k < run.len → (c : ℕ) × (spot_of (run ∷ []) k ≡ At c)
run-placed run k is low = let its = by run.lcn is in (its.0, spot_of-first run [] k low ∙ its.1)
  where
    by : (lcn : Option ℕ) → IsSome lcn → (c : ℕ) × (spot_in (Some (option_map (λ place. place + k) lcn)) ≡ At c)
    by None is = cc
    by (Some place) is = (place + k, refl)

-- THE RUNS OF A STREAM, and one behind them that no attribute owns, where there is one
pub longer-own : (view : VolumeView) → HasOwners view → 0 < view.layout.cluster_sectors → (runs : List Run) (run : Option Run)
    → IsOwnStream view.layout (spot_of runs) → ((c : ℕ) → times_covered runs c ≤ times_owned (records_of view) c)
    → IfSome run (IsUnownedRun view) → IsOwnStream view.layout (spot_of (runs ++ option_to_list run))
longer-own view o some runs None own owned free = subst (λ xs. IsOwnStream view.layout (spot_of xs)) (sym (append-nil runs)) own
longer-own view o some runs (Some run) own owned free =
    joined-own view.layout runs (run ∷ []) own (run-own view o some run free)
    (λ c its of_run. let none = free.unowned c of_run in let most = owned c in absurd (omega (arith, none, most, its)))
