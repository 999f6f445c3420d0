-- The clusters of the copies lie on the volume, where the clause on owners holds and the stream of the copies places them.
use Rattle.std.proofs.Common.{◌≡◌, ◌+◌, ◌*◌, ◌/◌, ◌<◌, ◌≤◌, ℕ, [], inl, inr, sym, subst, arith}
use Rattle.std.specs.Prelude.{◌↔◌, Contains, flat_map}
use Rattle.std.specs.List.{range_with_len}
use Rattle.std.proofs.Math.Nat.{div-mul-le_self, le-div_iff_mul-le, mul-add-div_right}
use Rattle.std.proofs.lemmas.Bool.{cases_lt}
use Rattle.ntfs_def.specs.declared.kinds.TheConstants.{DATA}
use Rattle.ntfs_def.specs.declared.records.TheConstants.{MFT_MIRROR}
use Rattle.volume_def.specs.Coverage.{has_cluster, times_covered}
use Rattle.volume_def.specs.Files.{Part, Records, is_of, part_runs, parts, parts_at, records_of}
use Rattle.volume_def.specs.Members.{HoldsPart}
use Rattle.volume_def.specs.OwnersClause.{MeetsOwners, all_runs, record_runs, times_owned}
use Rattle.volume_def.specs.Sound.{HoldBelow}
use Rattle.volume_def.specs.Sound.Clause.{Owners}
use Rattle.volume_def.specs.VersionClause.{IsMirror}
use Rattle.volume_def.specs.View.{VolumeView}
use Rattle.list_laws.proofs.FindLaws.{count-some, passing}
use Rattle.list_laws.proofs.MemberLaws.{Contains-flat_map, Contains-from_filter, Contains-range}
use Rattle.volume_def.proofs.PartLaws.{HoldsPart-Contains}
use Rattle.volume_def.proofs.ValueLaws.{spot_at-owned}
use Rattle.mft_table.specs.declared.mounted.Mounted.{Mounted}
use Rattle.mft_table.specs.MirrorClusters.{IsMirrorInside}
use Rattle.mount_check.proofs.PlaceLaws.{copied-bytes}

-- a cluster that a part in use covers is owned
part-owned : (records : Records) (f n : ℕ) (part : Part) (cluster : ℕ) → HoldsPart records f n part
    → 1 ≤ times_covered (part_runs part) cluster → 1 ≤ times_owned records cluster
unfolding times_owned all_runs
part-owned records f n part cluster holds covers =
    let run = passing (has_cluster cluster) (part_runs part) covers in
    let among = Contains-flat_map part_runs holds.record_there.parts part run.0 holds.among run.1 in
    count-some (has_cluster cluster) (flat_map (λ m. record_runs (records.record_at m)) (range_with_len 0 records.count)) run.0
    (Contains-flat_map (λ m. record_runs (records.record_at m)) (range_with_len 0 records.count) n run.0
    (Contains-range 0 records.count n (omega arith) (omega (arith, holds.inside)))
    (subst (λ r. Contains (record_runs r) run.0) (sym holds.held) among)) run.2

-- a cluster that is owned lies on the volume
owned-inside : (records : Records) (clusters cluster : ℕ) → MeetsOwners records clusters cluster → 1 ≤ times_owned records cluster
    → cluster < clusters
owned-inside records clusters cluster meets owned = elim (cases_lt cluster clusters) [
  | inl low ↦ low
  | inr high ↦ absurd (omega (arith, meets.inside high))
]

-- The sectors of the copies lie in clusters below this number.
abbrev pub LieInside : ℕ → ℕ → ℕ → Type 0
LieInside mirror sectors clusters = (sector : ℕ) → sector < 8 → (mirror * sectors + sector) / sectors < clusters

-- they do where the last one does
pub LieInside-last : (mirror sectors clusters : ℕ) → 0 < sectors → (mirror + 7 / sectors < clusters) ↔ LieInside mirror sectors clusters
LieInside-last mirror sectors clusters some = (
  λ last sector low.
      let least = div-mul-le_self sector sectors in
      let below : sector / sectors ≤ 7 / sectors = (le-div_iff_mul-le some).1 (omega (arith, least)) in
      rw (mul-add-div_right some mirror sector) (omega (arith, below, last)),
  λ all. rw (mul-add-div_right some mirror 7) at (all 7 (omega arith)),
)

-- what the mirror's clause and the one on owners say together
pub mirror-inside : (view : VolumeView) → HoldBelow view 11 → IsMirror view (parts_at view MFT_MIRROR DATA [])
    → 0 < view.layout.cluster_sectors → LieInside view.layout.mirror view.layout.cluster_sectors view.layout.clusters
mirror-inside view before is some sector low =
    let per = view.layout.cluster_sectors in
    let k = sector / per in
    let extents = parts_at view MFT_MIRROR DATA [] in
    let least = div-mul-le_self sector per in
    let copied : k * per < 8 = omega (arith, least, low) in
    let owned = spot_at-owned extents k (view.layout.mirror + k) (is.placed k (copied-bytes k per copied)) in
    let among = Contains-from_filter (is_of DATA []) (parts (records_of view) MFT_MIRROR) owned.0 owned.1 in
    let held = HoldsPart-Contains (records_of view) MFT_MIRROR owned.0 among.0 in
    let cluster = view.layout.mirror + k in
    rw (mul-add-div_right some view.layout.mirror sector) (owned-inside (records_of view) view.layout.clusters cluster
    (before Owners (omega arith) cluster) (part-owned (records_of view) MFT_MIRROR held.0 owned.0 cluster held.1 owned.2))

-- by the numbers of the tables
pub IsMirrorInside-of : (mounted : Mounted) (mirror sectors clusters : ℕ) → mirror ≡ mounted.geometry.mirror
    → sectors ≡ mounted.geometry.cluster / 512 → clusters ≡ mounted.geometry.clusters → LieInside mirror sectors clusters
    → IsMirrorInside mounted
IsMirrorInside-of mounted mirror sectors clusters place wide many lie =
    subst (LieInside mounted.geometry.mirror (mounted.geometry.cluster / 512)) many
    (subst (λ s. LieInside mounted.geometry.mirror s clusters) wide (subst (λ m. LieInside m sectors clusters) place lie))

pub LieInside-back : (view : VolumeView) (mirror sectors clusters : ℕ) → mirror ≡ view.layout.mirror
    → sectors ≡ view.layout.cluster_sectors → clusters ≡ view.layout.clusters
    → LieInside view.layout.mirror view.layout.cluster_sectors view.layout.clusters → LieInside mirror sectors clusters
LieInside-back view mirror sectors clusters place wide many lie =
    subst (LieInside mirror sectors) (sym many)
    (subst (λ s. LieInside mirror s view.layout.clusters) (sym wide)
    (subst (λ m. LieInside m view.layout.cluster_sectors view.layout.clusters) (sym place) lie))
