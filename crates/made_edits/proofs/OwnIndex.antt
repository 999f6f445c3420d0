-- THE INDEX OF A DIRECTORY: a root that is the same, and spots that are clusters.
use Rattle.std.proofs.Common.{◌≡◌, ℕ, true, List, [], refl, ap, arith}
use Rattle.std.specs.List.{Contains}
use Rattle.std.specs.Prelude.{take, unwrap_or}
use Rattle.ntfs_def.specs.declared.run_text.Spot.{Spot}
use Rattle.ntfs_def.specs.declared.run_text.Spot.TheVariants.{At, Hole, Outside}
use Rattle.volume_def.specs.Coverage.{times_covered}
use Rattle.volume_def.specs.Files.{Part, content_value, part_runs}
use Rattle.volume_def.specs.Values.{spot_at}
use Rattle.volume_def.proofs.ValueLaws.{spot_at-owned}
use Rattle.tree_model.specs.StreamRoom.{is_cluster}
use Rattle.root_puts.specs.PutsInRoot.{KeepsRootHead}

-- one root
pub head-same : (was now : Part) → now ≡ was → KeepsRootHead was now
head-same was now e = record {
  head = ap (λ (p : Part). take 16 (unwrap_or (content_value p.content) [])) e;
  flags = ap (λ (p : Part). p.flags) e;
}

-- a spot that is a cluster
cluster-at : (s : Spot) → is_cluster s ≡ true → (c : ℕ) × (s ≡ At c)
cluster-at Outside e = cc
cluster-at Hole e = cc
cluster-at (At c) e = (c, refl)

-- parts without runs have none
pub no-cluster : (xs : List Part) → ((p : Part) → Contains xs p → part_runs p ≡ []) → (vcn : ℕ) → is_cluster (spot_at xs vcn) ≡ true → ⊥
no-cluster xs none vcn is =
    let at = cluster-at (spot_at xs vcn) is in
    let owned = spot_at-owned xs vcn at.0 at.1 in
    let zero_is : times_covered (part_runs owned.0) at.0 ≡ 0 = ap (λ runs. times_covered runs at.0) (none owned.0 owned.1) in
    absurd (omega (arith, zero_is, owned.2))
