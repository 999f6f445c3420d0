-- The items of a new volume fit on it, whatever the options.
use Rattle.std.proofs.Common.{◌≡◌, ℕ, ◌+◌, ◌*◌, ◌/◌, ◌-◌, ◌<◌, ◌≤◌, List, [], ◌∷◌, length, inl, inr, refl, subst, sym, ap, ◌∙◌, arith}
use Rattle.volume_format.specs.FitsPlan.{FitsPlan, IsClusterSize}
use Rattle.volume_format.specs.Options.{AreInRange, Options, clusters_in, plan_of, stored_units}
use Rattle.volume_format.specs.Plan.{Plan, items_end}

pub size-some : (size : ℕ) → IsClusterSize size → 0 < size
size-some size (inl e) = omega arith
size-some size (inr (inl e)) = omega arith
size-some size (inr (inr (inl e))) = omega arith
size-some size (inr (inr (inr e))) = omega arith

abbrev up : ℕ → ℕ → ℕ
up size bytes = (bytes + (size - 1)) / size

-- the end of the items, in clusters of this size
abbrev end_at : ℕ → ℕ → ℕ
end_at size clusters =
    up size 8192 + up size 65536 + up size 8 + up size 4096 + up size 65536 + up size ((clusters + 63) / 64 * 8) + up size 131072
    + up size 262184 + up size 4096

end-512 : (clusters : ℕ) → 2048 ≤ clusters → end_at 512 clusters ≤ clusters
end-512 clusters many = omega arith

end-1024 : (clusters : ℕ) → 1024 ≤ clusters → end_at 1024 clusters ≤ clusters
end-1024 clusters many = omega arith

end-2048 : (clusters : ℕ) → 512 ≤ clusters → end_at 2048 clusters ≤ clusters
end-2048 clusters many = omega arith

end-4096 : (clusters : ℕ) → 256 ≤ clusters → end_at 4096 clusters ≤ clusters
end-4096 clusters many = omega arith

-- the items in clusters of one of the sizes, where all the disk's clusters are the volume's
fit-at : (size sectors clusters : ℕ) → 2048 ≤ sectors → IsClusterSize size → clusters ≡ clusters_in sectors size
    → end_at size clusters ≤ clusters
fit-at size sectors clusters many (inl e) is =
    let c : clusters ≡ sectors = is ∙ ap (clusters_in sectors) e ∙ omega arith in
    subst (λ s. end_at s clusters ≤ clusters) (sym e) (end-512 clusters (omega arith))
fit-at size sectors clusters many (inr (inl e)) is =
    let c : clusters ≡ sectors / 2 = is ∙ ap (clusters_in sectors) e in
    subst (λ s. end_at s clusters ≤ clusters) (sym e) (end-1024 clusters (omega arith))
fit-at size sectors clusters many (inr (inr (inl e))) is =
    let c : clusters ≡ sectors / 4 = is ∙ ap (clusters_in sectors) e in
    subst (λ s. end_at s clusters ≤ clusters) (sym e) (end-2048 clusters (omega arith))
fit-at size sectors clusters many (inr (inr (inr e))) is =
    let c : clusters ≡ sectors / 8 = is ∙ ap (clusters_in sectors) e in
    subst (λ s. end_at s clusters ≤ clusters) (sym e) (end-4096 clusters (omega arith))

pub items-fit : (p : Plan) (sectors : ℕ) → 2048 ≤ sectors → IsClusterSize p.size → p.clusters ≡ clusters_in sectors p.size
    → items_end p ≤ p.clusters
items-fit p sectors many size is = fit-at p.size sectors p.clusters many size is

length-stored_units : (units : List ℕ) → length (stored_units units) ≡ 2 * length units
length-stored_units [] = refl
length-stored_units (unit ∷ units) = let h = length-stored_units units in omega arith

-- options in their ranges choose a plan whose items fit
pub FitsPlan-chosen : (disk : ℕ) (o : Options) → AreInRange disk o → FitsPlan (plan_of o)
FitsPlan-chosen disk o range = record {
  size = range.cluster;
  items = items-fit (plan_of o) o.sectors range.least range.cluster refl;
  few = range.few;
  short = omega (arith, length-stored_units o.label, range.short);
}
