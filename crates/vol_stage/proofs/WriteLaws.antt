-- Writes by rising sector, and one that is sought.
use Rattle.std.proofs.Common.{◌≡◌, ◌≢◌, ℕ, ◌<◌, ◌≤◌, List, [], ◌∷◌, length, refl, sym, ap, subst, ◌∙◌, arith, inl, inr}
use Rattle.std.specs.Prelude.{Contains, slice_index_or}
use Rattle.std.specs.List.Sorted.{IsNonDecreasingBy, IsPartitionPoint}
use Rattle.std.proofs.lemmas.Bool.{cases_lt, cases_eq}
use Rattle.std.proofs.lemmas.List.{get_or-map, length-map}
use Rattle.vol_disk.specs.declared.mem_disk.Write.{Write}
use Rattle.vol_stage.specs.StagedWrites.{AreRising, places_of}

pub length-places_of : (writes : List Write) → length (places_of writes) ≡ length writes
unfolding places_of
length-places_of writes = length-map writes (λ (write : Write). write.sector)

pub places_of-none : (writes : List Write) → length writes ≡ 0 → places_of writes ≡ []
unfolding places_of
places_of-none [] none = refl
places_of-none (write ∷ writes) none = absurd (omega arith)

-- the sector of the write at k
pub places_of-at : (writes : List Write) (k d : ℕ) (write : Write) → k < length writes
    → slice_index_or (places_of writes) k d ≡ (slice_index_or writes k write).sector
unfolding places_of
places_of-at writes k d write below = get_or-map (λ (p : Write). p.sector) writes k write d below

-- rising sectors do not fall
pub IsNonDecreasingBy-rising : (writes : List Write) → AreRising writes → IsNonDecreasingBy (λ write. write.sector) writes
IsNonDecreasingBy-rising writes rising i j d le below = elim (cases_eq i j) [
  | inl same ↦ subst (λ k. (slice_index_or writes i d).sector ≤ (slice_index_or writes k d).sector) same (omega arith)
  | inr other ↦ let rises = rising i j d (omega arith) below in omega (arith, rises)
]

-- a sector that is not at its place is nowhere
pub Contains-places_of-not : (writes : List Write) (at sector : ℕ) (d : Write) → AreRising writes
    → IsPartitionPoint (λ write. write.sector < sector) (λ write. sector ≤ write.sector) writes at
    → (at < length writes → (slice_index_or writes at d).sector ≢ sector) → Contains (places_of writes) sector → ⊥
Contains-places_of-not writes at sector d rising point other found =
    let k = found.0 in
    let below : k < length writes = let inside = found.1 in omega (arith, inside, length-places_of writes) in
    let here : (slice_index_or writes k d).sector ≡ sector = sym (places_of-at writes k sector d below) ∙ found.2 in
    elim (cases_lt k at) [
      | inl before ↦ let less = point.0 k d (omega arith) before in omega (arith, less, here)
      | inr behind ↦ elim (cases_eq at k) [
        | inl same ↦ other (omega arith) (ap (λ i. (slice_index_or writes i d).sector) same ∙ here)
        | inr apart ↦
            let rises = rising at k d (omega arith) below in
            let least = point.1 at d (omega arith) (omega arith) in
            omega (arith, rises, least, here)
      ]
    ]
