-- THE CLUSTERS OF ATTRIBUTES THAT ARE NOT NAMED, where no cluster has two owners: they hold what they held.
use Rattle.std.proofs.Common.{◌≡◌, ◌≢◌, ◌⊎◌, ◌<◌, ◌≤◌, ◌==◌, ℕ, Bool, false, List}
use Rattle.std.proofs.Common.{sym, ap, inl, inr, ◌∙◌}
use Rattle.std.proofs.lemmas.Bool.{and_parts, eqb-true}
use Rattle.std.proofs.lemmas.Slice.Eq.{bytes_eq-Decides}
use Rattle.std.specs.List.{Contains}
use Rattle.std.specs.Str.{bytes_eq}
use Rattle.ntfs_def.specs.declared.kinds.TheConstants.{DATA}
use Rattle.ntfs_def.specs.declared.records.TheConstants.{MFT, MFT_MIRROR}
use Rattle.volume_def.specs.Coverage.{times_covered}
use Rattle.volume_def.specs.Files.{Part, is_of, part_runs, parts, parts_at, records_of}
use Rattle.volume_def.specs.Values.{KeepsClusters}
use Rattle.volume_def.specs.View.{VolumeView}
use Rattle.volume_def.proofs.ValueLaws.{spot_at-owned}
use Rattle.list_laws.proofs.MemberLaws.{Contains-from_filter}
use Rattle.volume_edits.specs.Owners.{HasOwners}
use Rattle.volume_edits.proofs.OwnerLaws.{lies-outside}
use Rattle.session_def.specs.EditDefKept.{Key, key_of}
use Rattle.in_place.specs.InPlace.{Rewrites}
use Rattle.record_edits.specs.InPlace.{IsUnnamed}
use Rattle.record_edits.proofs.PlaceEdits.{part-unnamed}

module _ (changed : Key → Bool) (old new : VolumeView) (w : Rewrites changed old new) (o : HasOwners old) where
  -- what a part has that is not named, no named attribute has
  pub part-free : (g : ℕ) (part : Part) (c : ℕ) → Contains (parts (records_of old) g) part → changed (key_of g part.kind part.name) ≡ false
      → 1 ≤ times_covered (part_runs part) c → IsUnnamed changed old c
  part-free = part-unnamed changed old o

  -- outside the table and its mirror
  pub part-kept : 0 < old.layout.cluster_sectors → (g : ℕ) (part : Part) (c : ℕ) → Contains (parts (records_of old) g) part
      → changed (key_of g part.kind part.name) ≡ false → 1 ≤ times_covered (part_runs part) c
      → (part.kind ≢ DATA) ⊎ ((g ≢ MFT) × (g ≢ MFT_MIRROR)) → new.cluster c ≡ old.cluster c
  part-kept some g part c among free covered which =
      w.clusters c (lies-outside old o some g part c among covered which) (part-free g part c among free covered)

  pub clusters-kept : 0 < old.layout.cluster_sectors → (f kind : ℕ) (name : List ℕ) → changed (key_of f kind name) ≡ false
      → (kind ≢ DATA) ⊎ ((f ≢ MFT) × (f ≢ MFT_MIRROR)) → KeepsClusters old new (parts_at old f kind name)
  clusters-kept some f kind name free which vcn c at =
      let owned = spot_at-owned (parts_at old f kind name) vcn c at in
      let its = Contains-from_filter (is_of kind name) (parts (records_of old) f) owned.0 owned.1 in
      let p = and_parts (owned.0.kind == kind) (bytes_eq owned.0.name name) its.1 in
      let k = eqb-true owned.0.kind kind p.0 in
      let n = (bytes_eq-Decides owned.0.name name).0 p.1 in
      part-kept some f owned.0 c its.0
      (ap (λ kind. changed (key_of f kind owned.0.name)) k ∙ ap (λ name. changed (key_of f kind name)) n ∙ free) owned.2
      (elim which [
        | inl kinds ↦ inl (λ e. kinds (sym k ∙ e))
        | inr files ↦ inr files
      ])
