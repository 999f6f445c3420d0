-- THE TABLE AND ITS MIRROR are the unnamed $DATA of files 0 and 1: what any other part has lies outside them, and of the mirror's own
-- clusters
-- those behind the copies.
use Rattle.std.proofs.Common.{◌≡◌, ◌≢◌, ◌⊎◌, ◌+◌, ◌-◌, ◌*◌, ◌/◌, ◌%◌, ◌<◌, ◌≤◌, ◌==◌, ℕ, Bool, true, false, List, [], Option, Some, None}
use Rattle.std.proofs.Common.{refl, sym, ap, subst, inl, inr, ◌∙◌, arith}
use Rattle.std.proofs.lemmas.Bool.{and_from, and_parts, cases_Bool, cases_lt, eq-eqb, leb-true}
use Rattle.std.proofs.lemmas.Nat.{div-add-mod', div-mul-add, mod_below}
use Rattle.std.proofs.lemmas.Slice.Eq.{bytes_eq-Decides}
use Rattle.std.specs.List.{Contains, find}
use Rattle.std.specs.Str.{bytes_eq}
use Rattle.ntfs_def.specs.Runs.{spot_of}
use Rattle.ntfs_def.specs.declared.kinds.TheConstants.{DATA}
use Rattle.ntfs_def.specs.declared.records.TheConstants.{MFT, MFT_MIRROR}
use Rattle.ntfs_def.specs.declared.run_text.Spot.TheVariants.{At}
use Rattle.volume_def.specs.Coverage.{IsOutsideTable, mirror_at, times_covered}
use Rattle.volume_def.specs.Files.{Part, is_of, part_runs, parts, parts_at, records_of}
use Rattle.volume_def.specs.Table.{cluster_bytes}
use Rattle.volume_def.specs.Values.{first_vcn_of, holds_vcn, spot_at, spot_by}
use Rattle.volume_def.specs.View.{VolumeView}
use Rattle.volume_def.proofs.Codes.{part_code}
use Rattle.volume_def.proofs.RunPlaces.{spot_of-once, times_in-spot_of}
use Rattle.volume_def.proofs.ValueLaws.{spot_at-owned}
use Rattle.list_laws.proofs.CodedLaws.{same_code, same_code-exact, same_code-itself}
use Rattle.list_laws.proofs.FindLaws.{find-found}
use Rattle.list_laws.proofs.MemberLaws.{Contains-from_filter}
use Rattle.volume_edits.specs.Owners.{HasOwners}
use Rattle.volume_edits.proofs.OwnerLaws.{files-apart, no-shared, owned-once}

never : {b : Bool} → b ≡ true → b ≡ false → ⊥
never x y = cc

-- Two parts can be told apart.
tell : (one two : Part) → (one ≡ two) ⊎ (one ≢ two)
tell one two = elim (cases_Bool (same_code (part_code.code one) (part_code.code two))) [
  | inl same ↦ inl (part_code.inj one two (same_code-exact _ _ same))
  | inr other ↦ inr (λ e.
      never (subst (λ p. same_code (part_code.code one) (part_code.code p) ≡ true) e (same_code-itself (part_code.code one))) other)
]

-- the part that holds a cluster of a stream
holder : (extents : List Part) (vcn c : ℕ) (found : Option Part) → find (holds_vcn vcn) extents ≡ found → spot_by found vcn ≡ At c
    → (part : Part) × Contains extents part × (first_vcn_of part.content ≤ vcn)
    × (spot_of (part_runs part) (vcn - first_vcn_of part.content) ≡ At c)
holder extents vcn c None is at = cc
holder extents vcn c (Some part) is at =
    let f = find-found (holds_vcn vcn) extents part is in
    (part, f.0, leb-true _ _ (and_parts _ _ f.1).0, at)

module _ (view : VolumeView) (o : HasOwners view) where
  -- a cluster stands at one place of its stream
  pub stands-once : (f kind : ℕ) (name : List ℕ) (vcn wcn c : ℕ) → spot_at (parts_at view f kind name) vcn ≡ At c
      → spot_at (parts_at view f kind name) wcn ≡ At c → vcn ≡ wcn
  stands-once f kind name vcn wcn c at bt =
      let extents = parts_at view f kind name in
      let p = holder extents vcn c (find (holds_vcn vcn) extents) refl at in
      let q = holder extents wcn c (find (holds_vcn wcn) extents) refl bt in
      let mine = (Contains-from_filter (is_of kind name) (parts (records_of view) f) p.0 p.1).0 in
      let its = (Contains-from_filter (is_of kind name) (parts (records_of view) f) q.0 q.1).0 in
      elim (tell p.0 q.0) [
        | inl same ↦
            let there : spot_of (part_runs p.0) (wcn - first_vcn_of p.0.content) ≡ At c =
            subst (λ (part : Part). spot_of (part_runs part) (wcn - first_vcn_of part.content) ≡ At c) (sym same) q.3 in
            let from : first_vcn_of p.0.content ≤ wcn = subst (λ (part : Part). first_vcn_of part.content ≤ wcn) (sym same) q.2 in
            let back = spot_of-once (part_runs p.0) (vcn - first_vcn_of p.0.content) (wcn - first_vcn_of p.0.content) c
            (λ d. omega (arith, owned-once view f p.0 d mine, (o.owners d).once)) p.3 there in
            omega (arith, back, from, p.2)
        | inr differ ↦ absurd (no-shared view o f f p.0 q.0 c mine its differ
            (times_in-spot_of (part_runs p.0) _ c p.3) (times_in-spot_of (part_runs q.0) _ c q.3))
      ]

  -- where the copies lie
  pub copies-at : (s : ℕ) → s < 8 → 0 < view.layout.cluster_sectors
      → spot_at (parts_at view MFT_MIRROR DATA []) (s / view.layout.cluster_sectors) ≡ At (mirror_at view.layout s)
  copies-at s few some =
      let per = view.layout.cluster_sectors in
      let k = s / per in
      let parts_s = div-add-mod' s per in
      let scaled : k * (512 * per) ≡ 512 * (k * per) = omega arith in
      let below : k * cluster_bytes view.layout < 4096 = omega (arith, parts_s, scaled, few) in
      let r = mod_below s per some in
      let spread : (view.layout.mirror + k) * per ≡ view.layout.mirror * per + k * per = omega arith in
      let at_s : view.layout.mirror * per + s ≡ (view.layout.mirror + k) * per + s % per = omega (arith, parts_s, spread) in
      let there : view.layout.mirror + k ≡ mirror_at view.layout s =
      sym (ap (λ x. x / per) at_s ∙ div-mul-add (view.layout.mirror + k) per (s % per) r) in
      o.mirror.placed k below ∙ ap At there

  -- what any other part has
  pub other-outside : 0 < view.layout.cluster_sectors → o.table.part.name ≡ [] → (g : ℕ) (part : Part) (c : ℕ)
      → Contains (parts (records_of view) g) part → is_of DATA [] part ≡ false → 1 ≤ times_covered (part_runs part) c
      → IsOutsideTable view.layout c
  other-outside some unnamed g part c among other covered = record {
    table = elim (cases_lt 0 (times_covered view.layout.runs c)) [
      | inl covers ↦ absurd (no-shared view o g MFT part o.table.part c among o.table.among no-table covered
          (subst (λ runs. 1 ≤ times_covered runs c) (sym o.table.runs) (omega (arith, covers))))
      | inr none ↦ omega (arith, none)
    ];
    mirror = λ s few same.
        let owned = spot_at-owned (parts_at view MFT_MIRROR DATA []) _ (mirror_at view.layout s) (copies-at s few some) in
        let its = Contains-from_filter (is_of DATA []) (parts (records_of view) MFT_MIRROR) owned.0 owned.1 in
        no-shared view o g MFT_MIRROR part owned.0 c among its.0
        (λ e. never (subst (λ p. is_of DATA [] p ≡ true) (sym e) its.1) other) covered
        (subst (λ k. 1 ≤ times_covered (part_runs owned.0) k) same owned.2);
  }
    where
      is-table : is_of DATA [] o.table.part ≡ true
      is-table =
          and_from (o.table.part.kind == DATA) (bytes_eq o.table.part.name []) (eq-eqb o.table.part.kind DATA o.table.data_is)
          ((bytes_eq-Decides o.table.part.name []).1 unnamed)

      no-table : part ≢ o.table.part
      no-table e = never (subst (λ p. is_of DATA [] p ≡ true) (sym e) is-table) other

  -- the clusters of the mirror behind the copies
  pub mirror-outside : 0 < view.layout.cluster_sectors → (vcn c : ℕ) → 4096 ≤ vcn * cluster_bytes view.layout
      → spot_at (parts_at view MFT_MIRROR DATA []) vcn ≡ At c → IsOutsideTable view.layout c
  mirror-outside some vcn c behind at =
      let owned = spot_at-owned (parts_at view MFT_MIRROR DATA []) vcn c at in
      let its = Contains-from_filter (is_of DATA []) (parts (records_of view) MFT_MIRROR) owned.0 owned.1 in
      record {
        table = elim (cases_lt 0 (times_covered view.layout.runs c)) [
          | inl covers ↦ absurd (no-shared view o MFT_MIRROR MFT owned.0 o.table.part c its.0 o.table.among
              (files-apart view MFT_MIRROR MFT owned.0 o.table.part (λ q. omega (arith, q)) its.0 o.table.among) owned.2
              (subst (λ runs. 1 ≤ times_covered runs c) (sym o.table.runs) (omega (arith, covers))))
          | inr none ↦ omega (arith, none)
        ];
        mirror = λ s few same. apart s few same;
      }
    where
      apart : (s : ℕ) → s < 8 → mirror_at view.layout s ≡ c → ⊥
      apart s few same =
          let per = view.layout.cluster_sectors in
          let once = stands-once MFT_MIRROR DATA [] vcn (s / per) c at (copies-at s few some ∙ ap At same) in
          let parts_s = div-add-mod' s per in
          let scaled : s / per * (512 * per) ≡ 512 * (s / per * per) = omega arith in
          let there : vcn * cluster_bytes view.layout ≡ s / per * (512 * per) = ap (λ k. k * (512 * per)) once in
          omega (arith, parts_s, scaled, there, behind, few)
