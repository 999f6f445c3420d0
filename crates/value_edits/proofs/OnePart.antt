-- A STREAM IN ONE PART, a value or an extent from cluster 0 on: where its clusters lie, and what it tells.
use Rattle.std.proofs.Common.{◌≡◌, ◌⊎◌, ◌<◌, ◌+◌, ◌||◌, ℕ, Bool, true, false, [], ◌∷◌, Option, Some, None}
use Rattle.std.proofs.Common.{refl, sym, ap, inl, inr, ◌∙◌, arith, if◌then◌else◌}
use Rattle.std.specs.Option.{option_and_then, option_map}
use Rattle.std.specs.Prelude.{find}
use Rattle.std.proofs.lemmas.Bool.{and_from, cases_Bool, cases_lt, eq-eqb, le-leb, lt-ltb}
use Rattle.std.proofs.lemmas.List.Sums.{sum_by-cons}
use Rattle.list_laws.proofs.FindLaws.{find-yes}
use Rattle.ntfs_def.specs.Attribute.{ExtentHeader}
use Rattle.ntfs_def.specs.Runs.{spot_of}
use Rattle.volume_def.specs.Files.{Part, all_covered, content_extent, part_clusters, part_runs}
use Rattle.volume_def.specs.Values.{first_part, first_vcn_of, holds_vcn, is_first, spot_at, spot_by}
use Rattle.volume_def.proofs.RunPieces.{spot_of-behind}
use Rattle.edit_def.specs.Places.{flags_of}
use Rattle.session_def.specs.Nodes.{Spread, has_hole, spread_of}
use Rattle.value_edits.proofs.RunHoles.{has_hole_in}

-- where its clusters lie
holds-of : (part : Part) (vcn : ℕ) → first_vcn_of part.content ≡ 0 → vcn < part_clusters part → holds_vcn vcn part ≡ true
holds-of part vcn first inside = and_from _ _ (le-leb (first_vcn_of part.content) vcn (omega (arith, first)))
    (lt-ltb vcn (first_vcn_of part.content + part_clusters part) (omega (arith, first, inside)))

found-by : (p : Part → Bool) (part : Part) → (find p (part ∷ []) ≡ Some part) ⊎ (find p (part ∷ []) ≡ None)
found-by p part = elim (cases_Bool (p part)) [
  | inl holds ↦ inl (find-yes p part holds)
  | inr fails ↦ inr (ap (λ (b : Bool). if b then Some part else None) fails)
]

pub spot-one : (part : Part) (vcn : ℕ) → first_vcn_of part.content ≡ 0 → spot_at (part ∷ []) vcn ≡ spot_of (part_runs part) vcn
spot-one part vcn first = elim (cases_lt vcn (part_clusters part)) [
  | inl inside ↦ its (find-yes (holds_vcn vcn) part (holds-of part vcn first inside))
  | inr past ↦ elim (found-by (holds_vcn vcn) part) [
    | inl found ↦ its found
    | inr none ↦ ap (λ (o : Option Part). spot_by o vcn) none ∙ sym (spot_of-behind (part_runs part) vcn past)
  ]
]
  where
    its : find (holds_vcn vcn) (part ∷ []) ≡ Some part → spot_at (part ∷ []) vcn ≡ spot_of (part_runs part) vcn
    its found = ap (λ (o : Option Part). spot_by o vcn) found ∙ ap (spot_of (part_runs part)) (omega (arith, first))

pub first-one : (part : Part) → first_vcn_of part.content ≡ 0 → first_part (part ∷ []) ≡ Some part
first-one part first = find-yes is_first part (eq-eqb (first_vcn_of part.content) 0 first)

pub covered-one : (part : Part) → all_covered (part ∷ []) ≡ part_clusters part
covered-one part = omega (arith, sum_by-cons part_clusters part [])

-- a hole of one part is one of its runs
pub holed-one : (part : Part) → has_hole (part ∷ []) ≡ true → has_hole_in (part_runs part) ≡ true
holed-one part holed = by (has_hole_in (part_runs part)) holed
  where
    by : (b : Bool) → (b || false) ≡ true → b ≡ true
    by true e = refl
    by false e = e

-- what the header of an extent tells of its clusters
abbrev pub spread_in : ExtentHeader → Spread
spread_in extent = record { allocated = extent.sizes.allocated; compressed = extent.compressed }

pub spread-one : (part : Part) → first_vcn_of part.content ≡ 0
    → spread_of (part ∷ []) ≡ option_map spread_in (content_extent part.content)
spread-one part first =
    ap (λ (o : Option Part). option_map spread_in (option_and_then (λ (p : Part). content_extent p.content) o)) (first-one part first)

-- its flags
pub flags-one : (part : Part) → first_vcn_of part.content ≡ 0 → flags_of (first_part (part ∷ [])) ≡ part.flags
flags-one part first = ap flags_of (first-one part first)
