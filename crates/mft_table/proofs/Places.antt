-- A sector of a table, and of its mirror, lies on the table's disk.
use Rattle.std.proofs.Common.{◌≡◌, ℕ, ◌+◌, ◌-◌, ◌*◌, ◌/◌, ◌%◌, ◌<◌, ◌≤◌, List, [], ◌∷◌, Option, Some, None, refl, ap, ◌∙◌, arith, inl, inr}
use Rattle.std.specs.Prelude.{All, IsSomeAnd}
use Rattle.std.specs.Option.{option_map}
use Rattle.std.proofs.Math.Nat.{mul-le-mul_left}
use Rattle.std.proofs.lemmas.Bool.{cases_lt}
use Rattle.std.proofs.lemmas.List.Elements.{All-head, All-tail}
use Rattle.std.proofs.lemmas.Nat.{div_below}
use Rattle.ntfs_def.specs.declared.run_text.Run.{Run}
use Rattle.ntfs_def.specs.declared.run_text.Spot.TheVariants.{At}
use Rattle.ntfs_def.specs.Runs.{spot_in, spot_of, total_clusters}
use Rattle.ntfs_def.proofs.SpotLaws.{spot_of-first, spot_of-past}
use Rattle.volume_def.specs.Blocks.{mirror_sector, place_at, table_place}
use Rattle.volume_def.specs.Coverage.{mirror_at}
use Rattle.volume_def.specs.Table.{IsOnVolume, TableLayout, LiesOn}
use Rattle.volume_def.proofs.BlockLaws.{table_place-below}
use Rattle.volume_def.proofs.RunPieces.{total-cons}

-- the place of a sector of the table is on the disk
pub table_place-on_disk : (layout : TableLayout) (sectors sector place : ℕ) → LiesOn sectors layout
    → table_place layout sector ≡ Some place → place < sectors
table_place-on_disk layout sectors sector place lies at =
    omega (arith, lies.on_disk, table_place-below layout sector place lies.some lies.on_volume at)

there : (lcn : Option ℕ) (n : ℕ) (P : ℕ → Type 0) → IsSomeAnd lcn P
    → (c : ℕ) × (spot_in (Some (option_map (λ place. place + n) lcn)) ≡ At c)
there None n P is = absurd is
there (Some place) n P is = (place + n, refl)

-- runs without a hole have each of their clusters somewhere
spot_of-on : (clusters : ℕ) (runs : List Run) (n : ℕ) → All (IsOnVolume clusters) runs → n < total_clusters runs
    → (c : ℕ) × (spot_of runs n ≡ At c)
spot_of-on clusters [] n on lt = absurd (omega arith)
spot_of-on clusters (run ∷ runs) n on lt = elim (cases_lt n run.len) [
  | inl below ↦
      let h = there run.lcn n (λ lcn. lcn + run.len ≤ clusters) (All-head (IsOnVolume clusters) run runs on) in
      (h.0, spot_of-first run runs n below ∙ h.1)
  | inr past ↦
      let h = spot_of-on clusters runs (n - run.len) (All-tail (IsOnVolume clusters) run runs on) (omega (arith, total-cons run runs)) in
      (h.0, spot_of-past run runs n past ∙ h.1)
]

-- and so has each sector of a record of the table
pub table_place-some : (layout : TableLayout) (sectors sector : ℕ) → LiesOn sectors layout → sector < 2 * layout.count
    → (place : ℕ) × (table_place layout sector ≡ Some place)
table_place-some layout sectors sector lies lt =
    let per = layout.cluster_sectors in
    let covered : 1024 * layout.count ≤ total_clusters layout.runs * (512 * per) = lies.covered in
    let within : sector < total_clusters layout.runs * per = omega (arith, covered, lt) in
    let h = spot_of-on layout.clusters layout.runs (sector / per) lies.on_volume
    (div_below sector per (total_clusters layout.runs) lies.some within) in
    (h.0 * per + sector % per, ap (place_at layout sector) h.1)

-- a sector of the mirror, where its cluster lies on the volume
pub mirror-on_disk : (layout : TableLayout) (sectors sector : ℕ) → LiesOn sectors layout → mirror_at layout sector < layout.clusters
    → mirror_sector layout + sector < sectors
mirror-on_disk layout sectors sector lies inside =
    let per = layout.cluster_sectors in
    let at = mirror_sector layout + sector in
    let some : 0 < per = lies.some in
    let below : at / per < layout.clusters = inside in
    let next : at / per + 1 ≤ layout.clusters = omega arith in
    let long : per * (at / per + 1) ≤ per * layout.clusters = mul-le-mul_left per next in
    let within : at % per < per = omega arith in
    let whole : per * (at / per) + at % per ≡ at = omega arith in
    omega (arith, lies.on_disk, long, within, whole)
