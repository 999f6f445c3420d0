-- THE CLUSTERS OF A VOLUME lie on its disk, as the boot clause says.
use Rattle.std.proofs.Common.{◌≡◌, ◌*◌, ◌/◌, ◌≤◌, ◌&&◌, ◌^◌, ℕ, Bool, true, false, List, [], ◌∷◌, length, Some, None}
use Rattle.std.proofs.Common.{refl, sym, ap, subst, arith}
use Rattle.std.specs.Prelude.{nat_le, nat_lt}
use Rattle.std.proofs.lemmas.Bool.{and_parts, leb-true}
use Rattle.std.proofs.lemmas.Nat.{div-add-mod'}
use Rattle.vol_disk.specs.Contents.{sector_in}
use Rattle.ntfs_def.specs.Boot.{boot_failing, boot_sector, cluster_count, cluster_sectors, has_cluster_sectors, has_index_size}
use Rattle.ntfs_def.specs.Boot.{has_length, has_places, has_record_size, has_sector_size, is_ntfs, total_sectors}
use Rattle.ntfs_def.specs.First.{first_failing}
use Rattle.volume_def.specs.Sound.{HasLayout}
use Rattle.volume_def.specs.Table.{TableLayout}
use Rattle.volume_def.specs.View.{VolumeView}
use Rattle.tree_model.specs.Facts.{IsVolumeOf}

-- none of seven tests fails, so the sixth does not
sixth-passed : (a b c d e f g : Bool)
    → first_failing {A = ℕ} ((a, 1) ∷ (b, 2) ∷ (c, 3) ∷ (d, 4) ∷ (e, 5) ∷ (f, 6) ∷ (g, 7) ∷ []) ≡ None → f ≡ true
sixth-passed false b c d e f g none = cc
sixth-passed true false c d e f g none = cc
sixth-passed true true false d e f g none = cc
sixth-passed true true true false e f g none = cc
sixth-passed true true true true false f g none = cc
sixth-passed true true true true true false g none = cc
sixth-passed true true true true true true g none = refl

total-inside : (total sectors : ℕ) (some few : Bool) → (((nat_lt 0 total && nat_le total sectors) && some) && few) ≡ true → total ≤ sectors
total-inside total sectors some few passed =
    let front = (and_parts ((nat_lt 0 total && nat_le total sectors) && some) few passed).0 in
    let both = (and_parts (nat_lt 0 total && nat_le total sectors) some front).0 in
    leb-true total sectors (and_parts (nat_lt 0 total) (nat_le total sectors) both).1

sectors-inside : (boot : List ℕ) (sectors : ℕ) → boot_failing boot sectors ≡ None → total_sectors boot ≤ sectors
sectors-inside boot sectors holds =
    total-inside (total_sectors boot) sectors (nat_le 1 (cluster_count boot)) (nat_le (cluster_count boot) (2 ^ 26))
    (sixth-passed (is_ntfs boot) (has_sector_size boot) (has_cluster_sectors boot) (has_record_size boot) (has_index_size boot)
    (has_length boot sectors) (has_places boot) holds)

whole-clusters : (total per sectors : ℕ) → total ≤ sectors → total / per * per ≤ sectors
whole-clusters total per sectors low = let all = div-add-mod' total per in omega (arith, low, all)

layout-inside : (disk : ℕ → List ℕ) (boot : List ℕ) (sectors : ℕ) (layout : TableLayout) → HasLayout disk boot sectors layout
    → layout.clusters * layout.cluster_sectors ≤ sectors
layout-inside disk boot sectors layout has =
    let from = has.table_clause.volume in
    subst (λ per. layout.clusters * per ≤ sectors) (sym from.cluster_sectors)
    (subst (λ clusters. clusters * cluster_sectors boot ≤ sectors) (sym from.clusters)
    (whole-clusters (total_sectors boot) (cluster_sectors boot) sectors (sectors-inside boot sectors has.boot_clause)))

pub clusters-inside : (image : List ℕ) (view : VolumeView) → IsVolumeOf image view
    → view.layout.clusters * view.layout.cluster_sectors ≤ length image / 512
clusters-inside image view volume =
    subst (λ (l : TableLayout). l.clusters * l.cluster_sectors ≤ length image / 512) (sym (ap (λ (v : VolumeView). v.layout) volume.is))
    (layout-inside (sector_in (Some image)) (boot_sector image) (length image / 512) volume.layout volume.has)
