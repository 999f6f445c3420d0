-- The answers to an image exclude one another.
use Rattle.std.proofs.Common.{◌≡◌, ◌/◌, ◌<◌, ℕ, List, length, Some, refl, sym, subst, inl, inr, ◌∙◌, arith}
use Rattle.std.proofs.lemmas.Option.{none-some}
use Rattle.vol_disk.specs.Contents.{sector_in}
use Rattle.ntfs_def.specs.Boot.{boot_sector}
use Rattle.volume_def.specs.Sound.{HasLayout, IsAccepted, IsRefused, IsSound, Meets, told_view}
use Rattle.volume_def.specs.Table.{TableLayout}
use Rattle.volume_def.specs.VersionClause.{IsClean}
use Rattle.volume_def.proofs.OneTable.{layout-exact}
use Rattle.volume_def.proofs.SoundLaws.{IsAccepted-only, IsRefused-exact}
use Rattle.mft_table.specs.declared.mounted.Mounted.{Mounted}
use Rattle.mft_table.specs.declared.mount.MountNo.TheVariants.{Dirty, Refused}
use Rattle.mft_table.specs.HeldTables.{HoldsTables, volume_in}
use Rattle.mft_table.specs.Mounted.{mounted_layout}
use Rattle.clause_order.proofs.OrderLaws.{rank-most}
use Rattle.mount_check.specs.Refusals.{IsMountNo}

pub IsAccepted-tables : (image : List ℕ) (tables : Mounted) → HoldsTables 15 image tables → IsClean (volume_in image tables)
    → IsAccepted (sector_in (Some image)) (boot_sector image) (length image / 512)
IsAccepted-tables image tables holds clean = record {
  layout = mounted_layout tables;
  has = record { boot_clause = holds.table.boot; table_clause = holds.table.clause };
  sound = λ clause n. holds.clauses clause (rank-most clause) n;
  clean = clean;
}

pub IsAccepted-clean : (image : List ℕ) → IsAccepted (sector_in (Some image)) (boot_sector image) (length image / 512)
    → IsMountNo (Some image) Dirty → ⊥
IsAccepted-clean image x dirty =
    let y = dirty image refl in
    let disk = sector_in (Some image) in
    let layouts : x.layout ≡ y.layout = layout-exact disk (boot_sector image) x.layout y.layout x.has.table_clause y.has.table_clause in
    y.unclean.unclean (subst (λ (w : TableLayout). IsClean (told_view disk w)) layouts x.clean)

pub IsAccepted-whole : (image : List ℕ) (k n : ℕ) → IsAccepted (sector_in (Some image)) (boot_sector image) (length image / 512)
    → IsMountNo (Some image) (Refused k n) → ⊥
IsAccepted-whole image k n x refused =
    IsAccepted-only (sector_in (Some image)) (boot_sector image) (length image / 512) k n x (refused image refl)

sound-only : (disk : ℕ → List ℕ) (boot : List ℕ) (sectors k n : ℕ) (layout : TableLayout) → HasLayout disk boot sectors layout
    → IsSound (told_view disk layout) → IsRefused disk boot sectors k n → ⊥
sound-only disk boot sectors k n layout has sound (inl y) = none-some n (sym has.boot_clause ∙ y.1)
sound-only disk boot sectors k n layout has sound (inr (inl y)) = y.broken layout has.table_clause
sound-only disk boot sectors k n layout has sound (inr (inr y)) =
    let layouts : layout ≡ y.layout = layout-exact disk boot layout y.layout has.table_clause y.has.table_clause in
    let meets : Meets y.clause (told_view disk y.layout) n =
    subst (λ (w : TableLayout). Meets y.clause (told_view disk w) n) layouts (sound y.clause n) in
    y.first.broken meets

pub IsDirty-sound : (image : List ℕ) (k n : ℕ) → IsMountNo (Some image) Dirty → IsMountNo (Some image) (Refused k n) → ⊥
IsDirty-sound image k n dirty refused =
    let x = dirty image refl in
    sound-only (sector_in (Some image)) (boot_sector image) (length image / 512) k n x.layout x.has x.unclean.sound (refused image refl)

pub IsRefused-one : (image : List ℕ) (k m l n : ℕ) → IsMountNo (Some image) (Refused k m) → IsMountNo (Some image) (Refused l n)
    → (k ≡ l) × (m ≡ n)
IsRefused-one image k m l n x y =
    IsRefused-exact (sector_in (Some image)) (boot_sector image) (length image / 512) k m l n (x image refl) (y image refl)
