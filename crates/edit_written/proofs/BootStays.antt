-- AN EDIT STAGED, in bytes: the boot sector and the first record are as they were, so the bytes are a volume with the same layout.
use Rattle.std.proofs.Common.{◌≡◌, ◌+◌, ◌*◌, ◌/◌, ◌<◌, ◌≤◌, ℕ, zero, suc, List, [], ◌∷◌, ◌++◌, length, Some, None}
use Rattle.std.proofs.Common.{refl, sym, ap, subst, ◌∙◌, arith}
use Rattle.std.specs.List.{flat_map, range_with_len}
use Rattle.vol_disk.specs.Contents.{sector_in}
use Rattle.ntfs_def.specs.Boot.{boot_failing, boot_sector, cluster_sectors, mft_cluster}
use Rattle.ntfs_def.specs.Fixup.{opened_of}
use Rattle.volume_def.specs.Blocks.{block_of, cluster_of}
use Rattle.volume_def.specs.Sound.{HasLayout, IsSound, told_view}
use Rattle.volume_def.specs.Table.{IsRecord, TableLayout, TellsTable, first_record, two_sectors}
use Rattle.volume_def.specs.View.{VolumeView}
use Rattle.volume_def.proofs.BlockLaws.{block_of-whole}
use Rattle.volume_edits.proofs.TableParts.{first-place, root-written}
use Rattle.tree_model.specs.Facts.{IsVolumeOf}
use Rattle.volume_mark.proofs.SectorBytes.{length-sector_in}
use Rattle.value_owed.specs.Unnamed.{LiesApart}
use Rattle.value_owed.proofs.StillApart.{apart-sound}
use Rattle.edit_written.specs.LeavesAlone.{LeavesAlone}
use Rattle.edit_written.proofs.SameBytes.{sector-long}

-- the first pieces of two lists are the same where they are as long
front-same : (xs ys us vs : List ℕ) → length ys ≡ length xs → ys ++ vs ≡ xs ++ us → ys ≡ xs
front-same [] [] us vs long same = refl
front-same [] (y ∷ ys) us vs long same = absurd (omega (arith, long))
front-same (x ∷ xs) [] us vs long same = absurd (omega (arith, long))
front-same (x ∷ xs) (y ∷ ys) us vs long same =
    let head : y ≡ x = cc in
    let tail : ys ++ vs ≡ xs ++ us = cc in
    λ i. head i ∷ front-same xs ys us vs (omega (arith, long)) tail i

-- where cluster 0 is the same, so is its first sector
first-piece : (f g : ℕ → List ℕ) (n : ℕ) → 0 < n → length (g 0) ≡ length (f 0)
    → flat_map g (range_with_len 0 n) ≡ flat_map f (range_with_len 0 n) → g 0 ≡ f 0
first-piece f g zero some long same = absurd (omega (arith, some))
first-piece f g (suc n) some long same =
    front-same (f 0) (g 0) (flat_map f (range_with_len 1 n)) (flat_map g (range_with_len 1 n)) long same

first-sector : (disk disk' : ℕ → List ℕ) (layout : TableLayout) → 0 < layout.cluster_sectors → length (disk' 0) ≡ length (disk 0)
    → cluster_of disk' layout 0 ≡ cluster_of disk layout 0 → disk' 0 ≡ disk 0
unfolding cluster_of
first-sector disk disk' layout some long same =
    let per = layout.cluster_sectors in
    let z : 0 * per + 0 ≡ 0 = omega arith in
    ap disk' (sym z)
    ∙ first-piece (λ i. disk (0 * per + i)) (λ i. disk' (0 * per + i)) per some
    (ap (λ k. length (disk' k)) z ∙ long ∙ sym (ap (λ k. length (disk k)) z)) same
    ∙ ap disk z

boot-same : (old new : List ℕ) → length new ≡ length old → sector_in (Some new) 0 ≡ sector_in (Some old) 0
    → boot_sector new ≡ boot_sector old
unfolding sector_in
boot-same [] [] long same = refl
boot-same [] (x ∷ new) long same = absurd (omega (arith, long))
boot-same (x ∷ old) [] long same = absurd (omega (arith, long))
boot-same (x ∷ old) (y ∷ new) long same = same

module _ (old : List ℕ) (layout : TableLayout) (has : HasLayout (sector_in (Some old)) (boot_sector old) (length old / 512) layout)
    (sound : IsSound (told_view (sector_in (Some old)) layout)) (new : List ℕ) (long : length new ≡ length old)
    (alone : LeavesAlone (told_view (sector_in (Some old)) layout) (told_view (sector_in (Some new)) layout)) where
  abbrev disk : ℕ → List ℕ
  disk = sector_in (Some old)

  abbrev disk' : ℕ → List ℕ
  disk' = sector_in (Some new)

  abbrev view : VolumeView
  view = told_view disk layout

  abbrev next : VolumeView
  next = told_view disk' layout

  abbrev per : ℕ
  per = layout.cluster_sectors

  short : (n : ℕ) → length (disk n) ≤ 512
  short n = let l = length-sector_in old n in omega (arith, l)

  long-sector : (n : ℕ) → length (disk' n) ≡ length (disk n)
  long-sector = sector-long old new long

  apart : LiesApart view
  apart = apart-sound disk (boot_sector old) layout has.table_clause short sound

  boot-is : boot_sector new ≡ boot_sector old
  boot-is = boot-same old new long (first-sector disk disk' layout apart.some (long-sector 0) alone.boot)

  -- block 0 is the first record
  block-is : (d : ℕ → List ℕ) → ((n : ℕ) → length (d n) ≡ length (disk n)) → block_of d layout 0 ≡ first_record d (boot_sector old)
  block-is d same =
      let at = mft_cluster (boot_sector old) * per in
      let place = first-place disk (boot_sector old) layout has.table_clause short sound in
      let written = root-written disk (boot_sector old) layout has.table_clause short sound in
      let z : at + 0 ≡ at = omega arith in
      let per_is : per ≡ cluster_sectors (boot_sector old) = has.table_clause.volume.cluster_sectors in
      let small : (n : ℕ) → length (d n) ≤ 512 = λ n. let s = same n in let l = short n in omega (arith, s, l) in
      block_of-whole d layout 0 at (at + 1) (place 0 (omega arith) ∙ ap (λ (p : ℕ). Some p) z) (place 1 (omega arith))
      (omega (arith, written)) (small at) (small (at + 1))
      ∙ ap (λ p. two_sectors d (mft_cluster (boot_sector old) * p)) per_is

  first-same : first_record disk' (boot_sector old) ≡ first_record disk (boot_sector old)
  first-same = sym (block-is disk' long-sector) ∙ alone.table ∙ block-is disk (λ n. refl)

  pub has-layout : HasLayout disk' (boot_sector new) (length new / 512) layout
  has-layout =
      let m = has.table_clause in
      let at-old : HasLayout disk' (boot_sector old) (length new / 512) layout = record {
        boot_clause = subst (λ n. boot_failing (boot_sector old) (n / 512) ≡ None) (sym long) has.boot_clause;
        table_clause = record {
          volume = m.volume;
          readable = subst IsRecord (sym first-same) m.readable;
          table = subst (λ b. TellsTable (mft_cluster (boot_sector old)) (opened_of b) layout) (sym first-same) m.table;
        };
      } in
      subst (λ b. HasLayout disk' b (length new / 512) layout) (sym boot-is) at-old

pub staged-volume : (old : VolumeView) (before staged : List ℕ) → IsVolumeOf before old → IsSound old → length staged ≡ length before
    → LeavesAlone old (told_view (sector_in (Some staged)) old.layout)
    → IsVolumeOf staged (told_view (sector_in (Some staged)) old.layout)
staged-volume old before staged volume sound long alone =
    let P : VolumeView → Type 0 = λ x. IsSound x → LeavesAlone x (told_view (sector_in (Some staged)) x.layout)
    → IsVolumeOf staged (told_view (sector_in (Some staged)) x.layout) in
    subst P (sym volume.is) (λ s a. record {
      layout = volume.layout;
      has = has-layout before volume.layout volume.has s staged long a;
      is = refl;
    }) sound alone
