-- The flag of a sound volume lies in two sectors of its disk, which have the bit alike.
use Rattle.std.proofs.Common.{◌≡◌, ◌*◌, ◌/◌, ◌%◌, ◌<◌, ℕ, List, drop, length, Some, ap, subst, sym, ◌∙◌, arith, length-drop}
use Rattle.std.specs.Prelude.{slice_index}
use Rattle.std.proofs.lemmas.List.{length-take}
use Rattle.vol_disk.specs.Contents.{sector_in}
use Rattle.volume_def.specs.Sound.{IsSound}
use Rattle.volume_def.specs.View.{VolumeView}
use Rattle.tree_model.specs.Facts.{IsVolumeOf}
use Rattle.mark_write.specs.declared.flag.Flag.{Flag}
use Rattle.mark_write.specs.Flags.{IsSet, LiesAt}
use Rattle.volume_mark.specs.Mark.{IsFlagOf}
use Rattle.volume_mark.proofs.DiskLaws as disks

whole-inside : (all : List ℕ) (n : ℕ) → length (sector_in (Some all) n) ≡ 512 → n < length all / 512
unfolding sector_in
whole-inside all n long =
    let l = length-take 512 (drop (512 * n) all) in
    let d = length-drop (512 * n) all in
    omega (arith, long, l, d)

pub flag-lies : (view : VolumeView) (flag : Flag) (bytes : List ℕ) → IsVolumeOf bytes view → IsSound view → IsFlagOf view flag
    → LiesAt (length bytes / 512) flag
flag-lies w flag bytes v sound f =
    let P : VolumeView → Type 0 = λ x. IsSound x → IsFlagOf x flag → LiesAt (length bytes / 512) flag in
    subst P (sym v.is) (λ s g. record {
      apart = disks.flags-apart bytes v.layout v.has s flag g;
      home = whole-inside bytes flag.home (disks.home-whole bytes v.layout v.has s flag g);
      copy = whole-inside bytes flag.copy (disks.copy-whole bytes v.layout v.has s flag g);
      inside = disks.at-inside bytes v.layout v.has s flag g;
    }) sound f

-- where the home sector has it, the copy has it too
pub flag-copied : (view : VolumeView) (flag : Flag) (bytes : List ℕ) → IsVolumeOf bytes view → IsSound view → IsFlagOf view flag
    → IsSet flag (sector_in (Some bytes)) → slice_index (sector_in (Some bytes) flag.copy) flag.at % 2 ≡ 1
flag-copied w flag bytes v sound f set =
    let P : VolumeView → Type 0 = λ x. IsSound x → IsFlagOf x flag → slice_index (sector_in (Some bytes) flag.copy) flag.at % 2 ≡ 1 in
    subst P (sym v.is) (λ s g. ap (λ b. b % 2) (disks.bits-same bytes v.layout v.has s flag g) ∙ set) sound f
