-- BYTES THAT DIFFER IN THE BIT OF THE MARK alone, where it is set in both, are the same.
use Rattle.std.proofs.Common.{◌≡◌, ◌*◌, ◌-◌, ◌%◌, ◌<◌, ◌==◌, ◌||◌, ℕ, false, cond, List, length, get_or, Some}
use Rattle.std.proofs.Common.{inl, inr, refl, sym, ap, subst, ◌∙◌, arith}
use Rattle.std.specs.Prelude.{min, slice_index}
use Rattle.std.proofs.lemmas.Bool.{cases_eq, ne_eqb}
use Rattle.std.proofs.lemmas.Grind.{same_number_lists}
use Rattle.std.proofs.lemmas.List.{get_or-set_other, get_or-set_same}
use Rattle.vol_disk.specs.Contents.{sector_in}
use Rattle.mark_write.specs.Flags.{IsCopySet, IsSet, cleared_sector, without_bit}
use Rattle.mark_write.specs.declared.flag.Flag.{Flag}
use Rattle.volume_mark.proofs.EditedLaws.{at-flag}
use Rattle.volume_mark.proofs.SectorBytes.{length-sector_in, same_sectors}

-- sectors of bytes as long are as long
pub sector-long : (old new : List ℕ) → length new ≡ length old → (n : ℕ)
    → length (sector_in (Some new) n) ≡ length (sector_in (Some old) n)
sector-long old new long n = length-sector_in new n ∙ ap (λ l. min 512 (l - 512 * n)) long ∙ sym (length-sector_in old n)

-- two lists that are the same without the bit, which both have
bit-same : (xs ys : List ℕ) (at : ℕ) → length ys ≡ length xs → without_bit ys at ≡ without_bit xs at → slice_index xs at % 2 ≡ 1
    → slice_index ys at % 2 ≡ 1 → ys ≡ xs
bit-same xs ys at long same was now = same_number_lists ys xs long (λ k inside. elim (cases_eq k at) [
  | inl e ↦
      let there : at < length ys = omega (arith, e, inside) in
      let upper : get_or ys at 0 - get_or ys at 0 % 2 ≡ get_or xs at 0 - get_or xs at 0 % 2 =
      sym (get_or-set_same ys at _ 0 there) ∙ ap (λ zs. get_or zs at 0) same ∙ get_or-set_same xs at _ 0 (omega (arith, there, long)) in
      let alike : get_or ys at 0 ≡ get_or xs at 0 = omega (arith, upper, was, now) in
      ap (λ j. get_or ys j 0) e ∙ alike ∙ sym (ap (λ j. get_or xs j 0) e)
  | inr other ↦ sym (get_or-set_other ys at k _ 0 other) ∙ ap (λ zs. get_or zs k 0) same ∙ get_or-set_other xs at k _ 0 other
])

module _ (flag : Flag) (old new : List ℕ) (long : length new ≡ length old)
    (same : (n : ℕ) → cleared_sector flag (sector_in (Some new)) n ≡ cleared_sector flag (sector_in (Some old)) n)
    (was : IsSet flag (sector_in (Some old))) (copy_was : IsCopySet flag (sector_in (Some old)))
    (now : IsSet flag (sector_in (Some new))) (copy_now : IsCopySet flag (sector_in (Some new))) where
  abbrev disk : ℕ → List ℕ
  disk = sector_in (Some old)

  abbrev disk' : ℕ → List ℕ
  disk' = sector_in (Some new)

  home-same : disk' flag.home ≡ disk flag.home
  home-same = bit-same (disk flag.home) (disk' flag.home) flag.at (sector-long old new long flag.home)
      (sym (at-flag flag disk' flag.home (inl refl)) ∙ same flag.home ∙ at-flag flag disk flag.home (inl refl)) was now

  copy-same : disk' flag.copy ≡ disk flag.copy
  copy-same = bit-same (disk flag.copy) (disk' flag.copy) flag.at (sector-long old new long flag.copy)
      (sym (at-flag flag disk' flag.copy (inr refl)) ∙ same flag.copy ∙ at-flag flag disk flag.copy (inr refl)) copy_was copy_now

  sector-same : (n : ℕ) → disk' n ≡ disk n
  sector-same n = elim (cases_eq n flag.home) [
    | inl e ↦ subst (λ m. disk' m ≡ disk m) (sym e) home-same
    | inr not_home ↦ elim (cases_eq n flag.copy) [
      | inl e ↦ subst (λ m. disk' m ≡ disk m) (sym e) copy-same
      | inr not_copy ↦
          let none : ((n == flag.home) || (n == flag.copy)) ≡ false =
          ap (λ b. b || (n == flag.copy)) (ne_eqb n flag.home not_home) ∙ ne_eqb n flag.copy not_copy in
          sym (ap (λ b. cond b (without_bit (disk' n) flag.at) (disk' n)) none)
          ∙ same n ∙ ap (λ b. cond b (without_bit (disk n) flag.at) (disk n)) none
    ]
  ]

  pub same-bytes : new ≡ old
  same-bytes = same_sectors new old long sector-same
