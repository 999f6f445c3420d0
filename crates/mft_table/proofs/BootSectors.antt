-- The boot sector that was read.
use Rattle.std.proofs.Common.{◌≡◌, ℕ, ◌*◌, ◌/◌, ◌<◌, List, [], ◌∷◌, length, replicate, Option, None, Some, refl, subst, arith}
use Rattle.std.specs.Prelude.{IfSome}
use Rattle.vol_disk.specs.Contents.{IsTold, sector_in}
use Rattle.ntfs_def.specs.Boot.{boot_sector}

boot_sector-some : (image sector : List ℕ) (size : ℕ) → length image ≡ 512 * size → 0 < size
    → (IsTold (Some image) → sector ≡ sector_in (Some image) 0) → sector ≡ boot_sector image
unfolding sector_in
boot_sector-some [] sector size len some read = absurd (omega arith)
boot_sector-some (byte ∷ image) sector size len some read = read refl

-- sector 0 of a disk that has it
pub boot_sector-read : (now : Option (List ℕ)) (image sector : List ℕ) (size : ℕ)
    → IfSome now (λ all. length all ≡ 512 * size) → 0 < size → (IsTold now → sector ≡ sector_in now 0)
    → now ≡ Some image → sector ≡ boot_sector image
boot_sector-read None image sector size len some read e = cc
boot_sector-read (Some all) image sector size len some read e =
    let same : all ≡ image = cc in
    subst (λ (x : List ℕ). sector ≡ boot_sector x) same (boot_sector-some all sector size len some read)

-- a disk without a sector counts as one whose sector 0 is zero
pub boot_sector-none : (now : Option (List ℕ)) (image : List ℕ) (size : ℕ)
    → IfSome now (λ all. length all ≡ 512 * size) → size ≡ 0 → now ≡ Some image → boot_sector image ≡ replicate 512 0
boot_sector-none None image size len none e = cc
boot_sector-none (Some []) image size len none e =
    let same : [] ≡ image = cc in
    subst (λ (x : List ℕ). boot_sector x ≡ replicate 512 0) same refl
boot_sector-none (Some (byte ∷ all)) image size len none e = absurd (omega (arith, len))

-- the length and the sectors of an image
pub length-told : (now : Option (List ℕ)) (image : List ℕ) (size : ℕ)
    → IfSome now (λ all. length all ≡ 512 * size) → now ≡ Some image → length image ≡ 512 * size
length-told None image size len e = cc
length-told (Some all) image size len e =
    let same : all ≡ image = cc in
    subst (λ (x : List ℕ). length x ≡ 512 * size) same len

pub sectors_told : (now : Option (List ℕ)) (image : List ℕ) (size : ℕ)
    → IfSome now (λ all. length all ≡ 512 * size) → now ≡ Some image → size ≡ length image / 512
sectors_told now image size len e = let long = length-told now image size len e in omega arith
