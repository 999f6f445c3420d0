-- The bare block of a record says what the record says.
use Rattle.std.proofs.Common.{◌≡◌, ℕ, List, None, arith, rules}
use Rattle.vol_bytes.specs.Field.{SameOutside}
use Rattle.ntfs_def.specs.Fixup.{array_count, array_place, bare_of}
use Rattle.ntfs_def.specs.Shape.{HasShape, header_failing}
use Rattle.ntfs_def.proofs.BareLaws.{bare_of-before, bare_of-behind, length-bare_of}

array_place-shape : (block : List ℕ) → header_failing block ≡ None → array_place block ≡ 0x30
array_place-shape block right = search rules

array_count-shape : (block : List ℕ) → header_failing block ≡ None → array_count block ≡ 3
array_count-shape block right = search rules

-- it differs from the record in the array alone
pub SameOutside-bare_of : (block : List ℕ) (count : ℕ) → HasShape block count → SameOutside block (bare_of block) 0x30 0x36
SameOutside-bare_of block count shape =
    let place = array_place-shape block shape.header in
    let n = array_count-shape block shape.header in
    record {
      len = length-bare_of block;
      below = λ k lt. bare_of-before block k (omega (arith, place));
      above = λ k le. bare_of-behind block k (omega (arith, place, n));
    }
