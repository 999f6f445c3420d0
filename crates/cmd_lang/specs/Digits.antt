-- Lower-case hexadecimal digits.
use Rattle.std.specs.Prelude.{◌≡◌, ◌<◌, ◌%◌, ℕ, ◌&&◌, ◌||◌, nat_le, Bool, List, length, All, IsTrue}

-- `0` to `9`, and `a` to `f`
abbrev pub is_lower : ℕ → Bool
is_lower byte = (nat_le 0x30 byte && nat_le byte 0x39) || (nat_le 0x61 byte && nat_le byte 0x66)

-- The text is pairs of such digits, one at least.
pub record ArePairs (text : List ℕ) : Type 0 where
  pub some : 0 < length text
  pub even : length text % 2 ≡ 0
  pub lower : All (λ byte. IsTrue (is_lower byte)) text
