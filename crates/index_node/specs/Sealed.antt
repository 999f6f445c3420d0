-- An index record is sealed to be stored, and opened again: of its bytes the update sequence array alone differs then.
use Rattle.std.specs.Prelude.{ℕ, ◌≤◌, List}
use Rattle.ntfs_def.specs.Fixup.{array_place, array_end}
use Rattle.ntfs_def.specs.Node.{first_entry}

-- The array stands behind the index header and before the first entry.
pub record HasArrayApart (node : List ℕ) : Type 0 where
  pub low : 0x28 ≤ array_place node
  pub high : array_end node ≤ first_entry node
