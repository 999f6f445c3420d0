-- The block of an index record without entries: its header, and room for entries from 0x40 on.
-- Layout: as in `Node` of ntfs_def.
use Rattle.std.specs.Prelude.{◌≡◌, ℕ, true, List, [], ◌∷◌, ◌++◌, codes, length, nat_eq, replicate}
use Rattle.std.specs.List.{starts_with}
use Rattle.vol_bytes.specs.Field.{u32_at}
use Rattle.ntfs_def.specs.Fixup.{array_count, array_place}
use Rattle.ntfs_def.specs.Node.{own_vcn}

abbrev pub blank_node_header : List ℕ
blank_node_header =
    0x49 ∷ 0x4E ∷ 0x44 ∷ 0x58 ∷ 0x28 ∷ 0 ∷ 9 ∷ 0 ∷ 0 ∷ 0 ∷ 0 ∷ 0 ∷ 0 ∷ 0 ∷ 0 ∷ 0
    ∷ 0 ∷ 0 ∷ 0 ∷ 0 ∷ 0 ∷ 0 ∷ 0 ∷ 0 ∷ 0x28 ∷ 0 ∷ 0 ∷ 0 ∷ 0x28 ∷ 0 ∷ 0 ∷ 0
    ∷ 0xE8 ∷ 0x0F ∷ 0 ∷ 0 ∷ 0 ∷ 0 ∷ 0 ∷ 0 ∷ 0 ∷ 0 ∷ 0 ∷ 0 ∷ 0 ∷ 0 ∷ 0 ∷ 0
    ∷ 0 ∷ 0 ∷ 0 ∷ 0 ∷ 0 ∷ 0 ∷ 0 ∷ 0 ∷ 0 ∷ 0 ∷ 0 ∷ 0 ∷ 0 ∷ 0 ∷ 0 ∷ 0 ∷ []

unfoldable pub blank_node : List ℕ
blank_node = blank_node_header ++ replicate 4032 0

-- A block has such a header, with so many bytes in use from the node's header on.
pub record IsNodeBlock (used : ℕ) (node : List ℕ) : Type 0 where
  pub long : length node ≡ 4096
  pub mark : starts_with nat_eq node (codes "INDX") ≡ true
  pub place : array_place node ≡ 0x28
  pub count : array_count node ≡ 9
  pub own : own_vcn node ≡ 0
  pub first : u32_at node 0x18 ≡ 0x28
  pub ends : u32_at node 0x1C ≡ used
  pub room : u32_at node 0x20 ≡ 0xFE8
