-- What the standard information of a file tells, read from the bytes of its value.
use Rattle.std.proofs.Common.{◌≡◌, ℕ, List, [], ◌∷◌, ap}
use Rattle.std.specs.Prelude.{bit_and}
use Rattle.vol_bytes.specs.Field.{u32_at, u64_at}
use Rattle.tree_model.specs.Reading.{standard_flags}
use Rattle.ntfs_def.specs.StandardInformation.{standard_times}
use Rattle.tree_model.specs.declared.tree.TheConstants.{SHOWN_FLAGS}

module _ (value standard : List ℕ) (is : value ≡ standard) where
  pub times-read : (a b c d : ℕ) → a ≡ u64_at value 0x00 → b ≡ u64_at value 0x08 → c ≡ u64_at value 0x10 → d ≡ u64_at value 0x18
      → a ∷ b ∷ c ∷ d ∷ [] ≡ standard_times standard
  times-read a b c d e f g h = rw (e, f, g, h) (ap standard_times is)

  pub flags-read : (n shown : ℕ) → n ≡ u32_at value 0x20 → shown ≡ SHOWN_FLAGS → bit_and n shown ≡ standard_flags standard
  flags-read n shown e f = rw (e, f) (ap standard_flags is)
