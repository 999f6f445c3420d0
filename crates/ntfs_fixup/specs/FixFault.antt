-- Why a block does not open, as this crate's type.
use Rattle.std.specs.Prelude.{ℕ, List}
use Rattle.ntfs_def.specs.Fixup.{HasArray, IsFirstTorn}
use Rattle.ntfs_fixup.specs.declared.FixFault.{FixFault}
use Rattle.ntfs_fixup.specs.declared.FixFault.TheVariants.{Array, Torn}

abbrev pub Refuses : List ℕ → FixFault → Type 0
Refuses stored Array = ¬ (HasArray stored)
Refuses stored (Torn stride) = HasArray stored × IsFirstTorn stored stride
