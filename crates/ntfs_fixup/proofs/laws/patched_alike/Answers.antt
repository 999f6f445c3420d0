use Rattle.ntfs_fixup.proofs.PatchLaws.{IsSealed-patched, SameOutside-patched, byte-patched}
use Rattle.ntfs_fixup.proofs.laws.patched_alike.Goals as goal

pub returns : goal.returns
returns c = record { sealed = IsSealed-patched; others = SameOutside-patched; byte = byte-patched }
