-- A record that is opened says what the stored one does, where the ends of its strides say nothing.
use Rattle.std.proofs.Common.{◌≡◌, ℕ, ◌≤◌, List, length, arith}
use Rattle.ntfs_def.specs.Fixup.{opened_of}
use Rattle.ntfs_def.specs.Record.{is_in_use}
use Rattle.ntfs_def.proofs.FixupLaws.{length-opened_of, opened_of-within}
use Rattle.ntfs_def.proofs.SameLaws.{is_in_use-front}

-- a block is in use exactly where the opened one is
pub is_in_use-opened_of : (stored : List ℕ) → 24 ≤ length stored → is_in_use (opened_of stored) ≡ is_in_use stored
is_in_use-opened_of stored long =
    is_in_use-front stored (opened_of stored) long (omega (arith, length-opened_of stored))
    (λ k lt. opened_of-within stored k (omega arith) (omega arith))
