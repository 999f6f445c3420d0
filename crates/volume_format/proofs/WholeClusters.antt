-- The bytes of an item's clusters.
use Rattle.std.proofs.Common.{ℕ, ◌+◌, ◌*◌, ◌-◌, ◌/◌, ◌≤◌, inl, inr, arith}
use Rattle.volume_format.specs.FitsPlan.{IsClusterSize}

-- they are at most what rounding up to 4096 gives, and whole sectors
pub rounded-most : (size len : ℕ) → IsClusterSize size → 512 * ((len + (size - 1)) / size * (size / 512)) ≤ (len + 4095) / 4096 * 4096
rounded-most size len (inl e) = rw e (omega arith)
rounded-most size len (inr (inl e)) = rw e (omega arith)
rounded-most size len (inr (inr (inl e))) = rw e (omega arith)
rounded-most size len (inr (inr (inr e))) = rw e (omega arith)
