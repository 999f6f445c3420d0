-- The clusters that bytes need are few.
use Rattle.std.proofs.Common.{ℕ, ◌+◌, ◌-◌, ◌*◌, ◌/◌, ◌^◌, ◌<◌, ◌≤◌, inl, inr, arith}
use Rattle.volume_format.specs.FitsPlan.{IsClusterSize}

-- in clusters of some size
pub quotient-few : (size bytes : ℕ) → IsClusterSize size → (bytes + (size - 1)) / size ≤ bytes / 512 + 1
quotient-few size bytes (inl e) = rw e (omega arith)
quotient-few size bytes (inr (inl e)) = rw e (omega arith)
quotient-few size bytes (inr (inr (inl e))) = rw e (omega arith)
quotient-few size bytes (inr (inr (inr e))) = rw e (omega arith)

pub quotient-some : (size bytes : ℕ) → IsClusterSize size → 0 < bytes → 0 < (bytes + (size - 1)) / size
quotient-some size bytes (inl e) some = rw e (omega arith)
quotient-some size bytes (inr (inl e)) some = rw e (omega arith)
quotient-some size bytes (inr (inr (inl e))) some = rw e (omega arith)
quotient-some size bytes (inr (inr (inr e))) some = rw e (omega arith)

pub IsClusterSize-least : (size : ℕ) → IsClusterSize size → 512 ≤ size
IsClusterSize-least size (inl e) = omega arith
IsClusterSize-least size (inr (inl e)) = omega arith
IsClusterSize-least size (inr (inr (inl e))) = omega arith
IsClusterSize-least size (inr (inr (inr e))) = omega arith

pub IsClusterSize-most : (size : ℕ) → IsClusterSize size → size ≤ 4096
IsClusterSize-most size (inl e) = omega arith
IsClusterSize-most size (inr (inl e)) = omega arith
IsClusterSize-most size (inr (inr (inl e))) = omega arith
IsClusterSize-most size (inr (inr (inr e))) = omega arith

-- so many clusters of some size have few bytes
pub times-few : (count size : ℕ) → IsClusterSize size → count ≤ 2 ^ 26 → count * size < 2 ^ 40
times-few count size (inl e) few = rw e (omega arith)
times-few count size (inr (inl e)) few = rw e (omega arith)
times-few count size (inr (inr (inl e))) few = rw e (omega arith)
times-few count size (inr (inr (inr e))) few = rw e (omega arith)

pub ruleset clusters_laws = (times-few)
