-- The clause on limits, S15, by the number of a base record (this project's choice).
use Rattle.std.specs.Prelude.{◌≡◌, ℕ, ◌^◌, ◌≤◌, All, IfSome, IsFalse, IsTrue}
use Rattle.ntfs_def.specs.declared.kinds.TheConstants.{DATA}
use Rattle.volume_def.specs.ExtentsClause.{is_bad_stream}
use Rattle.volume_def.specs.Files.{Part, Records, content_extent, is_base, parts}

-- a stream has 2^40 bytes at most, that of the bad clusters aside
abbrev pub IsInLimits : ℕ → Part → Type 0
IsInLimits f part = part.kind ≡ DATA → IsFalse (is_bad_stream f part)
    → IfSome (content_extent part.content) (λ extent. extent.sizes.first ≡ 0 → extent.sizes.real ≤ 2 ^ 40)

-- The clause on limits.
abbrev pub MeetsLimits : Records → ℕ → Type 0
MeetsLimits records n = IfSome (records.record_at n) (λ r. IsTrue (is_base r) → All (IsInLimits n) (parts records n))
