-- A record whose header is as before, but for its used size.
use Rattle.std.proofs.Common.{◌≡◌, ℕ, ◌<◌, ◌≤◌, List, get_or, ap, arith}
use Rattle.vol_bytes.proofs.FieldLaws.{u16_at-same, u32_at-same, u64_at-same}
use Rattle.ntfs_def.specs.Record.{base_in, header_of}
use Rattle.ntfs_def.proofs.SameLaws.{headers_same}

pub header_of-kept : (old new : List ℕ) → ((k : ℕ) → k < 0x18 → get_or new k 0 ≡ get_or old k 0)
    → ((k : ℕ) → 0x1C ≤ k → k < 0x38 → get_or new k 0 ≡ get_or old k 0) → header_of new ≡ header_of old
unfolding header_of
header_of-kept old new front middle = headers_same _ _
    (u16_at-same old new 0x10 (λ k from to. front k (omega arith)))
    (u16_at-same old new 0x12 (λ k from to. front k (omega arith)))
    (u16_at-same old new 0x16 (λ k from to. front k (omega arith)))
    (ap base_in (u64_at-same old new 0x20 (λ k from to. middle k (omega arith) (omega arith))))
    (u16_at-same old new 0x28 (λ k from to. middle k (omega arith) (omega arith)))
    (u32_at-same old new 0x2C (λ k from to. middle k (omega arith) (omega arith)))
