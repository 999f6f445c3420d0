-- The fields of a record by the bytes that it begins with.
use Rattle.std.proofs.Common.{◌≡◌, ℕ, ◌+◌, ◌<◌, ◌≤◌, List, Bool, length, take, slice_index, ◌∙◌, arith}
use Rattle.std.specs.Prelude.{codes, if◌then◌else◌}
use Rattle.vol_bytes.specs.Field.{u16_at, u32_at, u64_at}
use Rattle.vol_bytes.proofs.FieldLaws.{u16_at-same, u32_at-same}
use Rattle.ntfs_def.specs.Node.{child_len}
use Rattle.index_node.specs.Edit.{IsLaid}
use Rattle.index_node.proofs.SpliceLaws.{range_moved}

pub laid_by : (new start : List ℕ) (vcn : ℕ) (b : Bool) → length new ≡ 4096 → u64_at new 0x10 ≡ vcn
    → ((k : ℕ) → k < 0x10 → slice_index new k ≡ slice_index start k) → ((k : ℕ) → 0x18 ≤ k → k < 0x50 → slice_index new k ≡ slice_index
    start k)
    → length start ≡ 88 → take 4 start ≡ codes "INDX" → u16_at start 0x04 ≡ 0x28 → u16_at start 0x06 ≡ 9
    → u32_at start 0x18 ≡ 0x28 → u32_at start 0x1C ≡ 0x38 + child_len b → u32_at start 0x20 ≡ 0xFE8
    → slice_index start 0x24 ≡ (if b then 1 else 0) → u16_at start 0x48 ≡ 16 + child_len b → u16_at start 0x4A ≡ 0
    → u16_at start 0x4C ≡ (if b then 3 else 2) → IsLaid new vcn b
laid_by new start vcn b len own low high start_len mark place count first used room flag size key flags = record {
  len = len;
  mark = range_moved start new 0 0 4 (omega arith) (omega arith) (λ k lt. low (0 + k) (omega arith)) ∙ mark;
  place = u16_at-same start new 0x04 (λ k from to. low k (omega arith)) ∙ place;
  count = u16_at-same start new 0x06 (λ k from to. low k (omega arith)) ∙ count;
  own = own;
  first = u32_at-same start new 0x18 (λ k from to. high k (omega arith) (omega arith)) ∙ first;
  used = u32_at-same start new 0x1C (λ k from to. high k (omega arith) (omega arith)) ∙ used;
  room = u32_at-same start new 0x20 (λ k from to. high k (omega arith) (omega arith)) ∙ room;
  flag = high 0x24 (omega arith) (omega arith) ∙ flag;
  size = u16_at-same start new 0x48 (λ k from to. high k (omega arith) (omega arith)) ∙ size;
  key = u16_at-same start new 0x4A (λ k from to. high k (omega arith) (omega arith)) ∙ key;
  flags = u16_at-same start new 0x4C (λ k from to. high k (omega arith) (omega arith)) ∙ flags;
}
