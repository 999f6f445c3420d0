-- The numbers of an extent that is cut, in its header and from its runs.
use Rattle.std.proofs.Common.{◌≡◌, ℕ, true, false, List, ◌∙◌, arith}
use Rattle.vol_bytes.specs.Field.{SameOutside, u64_at}
use Rattle.vol_bytes.proofs.FieldLaws.{u64_at-same}
use Rattle.ntfs_def.specs.declared.sizes.Sizes.{Sizes}
use Rattle.extent_edits.specs.Numbers.{PutsNumbers}

-- The one number more comes behind the others.
pub PutsNumbers-more : (old mid new : List ℕ) (sizes : Sizes) (stored : ℕ) → PutsNumbers old mid sizes false 0 → u64_at new 0x40 ≡ stored
    → SameOutside mid new 0x40 0x48 → PutsNumbers old new sizes true stored
PutsNumbers-more old mid new sizes stored puts more outside = record {
  len = outside.len ∙ puts.len;
  front = λ k low. outside.below k (omega (arith, low)) ∙ puts.front k low;
  last = u64_at-same mid new 0x18 (λ k from to. outside.below k (omega (arith, to))) ∙ puts.last;
  middle = λ k low high. outside.below k (omega (arith, high)) ∙ puts.middle k low high;
  allocated = u64_at-same mid new 0x28 (λ k from to. outside.below k (omega (arith, to))) ∙ puts.allocated;
  real = u64_at-same mid new 0x30 (λ k from to. outside.below k (omega (arith, to))) ∙ puts.real;
  initialized = u64_at-same mid new 0x38 (λ k from to. outside.below k (omega (arith, to))) ∙ puts.initialized;
  compressed = λ _. more;
  rest = λ k low. outside.above k low ∙ puts.rest k (omega (arith, low));
}
