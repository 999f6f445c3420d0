-- Where an attribute may come into a record.
use Rattle.std.specs.Prelude.{◌≡◌, ◌+◌, ◌≤◌, ℕ, IfSome, List, length, slice_get}
use Rattle.ntfs_def.specs.Attribute.{Attribute}

-- Types still rise where one of this type comes before attribute i, or behind all.
pub record RisesAt (attributes : List Attribute) (i kind : ℕ) : Type 0 where
  pub inside : i ≤ length attributes
  pub before : (j : ℕ) → j + 1 ≡ i → IfSome (slice_get attributes j) (λ attribute. attribute.kind ≤ kind)
  pub behind : IfSome (slice_get attributes i) (λ attribute. kind ≤ attribute.kind)
