-- A block has one number of attributes, or fails first at one place.
use Rattle.std.proofs.Common.{◌∙◌, ◌≡◌, List, ap, inl, inr, sym, ℕ}
use Rattle.std.proofs.lemmas.Bool.{cases_order}
use Rattle.ntfs_def.specs.Attribute.{attribute_place}
use Rattle.ntfs_def.specs.Shape.{FailsAt, HasShape, IsFirstBad}
use Rattle.ntfs_def.proofs.ShapeLaws.{bad_place}

-- a record has one number of attributes
pub HasShape-exact : (block : List ℕ) (m n : ℕ) → HasShape block m → HasShape block n → m ≡ n
HasShape-exact block m n a b = elim (cases_order m n) [
  | inl e ↦ e
  | inr w ↦ elim w [ inl lt ↦ absurd ((b.each m lt).whole.kind a.last.mark) | inr gt ↦ absurd ((a.each n gt).whole.kind b.last.mark) ]
]

-- behind right attributes one place is the first bad one
pub IsFirstBad-exact : (block : List ℕ) (a b : ℕ) → IsFirstBad block a → IsFirstBad block b → a ≡ b
IsFirstBad-exact block a b one other = elim (cases_order one.before.0 other.before.0) [
  | inl e ↦ one.before.1 ∙ ap (attribute_place block) e ∙ sym other.before.1
  | inr w ↦ elim w [
    | inl lt ↦ absurd (bad_place block a one one.before.0 one.before.1 (other.before.2 one.before.0 lt))
    | inr gt ↦ absurd (bad_place block b other other.before.0 other.before.1 (one.before.2 other.before.0 gt))
  ]
]

-- a block fails first at one place
pub FailsAt-exact : (block : List ℕ) (a b : ℕ) → FailsAt block a → FailsAt block b → a ≡ b
FailsAt-exact block a b (inl one) (inl other) = cc
FailsAt-exact block a b (inl one) (inr other) = let none = other.0 in cc
FailsAt-exact block a b (inr one) (inl other) = let none = one.0 in cc
FailsAt-exact block a b (inr one) (inr other) = IsFirstBad-exact block a b one.1 other.1
