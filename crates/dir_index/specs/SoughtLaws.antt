-- The orders by which a name is sought are total, and tie exactly where the units that are compared are the same.
use Rattle.std.specs.Prelude.{◌≡◌, ◌↔◌, ℕ, List, map}
use Rattle.std.proofs.Common.{ap, ◌∙◌}
use Rattle.std.specs.Cmp.{IsTotalOrder, nat_cmp_total, on_total}
use Rattle.std.specs.Cmp.Lexicographic.{lists_total}
use Rattle.std.specs.declared.cmp.Ordering.{Ordering}
use Rattle.std.specs.declared.cmp.Ordering.TheVariants.{Equal}
use Rattle.std.proofs.lemmas.Cmp.{tied_itself}
use Rattle.ntfs_def.specs.KeyOrder.{by_numbers, compare_units}
use Rattle.dir_index.specs.Sought.{exact_order, folded_order, sought_units}
use Rattle.list_laws.proofs.OrderLaws.{then_second}
use Rattle.ntfs_def.proofs.KeyOrderLaws.{numbers_equal, units_total}

-- units by their folded units alone
abbrev pub by_fold : (ℕ → ℕ) → List ℕ → List ℕ → Ordering
by_fold fold xs ys = by_numbers (map fold xs) (map fold ys)

pub numbers_total : IsTotalOrder by_numbers
numbers_total = lists_total nat_cmp_total

pub by_fold_total : (fold : ℕ → ℕ) → IsTotalOrder (by_fold fold)
by_fold_total fold = on_total (map fold) numbers_total

pub units_ties : (fold : ℕ → ℕ) (xs ys : List ℕ) → (compare_units fold xs ys ≡ Equal) ↔ (xs ≡ ys)
units_ties fold xs ys = (
  λ e. numbers_equal xs ys (then_second (by_fold fold xs ys) (by_numbers xs ys) e),
  λ e. ap (λ zs. compare_units fold zs ys) e ∙ tied_itself (units_total fold) ys,
)

pub by_fold_ties : (fold : ℕ → ℕ) (xs ys : List ℕ) → (by_fold fold xs ys ≡ Equal) ↔ (map fold xs ≡ map fold ys)
by_fold_ties fold xs ys = (
  λ e. numbers_equal (map fold xs) (map fold ys) e,
  λ e. ap (λ zs. by_numbers zs (map fold ys)) e ∙ tied_itself numbers_total (map fold ys),
)

-- Keys, with the name among them.
module _ (fold : ℕ → ℕ) (name : List ℕ) where
  pub exact_total : IsTotalOrder (exact_order fold name)
  unfolding exact_order
  exact_total = on_total (sought_units name) (units_total fold)

  pub exact_ties : (a b : List ℕ) → (exact_order fold name a b ≡ Equal) ↔ (sought_units name a ≡ sought_units name b)
  unfolding exact_order
  exact_ties a b = units_ties fold (sought_units name a) (sought_units name b)

  pub folded_total : IsTotalOrder (folded_order fold name)
  unfolding folded_order
  folded_total = on_total (sought_units name) (by_fold_total fold)

  pub folded_ties : (a b : List ℕ)
      → (folded_order fold name a b ≡ Equal) ↔ (map fold (sought_units name a) ≡ map fold (sought_units name b))
  unfolding folded_order
  folded_ties a b = by_fold_ties fold (sought_units name a) (sought_units name b)
