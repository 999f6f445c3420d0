-- The entries of a directory are in order as a search for a name needs it.
use Rattle.std.proofs.Common.{◌≡◌, ◌≢◌, ℕ, List, [], ◌∷◌, refl, sym, subst, true, false, IsTrue}
use Rattle.std.specs.declared.cmp.Ordering.{Ordering}
use Rattle.std.specs.declared.cmp.Ordering.TheVariants.{Less, Greater}
use Rattle.std.specs.Cmp.{IsTotalOrder}
use Rattle.ntfs_def.specs.FileName.{is_name_key, key_units}
use Rattle.ntfs_def.specs.IndexTree.{Ascends, Each}
use Rattle.ntfs_def.specs.KeyOrder.{compare_units, fold_order, name_order}
use Rattle.ntfs_def.specs.Node.{Item}
use Rattle.ntfs_def.proofs.KeyOrderLaws.{name_fold, units_total}
use Rattle.index_store.specs.Search.{IsBefore, Rises}
use Rattle.index_store.proofs.RisingOrders.{before_of}
use Rattle.list_laws.proofs.OrderLaws.{less_not_greater}
use Rattle.dir_index.specs.Sought.{exact_order, folded_order, sought_units}
use Rattle.dir_index.specs.SoughtLaws.{by_fold, by_fold_total}

-- a key of an entry is compared by its own units
pub own_units : (name key : List ℕ) → IsTrue (is_name_key key) → sought_units name key ≡ key_units key
own_units name [] valid = absurd (let f : false ≡ true = valid in cc)
own_units name (byte ∷ key) valid = refl

-- Entries that ascend by their names are in order for whatever is compared with them by such an order.
module _ (fold : ℕ → ℕ) (cmp : List ℕ → List ℕ → Ordering) (laws : IsTotalOrder cmp)
    (agree : (x y : List ℕ) → name_order fold x y ≡ Less → cmp (key_units x) (key_units y) ≢ Greater) (name : List ℕ) where
  abbrev side : List ℕ → Ordering
  side key = cmp (sought_units name key) name

  before : (x y : List ℕ) → IsTrue (is_name_key x) → IsTrue (is_name_key y) → name_order fold x y ≡ Less → IsBefore (side x) (side y)
  before x y h k e =
      subst (λ xs. IsBefore (cmp xs name) (side y)) (sym (own_units name x h))
      (subst (λ ys. IsBefore (cmp (key_units x) name) (cmp ys name)) (sym (own_units name y k))
      (before_of cmp laws (key_units x) (key_units y) name (agree x y e)))

  each_before : (x : Item) (ys : List Item) → IsTrue (is_name_key x.key) → Each (λ (y : Item). IsTrue (is_name_key y.key)) ys
      → Each (λ (y : Item). name_order fold x.key y.key ≡ Less) ys → Each (λ (y : Item). IsBefore (side x.key) (side y.key)) ys
  each_before x [] h k e = tt
  each_before x (y ∷ ys) h k e = (before x.key y.key h k.0 e.0, each_before x ys h k.1 e.1)

  pub sought_rises : (items : List Item) → Each (λ (x : Item). IsTrue (is_name_key x.key)) items → Ascends (name_order fold) items
      → Rises (λ key. cmp (sought_units name key) name) items
  sought_rises [] h a = tt
  sought_rises (x ∷ items) h a = (each_before x items h.0 h.1 a.0, sought_rises items h.1 a.1)

exact_agrees : (fold : ℕ → ℕ) (x y : List ℕ) → name_order fold x y ≡ Less → compare_units fold (key_units x) (key_units y) ≢ Greater
unfolding name_order
exact_agrees fold x y e = less_not_greater (compare_units fold (key_units x) (key_units y)) e

folded_agrees : (fold : ℕ → ℕ) (x y : List ℕ) → name_order fold x y ≡ Less → by_fold fold (key_units x) (key_units y) ≢ Greater
unfolding fold_order
folded_agrees fold x y e = name_fold fold x y e

module _ (fold : ℕ → ℕ) (name : List ℕ) (items : List Item) (keys : Each (λ (x : Item). IsTrue (is_name_key x.key)) items)
    (ascending : Ascends (name_order fold) items) where
  pub exact_rises : Rises (λ key. exact_order fold name key []) items
  unfolding exact_order
  exact_rises = sought_rises fold (compare_units fold) (units_total fold) (exact_agrees fold) name items keys ascending

  pub folded_rises : Rises (λ key. folded_order fold name key []) items
  unfolding folded_order
  folded_rises = sought_rises fold (by_fold fold) (by_fold_total fold) (folded_agrees fold) name items keys ascending
