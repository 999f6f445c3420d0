-- The names in a new volume's directories ascend, by each folding that agrees with the table of case on ASCII.
use Rattle.std.proofs.Common.{◌≡◌, ℕ, ◌<◌, Bool, true, List, [], ◌∷◌, map, refl, ap, ◌∙◌}
use Rattle.std.specs.Prelude.{nat_lt}
use Rattle.std.specs.List.{list_all}
use Rattle.std.specs.Ordering.{then_cmp}
use Rattle.std.proofs.lemmas.Bool.{and_parts, ltb-true}
use Rattle.std.specs.declared.cmp.Ordering.TheVariants.{Less}
use Rattle.ntfs_def.specs.FileName.{key_units}
use Rattle.ntfs_def.specs.IndexTree.{Ascends, Each}
use Rattle.ntfs_def.specs.KeyOrder.{by_numbers, compare_units, name_order}
use Rattle.ntfs_def.specs.Node.{Item}
use Rattle.ntfs_def.specs.Units.{units_at}
use Rattle.volume_format.specs.Items.{case_of}
use Rattle.volume_format.specs.IndexItems.{extend_items, root_items}
use Rattle.volume_format.proofs.Tested.{Ascends-tested, is_ascending}

-- two foldings that agree on ASCII
abbrev pub AgreeOnAscii : (ℕ → ℕ) → (ℕ → ℕ) → Type 0
AgreeOnAscii f g = (unit : ℕ) → unit < 128 → f unit ≡ g unit

abbrev pub are_ascii : List ℕ → Bool
are_ascii units = list_all (λ unit. nat_lt unit 128) units

abbrev is_ascii : Item → Bool
is_ascii item = are_ascii (key_units item.key)

module _ (f g : ℕ → ℕ) (agree : AgreeOnAscii f g) where
  map-same : (units : List ℕ) → are_ascii units ≡ true → map f units ≡ map g units
  map-same [] ascii = refl
  map-same (u ∷ us) ascii =
      let pair = and_parts (nat_lt u 128) (are_ascii us) ascii in
      ap (λ v. v ∷ map f us) (agree u (ltb-true u 128 pair.0)) ∙ ap (λ vs. g u ∷ vs) (map-same us pair.1)

  -- they compare names of ASCII alike
  pub units-same : (a b : List ℕ) → are_ascii a ≡ true → are_ascii b ≡ true → compare_units f a b ≡ compare_units g a b
  units-same a b ascii_a ascii_b =
      ap (λ xs. then_cmp (λ x y. by_numbers xs (map f b)) by_numbers a b) (map-same a ascii_a)
      ∙ ap (λ ys. then_cmp (λ x y. by_numbers (map g a) ys) by_numbers a b) (map-same b ascii_b)

  order-same : (a b : Item) → is_ascii a ≡ true → is_ascii b ≡ true → name_order f a.key b.key ≡ name_order g a.key b.key
  unfolding name_order
  order-same a b ascii_a ascii_b = units-same (key_units a.key) (key_units b.key) ascii_a ascii_b

  each-same : (x : Item) (ys : List Item) → is_ascii x ≡ true → list_all is_ascii ys ≡ true
      → Each (λ (y : Item). name_order g x.key y.key ≡ Less) ys → Each (λ (y : Item). name_order f x.key y.key ≡ Less) ys
  each-same x [] ascii all each = tt
  each-same x (y ∷ ys) ascii all each =
      let pair = and_parts (is_ascii y) (list_all is_ascii ys) all in
      (order-same x y ascii pair.0 ∙ each.0, each-same x ys ascii pair.1 each.1)

  ascends-same : (xs : List Item) → list_all is_ascii xs ≡ true → Ascends (name_order g) xs → Ascends (name_order f) xs
  ascends-same [] all up = tt
  ascends-same (x ∷ xs) all up =
      let pair = and_parts (is_ascii x) (list_all is_ascii xs) all in
      (each-same x xs pair.0 pair.1 up.0, ascends-same xs pair.1 up.1)

-- the names are of ASCII, and ascend by the table of case
root-ascii : list_all is_ascii root_items ≡ true
unfolding units_at
root-ascii = refl

extend-ascii : list_all is_ascii extend_items ≡ true
unfolding units_at
extend-ascii = refl

root-ascends : is_ascending (name_order case_of) root_items ≡ true
unfolding name_order units_at
root-ascends = refl

extend-ascends : is_ascending (name_order case_of) extend_items ≡ true
unfolding name_order units_at
extend-ascends = refl

module _ (fold : ℕ → ℕ) (agree : AgreeOnAscii fold case_of) where
  pub root-by : Ascends (name_order fold) root_items
  root-by = ascends-same fold case_of agree root_items root-ascii (Ascends-tested (name_order case_of) root_items root-ascends)

  pub extend-by : Ascends (name_order fold) extend_items
  extend-by = ascends-same fold case_of agree extend_items extend-ascii (Ascends-tested (name_order case_of) extend_items extend-ascends)
