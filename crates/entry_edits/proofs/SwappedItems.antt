-- AN ITEM IN THE PLACE OF ONE with the same name, in a list of items that ascend.
use Rattle.std.proofs.Common.{◌≡◌, ◌+◌, ◌*◌, ◌&&◌, nat_le, ℕ, List, [], ◌∷◌, ◌++◌, length, sym, ap, subst, inl, inr, ◌∙◌}
use Rattle.std.specs.Prelude.{Contains, slice_index}
use Rattle.std.specs.declared.cmp.Ordering.{Ordering}
use Rattle.std.specs.declared.cmp.Ordering.TheVariants.{Less, Equal}
use Rattle.ntfs_def.specs.FileName.{is_name_key, key_units, link_of, name_in, unit_count}
use Rattle.ntfs_def.specs.IndexTree.{Ascends, Each}
use Rattle.ntfs_def.specs.KeyOrder.{compare_units, name_order}
use Rattle.ntfs_def.specs.Node.{Item}
use Rattle.list_laws.proofs.MemberLaws.{Contains-cases, Contains-nil}
use Rattle.dir_index.specs.Edit.{IsAt}

less-equal : Less ≡ Equal → ⊥
less-equal e = cc

-- what each item has, one among them has
Each-contains : (P : Item → Type 0) (xs : List Item) (x : Item) → Each P xs → Contains xs x → P x
Each-contains P [] x h c = absurd (Contains-nil x c)
Each-contains P (y ∷ ys) x h c = elim (Contains-cases y ys x c) [
  | inl same ↦ subst P same h.0
  | inr later ↦ Each-contains P ys x h.1 later
]

-- items that ascend have no two of one key
pub one-of-key : (order : List ℕ → List ℕ → Ordering) (xs : List Item) (a b : Item) → Ascends order xs → Contains xs a → Contains xs b
    → order a.key b.key ≡ Equal → order b.key a.key ≡ Equal → a ≡ b
one-of-key order [] a b h c d e g = absurd (Contains-nil a c)
one-of-key order (x ∷ xs) a b h c d e g = elim (Contains-cases x xs a c) [
  | inl same ↦ elim (Contains-cases x xs b d) [
    | inl other ↦ sym same ∙ other
    | inr later ↦ absurd (less-equal (sym (subst (λ (y : Item). order y.key b.key ≡ Less) same
        (Each-contains (λ (y : Item). order x.key y.key ≡ Less) xs b h.0 later)) ∙ e))
  ]
  | inr first ↦ elim (Contains-cases x xs b d) [
    | inl other ↦ absurd (less-equal (sym (subst (λ (y : Item). order y.key a.key ≡ Less) other
        (Each-contains (λ (y : Item). order x.key y.key ≡ Less) xs a h.0 first)) ∙ g))
    | inr later ↦ one-of-key order xs a b h.1 first later e g
  ]
]

-- an item among them, with what stands before and behind it
pub item-at : (order : List ℕ → List ℕ → Ordering) (key : List ℕ) (xs : List Item) (x : Item) → Contains xs x → order x.key key ≡ Equal
    → IsAt order key xs x
item-at order key [] x c e = absurd (Contains-nil x c)
item-at order key (y ∷ ys) x c e = elim (Contains-cases y ys x c) [
  | inl same ↦ record { front = []; back = ys; whole = ap (λ z. z ∷ ys) same; equal = e }
  | inr later ↦
      let at = item-at order key ys x later e in
      record { front = y ∷ at.front; back = at.back; whole = ap (λ zs. y ∷ zs) at.whole; equal = e }
]

-- one that is compared as it, in its place
pub ascends-swapped : (order : List ℕ → List ℕ → Ordering) (front back : List Item) (was now : Item)
    → ((key : List ℕ) → order now.key key ≡ order was.key key) → ((key : List ℕ) → order key now.key ≡ order key was.key)
    → Ascends order (front ++ (was ∷ back)) → Ascends order (front ++ (now ∷ back))
ascends-swapped order [] back was now left right h = (below back h.0, h.1)
  where
    below : (xs : List Item) → Each (λ (y : Item). order was.key y.key ≡ Less) xs → Each (λ (y : Item). order now.key y.key ≡ Less) xs
    below [] k = tt
    below (y ∷ ys) k = (left y.key ∙ k.0, below ys k.1)
ascends-swapped order (x ∷ front) back was now left right h = (above front h.0, ascends-swapped order front back was now left right h.1)
  where
    above : (xs : List Item) → Each (λ (y : Item). order x.key y.key ≡ Less) (xs ++ (was ∷ back))
        → Each (λ (y : Item). order x.key y.key ≡ Less) (xs ++ (now ∷ back))
    above [] k = (right x.key ∙ k.0, k.1)
    above (y ∷ ys) k = (k.0, above ys k.1)

-- THE SAME NAME, whatever the keys say beside it
pub units-same : (was now : Item) → link_of now ≡ link_of was → key_units now.key ≡ key_units was.key
unfolding name_in
units-same was now e = ap (λ link. link.name.units) e

pub order-left : (fold : ℕ → ℕ) (was now : Item) → link_of now ≡ link_of was → (key : List ℕ)
    → name_order fold now.key key ≡ name_order fold was.key key
unfolding name_order
order-left fold was now e key = ap (λ units. compare_units fold units (key_units key)) (units-same was now e)

pub order-right : (fold : ℕ → ℕ) (was now : Item) → link_of now ≡ link_of was → (key : List ℕ)
    → name_order fold key now.key ≡ name_order fold key was.key
unfolding name_order
order-right fold was now e key = ap (λ units. compare_units fold (key_units key) units) (units-same was now e)

-- a key that is as long, with as many units, is a name where the other is
pub name-same : (was now : List ℕ) → length now ≡ length was → slice_index now 0x40 ≡ slice_index was 0x40
    → is_name_key now ≡ is_name_key was
name-same was now long count =
    ap (λ n. nat_le 0x42 n && nat_le 1 (unit_count now) && nat_le (0x42 + 2 * unit_count now) n) long
    ∙ ap (λ n. nat_le 0x42 (length was) && nat_le 1 n && nat_le (0x42 + 2 * n) (length was)) count
