-- ITEMS OF LEAVES: how often items that pass a test stand in leaves of a tree, and how often in nodes with children; and that the search
-- for a key ends in a leaf of the tree.
use Rattle.std.proofs.Common.{◌≡◌, ◌+◌, ◌≤◌, ◌&&◌, ◌||◌, Bool, true, false, ℕ, zero, suc, map, List, [], ◌∷◌, ◌++◌, Some}
use Rattle.std.proofs.Common.{append-nil, refl, sym, ap, ◌∙◌, arith}
use Rattle.std.proofs.lemmas.List.Folds.{list_any-append}
use Rattle.std.specs.List.{filter_map, flat_map, list_any}
use Rattle.std.specs.Option.{option_and_then, option_map_or, option_to_list}
use Rattle.std.specs.Prelude.{count_by, is_some}
use Rattle.std.specs.declared.cmp.Ordering.{Ordering}
use Rattle.std.specs.declared.cmp.Ordering.TheVariants.{Equal, Greater, Less}
use Rattle.list_laws.proofs.FindLaws.{count-cons, count-no, count-yes}
use Rattle.list_laws.proofs.OptionLaws.{none_other, some_same}
use Rattle.list_laws.proofs.SameItemsLaws.{count-append}
use Rattle.ntfs_def.specs.IndexTree.{AreStored, Branch, EachBelow, IsStored, Nodes, Spread, Tree, branch_items, branch_times, child_of}
use Rattle.ntfs_def.specs.IndexTree.{entry_of, items_of, most_depth, node_of, spread_items}
use Rattle.ntfs_def.specs.Node.{Entry, Item, Node}
use Rattle.tree_model.specs.IndexRoom.{holds_entry, nodes_under}
use Rattle.tree_model.specs.LeafEntry.{hit_beside, hits_on}
use Rattle.tree_model.specs.LeafRoom.{child_beside, child_on, leaf_of, leaf_under}
use Rattle.index_puts.proofs.LeafLaws.{leaf_step}

abbrev own_items : (d : ℕ) → List (Branch (Tree d)) → List Item
own_items d bs = map (λ (b : Branch (Tree d)). b.item) bs

-- in leaves, and in nodes with children
abbrev pub leaf_times : (Item → Bool) → (d : ℕ) → Spread (Tree d) → ℕ
leaf_times p zero s = count_by p (own_items 0 s.branches)
leaf_times p (suc d) s = branch_times (λ (t : Tree (suc d)). leaf_times p d t.spread) s.branches s.last

abbrev pub inner_times : (Item → Bool) → (d : ℕ) → Spread (Tree d) → ℕ
inner_times p zero s = 0
inner_times p (suc d) s =
    count_by p (own_items (suc d) s.branches) + branch_times (λ (t : Tree (suc d)). inner_times p d t.spread) s.branches s.last

-- ALL ITEMS of the walk stand in either.
leaf-items : (bs : List (Branch (Tree 0))) (last : Tree 0) → branch_items (items_of 0) bs last ≡ own_items 0 bs
leaf-items [] last = refl
leaf-items (b ∷ bs) last = ap (λ (xs : List Item). b.item ∷ xs) (leaf-items bs last)

both-times : (p : Item → Bool) (d : ℕ) (I L : Tree (suc d) → ℕ)
    → ((t : Tree (suc d)) → count_by p (items_of (suc d) t) ≡ I t + L t) → (bs : List (Branch (Tree (suc d)))) (last : Tree (suc d))
    → count_by p (branch_items (items_of (suc d)) bs last)
    ≡ count_by p (own_items (suc d) bs) + branch_times I bs last + branch_times L bs last
both-times p d I L each [] last = let e = each last in omega (arith, e)
both-times p d I L each (b ∷ bs) last =
    let here = each b.below in
    let rest = both-times p d I L each bs last in
    let one = count-cons p b.item (branch_items (items_of (suc d)) bs last) in
    let all = count-append p (items_of (suc d) b.below) (b.item ∷ branch_items (items_of (suc d)) bs last) in
    let own = count-cons p b.item (own_items (suc d) bs) in
    omega (arith, here, rest, one, all, own)

pub total-times : (p : Item → Bool) (d : ℕ) (s : Spread (Tree d)) → count_by p (spread_items d s) ≡ inner_times p d s + leaf_times p d s
total-times p zero s = let same = ap (count_by p) (leaf-items s.branches s.last) in omega (arith, same)
total-times p (suc d) s =
    both-times p d (λ (t : Tree (suc d)). inner_times p d t.spread) (λ (t : Tree (suc d)). leaf_times p d t.spread)
    (λ t. total-times p d t.spread) s.branches s.last

-- NODES WITH CHILDREN hold none where none is counted.
abbrev pub inner_holds : (Item → Bool) → Node → Bool
inner_holds p node = is_some node.last && holds_entry p node

abbrev children : (d : ℕ) → List (Branch (Tree d)) → Tree d → List ℕ
children d bs last = filter_map (λ (entry : Entry). entry.child) (map (entry_of d) bs) ++ option_to_list (child_of d last)

children-leaf : (bs : List (Branch (Tree 0))) (last : Tree 0) → children 0 bs last ≡ []
children-leaf [] last = refl
children-leaf (b ∷ bs) last = children-leaf bs last

own-none : (p : Item → Bool) (d : ℕ) (bs : List (Branch (Tree d))) → count_by p (own_items d bs) ≡ 0
    → list_any (λ (entry : Entry). p entry.item) (map (entry_of d) bs) ≡ false
own-none p d [] none = refl
own-none p d (b ∷ bs) none = by (own-none p d bs) (p b.item) refl
  where
    by : (count_by p (own_items d bs) ≡ 0 → list_any (λ (entry : Entry). p entry.item) (map (entry_of d) bs) ≡ false) → (x : Bool)
        → p b.item ≡ x → list_any (λ (entry : Entry). p entry.item) (map (entry_of d) (b ∷ bs)) ≡ false
    by rest true e = let c = count-yes p b.item (own_items d bs) e in absurd (omega (arith, c, none))
    by rest false e =
        let c = count-no p b.item (own_items d bs) e in
        ap (λ x. x || list_any (λ (entry : Entry). p entry.item) (map (entry_of d) bs)) e ∙ rest (omega (arith, c, none))

below-none : (h : Node → Bool) (nodes : Nodes) (found : ℕ → List Node) (d : ℕ) (I : Tree (suc d) → ℕ)
    → ((t : Tree (suc d)) → IsStored nodes (suc d) t → I t ≡ 0 → list_any h (found t.vcn) ≡ false) → (bs : List (Branch (Tree (suc d))))
    (last : Tree (suc d)) → EachBelow (IsStored nodes (suc d)) bs last → branch_times I bs last ≡ 0
    → list_any h (flat_map found (children (suc d) bs last)) ≡ false
below-none h nodes found d I each [] last stored none = ap (list_any h) (append-nil (found last.vcn)) ∙ each last stored none
below-none h nodes found d I each (b ∷ bs) last stored none =
    let rest = children (suc d) bs last in
    list_any-append h (found b.below.vcn) (flat_map found rest)
    ∙ ap (λ x. x || list_any h (flat_map found rest)) (each b.below stored.0 (omega (arith, none)))
    ∙ below-none h nodes found d I each bs last stored.1 (omega (arith, none))

pub inner-none : (p : Item → Bool) (nodes : Nodes) (levels d : ℕ) (s : Spread (Tree d)) → d ≤ levels → AreStored nodes d s
    → inner_times p d s ≡ 0 → list_any (inner_holds p) (nodes_under levels nodes (node_of d s)) ≡ false
inner-none p nodes zero zero s few stored none = refl
inner-none p nodes zero (suc d) s few stored none = absurd (omega (arith, few))
inner-none p nodes (suc levels) zero s few stored none =
    ap (λ below. list_any (inner_holds p) (flat_map (λ vcn. option_map_or (nodes_under levels nodes) (nodes vcn) []) below))
    (children-leaf s.branches s.last)
inner-none p nodes (suc levels) (suc d) s few stored none =
    let found : ℕ → List Node = λ vcn. option_map_or (nodes_under levels nodes) (nodes vcn) [] in
    let below = flat_map found (children (suc d) s.branches s.last) in
    ap (λ x. x || list_any (inner_holds p) below) (own-none p (suc d) s.branches (omega (arith, none)))
    ∙ below-none (inner_holds p) nodes found d (λ (t : Tree (suc d)). inner_times p d t.spread)
    (λ t held zero_of. ap (λ node. list_any (inner_holds p) (option_map_or (nodes_under levels nodes) node [])) held.0
    ∙ inner-none p nodes levels d t.spread (omega (arith, few)) held.1 zero_of)
    s.branches s.last stored (omega (arith, none))

-- THE SEARCH for a key: of the items that pass are those on whose side it stands. It goes by the children of the tree.
module _ (p : Item → Bool) (side : List ℕ → Ordering) (hit : (item : Item) → side item.key ≡ Equal → p item ≡ true) (nodes : Nodes) where
  hit-counted : (d : ℕ) (bs : List (Branch (Tree d))) → hits_on side (map (entry_of d) bs) ≡ true → 1 ≤ count_by p (own_items d bs)
  hit-counted d [] hits = cc
  hit-counted d (b ∷ bs) hits = by (hit-counted d bs) (side b.item.key) refl
    where
      way : (o : Ordering) → side b.item.key ≡ o → hit_beside o (hits_on side (map (entry_of d) bs)) ≡ true
      way o e = sym (ap (λ x. hit_beside x (hits_on side (map (entry_of d) bs))) e) ∙ hits

      by : (hits_on side (map (entry_of d) bs) ≡ true → 1 ≤ count_by p (own_items d bs)) → (o : Ordering) → side b.item.key ≡ o
          → 1 ≤ count_by p (own_items d (b ∷ bs))
      by rest Less e = let some = rest (way Less e) in let c = count-cons p b.item (own_items d bs) in omega (arith, some, c)
      by rest Equal e = let c = count-yes p b.item (own_items d bs) (hit b.item e) in omega (arith, c)
      by rest Greater e = let w = way Greater e in cc

  -- the child that is met, which counts no more than all
  record Met (d : ℕ) (T : Tree d → ℕ) (bs : List (Branch (Tree d))) (last : Tree d) : Type 0 where
    tree : Tree d
    stored : IsStored nodes d tree
    child : child_on side (map (entry_of d) bs) (child_of d last) ≡ child_of d tree
    few : T tree ≤ branch_times T bs last

  met : (d : ℕ) (T : Tree d → ℕ) (bs : List (Branch (Tree d))) (last : Tree d) → EachBelow (IsStored nodes d) bs last → Met d T bs last
  met d T [] last stored = record { tree = last; stored = stored; child = refl; few = omega arith }
  met d T (b ∷ bs) last stored = by (met d T bs last stored.1) (side b.item.key) refl
    where
      way : (o : Ordering) → side b.item.key ≡ o → child_on side (map (entry_of d) (b ∷ bs)) (child_of d last)
          ≡ child_beside o (child_of d b.below) (child_on side (map (entry_of d) bs) (child_of d last))
      way o e = ap (λ x. child_beside x (child_of d b.below) (child_on side (map (entry_of d) bs) (child_of d last))) e

      by : Met d T bs last → (o : Ordering) → side b.item.key ≡ o → Met d T (b ∷ bs) last
      by rest Less e =
          let few = rest.few in
          record { tree = rest.tree; stored = rest.stored; child = way Less e ∙ rest.child; few = omega (arith, few) }
      by rest Equal e = record { tree = b.below; stored = stored.0; child = way Equal e; few = omega arith }
      by rest Greater e = record { tree = b.below; stored = stored.0; child = way Greater e; few = omega arith }

  -- it ends in a leaf, which is among those that are counted
  under-counted : (levels d : ℕ) (t : Tree (suc d)) → IsStored nodes (suc d) t → suc d ≤ levels → (vcn : ℕ)
      → leaf_under side nodes levels t.vcn ≡ Some vcn → (said : Node) → nodes vcn ≡ Some said → hits_on side said.entries ≡ true
      → 1 ≤ leaf_times p d t.spread
  under-counted zero d t stored few vcn is said at hits = absurd (omega (arith, few))
  under-counted (suc levels) zero t stored few vcn is said at hits =
      let next = met 0 (λ (t : Tree 0). 0) t.spread.branches t.spread.last stored.1 in
      let here : t.vcn ≡ vcn =
      some_same (sym (leaf_step side nodes levels t.vcn (node_of 0 t.spread) stored.0
      ∙ ap (λ c. option_map_or (leaf_under side nodes levels) c (Some t.vcn)) next.child) ∙ is) in
      let node : node_of 0 t.spread ≡ said = some_same (sym stored.0 ∙ ap nodes here ∙ at) in
      hit-counted 0 t.spread.branches (ap (λ (n : Node). hits_on side n.entries) node ∙ hits)
  under-counted (suc levels) (suc d) t stored few vcn is said at hits =
      let next = met (suc d) (λ (t : Tree (suc d)). leaf_times p d t.spread) t.spread.branches t.spread.last stored.1 in
      let way = sym (leaf_step side nodes levels t.vcn (node_of (suc d) t.spread) stored.0
      ∙ ap (λ c. option_map_or (leaf_under side nodes levels) c (Some t.vcn)) next.child) ∙ is in
      let some = under-counted levels d next.tree next.stored (omega (arith, few)) vcn way said at hits in
      let less = next.few in
      omega (arith, some, less)

  pub leaf-counted : (d : ℕ) (s : Spread (Tree d)) → d ≤ most_depth → AreStored nodes d s → (vcn : ℕ)
      → leaf_of side nodes (Some (node_of d s)) ≡ Some vcn → (said : Node) → nodes vcn ≡ Some said → hits_on side said.entries ≡ true
      → 1 ≤ leaf_times p d s
  leaf-counted zero s few stored vcn is said at hits =
      let next = met 0 (λ (t : Tree 0). 0) s.branches s.last stored in
      absurd (none_other (sym (ap (option_and_then (leaf_under side nodes most_depth)) next.child) ∙ is))
  leaf-counted (suc d) s few stored vcn is said at hits =
      let next = met (suc d) (λ (t : Tree (suc d)). leaf_times p d t.spread) s.branches s.last stored in
      let way = sym (ap (option_and_then (leaf_under side nodes most_depth)) next.child) ∙ is in
      let some = under-counted most_depth d next.tree next.stored few vcn way said at hits in
      let less = next.few in
      omega (arith, some, less)
