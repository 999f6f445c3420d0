-- An item that goes out of a root without children: the index, which has no records, has all others.
use Rattle.std.proofs.Common.{◌≡◌, ℕ, zero, suc, ◌<◌, Bool, true, List, [], drop, None, length, refl, sym, ap, subst, ◌∙◌, arith}
use Rattle.std.specs.Prelude.{IsTrue, slice_index_or}
use Rattle.std.specs.declared.cmp.Ordering.{Ordering}
use Rattle.std.proofs.lemmas.List.{length-map}
use Rattle.list_laws.proofs.OptionLaws.{none_other}
use Rattle.ntfs_def.specs.IndexTree.{Nodes, Spread, Tree, child_of, entry_of, items_of, node_of, spread_items}
use Rattle.ntfs_def.specs.Node.{Item, Node}
use Rattle.index_node.specs.Edit.{child_of_node, without_entry}
use Rattle.index_node.specs.Seek.{IsPlace, StartsAt}
use Rattle.index_tree.specs.Edit.{IsSortedIndex}
use Rattle.index_tree.specs.Remove.{CutsAt, CutsKey}
use Rattle.index_tree.proofs.EditSpreads.{child_below}
use Rattle.index_tree.proofs.OrderLaws.{IsOrder}
use Rattle.index_tree.proofs.RemoveCalls.{hit_equal}
use Rattle.index_tree.proofs.RemoveSpreads.{gone, joined_cut, joined_node, joined_spread, joined_stored, joined_times}
use Rattle.index_tree.proofs.RemoveSteps.{hit_within}
use Rattle.index_takes.specs.Leaf.{TakenUnder}
use Rattle.index_takes.proofs.TakeLaws.{ascends-cut, each-cut, joined-leaf, nothing}

-- a node of leaves leads nowhere
childless : (depth : ℕ) (s : Spread (Tree depth)) → (node_of depth s).last ≡ None → (j : ℕ) → child_of_node (node_of depth s) j ≡ None
childless zero s last j = child_below (child_of zero) s.branches s.last j
childless (suc depth) s last j = absurd (none_other (sym last))

empty : (depth : ℕ) (s : Spread (Tree depth)) → (node_of depth s).last ≡ None → (t : Tree depth) → items_of depth t ≡ []
empty zero s last t = refl
empty (suc depth) s last t = absurd (none_other (sym last))

module _ (order : List ℕ → List ℕ → Ordering) (valid : List ℕ → Bool) (laws : IsOrder order) (nodes : Nodes) (key : List ℕ) (depth : ℕ)
    (s : Spread (Tree depth)) (root : Node) (index : IsSortedIndex order valid nodes depth s root) (last : root.last ≡ None) (i : ℕ)
    (place : IsPlace (λ x. order x key) root.entries i true) where
  within-root : i < length root.entries
  within-root = hit_within (λ x. order x key) root.entries i place.there

  within : i < length s.branches
  within =
      let w = within-root in
      let e = ap (λ (n : Node). length n.entries) index.holds.node in
      omega (arith, w, e, length-map s.branches (entry_of depth))

  no-last : (node_of depth s).last ≡ None
  no-last = ap (λ (n : Node). n.last) index.holds.node ∙ last

  abbrev left : Spread (Tree depth)
  left = joined_spread nodes depth s index.holds.stored index.holds.once i within

  node-is : node_of depth left ≡ without_entry root i
  node-is =
      joined_node nodes depth s index.holds.stored index.holds.once i within
      ∙ joined-leaf (node_of depth s) i (subst (λ (n : Node). i < length n.entries) (sym index.holds.node) within-root)
      (childless depth s no-last i) (childless depth s no-last (suc i))
      ∙ ap (λ n. without_entry n i) index.holds.node

  cut : CutsAt (node_of depth s) i (spread_items depth s) (spread_items depth left)
  cut = joined_cut nodes depth s index.holds.stored index.holds.once i within
      (empty depth s no-last (gone nodes depth s index.holds.stored index.holds.once i within))

  cuts : CutsKey order key (spread_items depth s) (spread_items depth left)
  cuts = record {
    gone = (slice_index_or (node_of depth s).entries i nothing).item;
    equal = hit_equal (λ x. order x key) (node_of depth s).entries i nothing
        (subst (λ (n : Node). StartsAt (λ x. order x key) (drop i n.entries) true) (sym index.holds.node) place.there);
    cut = cut nothing;
  }

  pub take_in_root : TakenUnder order valid nodes depth s key (without_entry root i)
  take_in_root =
      let old = spread_items depth s in
      let new = spread_items depth left in
      record {
        s' = left;
        index = record {
          holds = record {
            node = node-is;
            stored = joined_stored nodes depth s index.holds.stored index.holds.once i within;
            once = λ p.
                let all = joined_times nodes depth s index.holds.stored index.holds.once i within p in
                let one = index.holds.once p in
                omega (arith, all, one);
          };
          keys = each-cut (λ (x : Item). IsTrue (valid x.key)) cuts.gone old new cuts.cut index.keys;
          ascends = ascends-cut order laws cuts.gone old new cuts.cut index.ascends;
        };
        cut = cuts;
      }
