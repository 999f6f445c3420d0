-- What a place of a view says is said of the node.
use Rattle.std.proofs.Common.{◌≡◌, ℕ, List, Option, None, Some, Bool, get_or, subst, sym}
use Rattle.std.specs.Option.{option_or}
use Rattle.ntfs_def.specs.Node.{Entry, Item, child_from}
use Rattle.index_node.specs.View.{node_of_view}
use Rattle.index_node.specs.declared.NodeView.{NodeView}
use Rattle.index_tree.specs.Search.{Picks}

module _ (view node : NodeView) (is : view ≡ node) (i : ℕ) where
  pub item_in_node : (item : Item) → ((d : Entry) → item ≡ (get_or (node_of_view view).entries i d).item)
      → (d : Entry) → item ≡ (get_or (node_of_view node).entries i d).item
  item_in_node item h = subst (λ v. (d : Entry) → item ≡ (get_or (node_of_view v).entries i d).item) is h

  pub child_in : (child : Option ℕ) → child ≡ child_from (node_of_view view).entries (node_of_view view).last i
      → child ≡ child_from (node_of_view node).entries (node_of_view node).last i
  child_in child h = subst (λ v. child ≡ child_from (node_of_view v).entries (node_of_view v).last i) is h

  pub picks_in : (hit : Bool) (here : Option (List ℕ)) → Picks None hit (node_of_view view).entries i here
      → Picks None hit (node_of_view node).entries i here
  picks_in hit here h = subst (λ v. Picks None hit (node_of_view v).entries i here) is h

-- what was found below wins over what is hit here
pub picks_or : (below here found : Option (List ℕ)) (hit : Bool) (entries : List Entry) (i : ℕ) → Picks None hit entries i here
    → found ≡ option_or below here → Picks below hit entries i found
picks_or (Some entry) here found hit entries i h e = e
picks_or None here found hit entries i h e = subst (Picks None hit entries i) (sym e) h
