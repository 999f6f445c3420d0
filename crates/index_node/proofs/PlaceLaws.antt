-- What a place in a node gives: what stands there, and its number among the entries.
use Rattle.std.proofs.Common.{◌≡◌, ◌<◌, true, length, arith, ap, sym, ◌∙◌, subst}
use Rattle.ntfs_def.specs.Node.{Entry, IsWholeEntry, child_at, child_from, entry_at, is_entry}
use Rattle.index_node.specs.View.{node_of_view}
use Rattle.index_node.specs.declared.Place.{Place}
use Rattle.index_node.proofs.NodeLaws.{child_from-entries_from, get_or-entries_from, length-entries_from, place_whole}
use Rattle.std.proofs.Common.{get_or}

module _ (place : Place) where
  pub there : IsWholeEntry place.view.node.now place.view.children place.view.end place.at
  there =
      let view = place.view in
      subst (IsWholeEntry view.node.now view.children view.end) (sym place.stands)
      (place_whole view.form view.node.now view.children view.end view.first view.count view.each view.last place.number place.within)

  pub count_is : length (node_of_view place.view).entries ≡ place.view.count
  unfolding node_of_view
  count_is = let view = place.view in length-entries_from view.node.now view.children view.first view.count

  pub key_there : place.number < length (node_of_view place.view).entries
      → is_entry place.view.form place.view.node.now place.view.children place.view.end place.at ≡ true
  key_there inside =
      let view = place.view in
      ap (is_entry view.form view.node.now view.children view.end) place.stands
      ∙ view.each place.number (omega (arith, count_is, inside))

  pub entry_there : place.number < length (node_of_view place.view).entries → (d : Entry)
      → entry_at place.view.node.now place.view.children place.at ≡ get_or (node_of_view place.view).entries place.number d
  unfolding node_of_view
  entry_there inside d =
      let view = place.view in
      let all = length-entries_from view.node.now view.children view.first view.count in
      ap (entry_at view.node.now view.children) place.stands
      ∙ sym (get_or-entries_from view.node.now view.children view.first view.count place.number d (omega (arith, all, inside)))

  pub child_there : child_at place.view.node.now place.view.children place.at
      ≡ child_from (node_of_view place.view).entries (node_of_view place.view).last place.number
  unfolding node_of_view
  child_there =
      let view = place.view in
      ap (child_at view.node.now view.children) place.stands
      ∙ sym (child_from-entries_from view.node.now view.children view.first view.count place.number place.within)
