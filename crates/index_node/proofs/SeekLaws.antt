-- What a place of a view says is said of the node.
use Rattle.std.proofs.Common.{◌≡◌, ◌<◌, ℕ, List, length, get_or, subst}
use Rattle.ntfs_def.specs.Node.{Entry}
use Rattle.index_node.specs.View.{node_of_view}
use Rattle.index_node.specs.declared.NodeView.{NodeView}

module _ (view node : NodeView) (is : view ≡ node) (i : ℕ) where
  pub less_in : i < length (node_of_view view).entries → i < length (node_of_view node).entries
  less_in h = subst (λ v. i < length (node_of_view v).entries) is h

  pub more_in : i ≡ length (node_of_view view).entries → i ≡ length (node_of_view node).entries
  more_in h = subst (λ v. i ≡ length (node_of_view v).entries) is h

  pub key_in : (key : List ℕ) → ((d : Entry) → key ≡ (get_or (node_of_view view).entries i d).item.key)
      → (d : Entry) → key ≡ (get_or (node_of_view node).entries i d).item.key
  key_in key h = subst (λ v. (d : Entry) → key ≡ (get_or (node_of_view v).entries i d).item.key) is h
