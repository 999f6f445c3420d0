-- What a view shows, in the terms of the layout.
use Rattle.std.specs.Prelude.{◌≡◌, ℕ, List}
use Rattle.ntfs_def.specs.Node.{Node, BadAt, child_at, entries_from, entry_place, scan_node}
use Rattle.ntfs_def.specs.declared.index.NodeForm.{NodeForm}
use Rattle.index_node.specs.declared.NodeView.{NodeView}
use Rattle.index_node.specs.declared.Place.{Place}
use Rattle.index_node.specs.declared.NodeNo.{NodeNo}
use Rattle.index_node.specs.declared.NodeNo.TheVariants.{Shape, Full}

-- the bytes of the node, and what its entries are
abbrev pub bytes_of : NodeView → List ℕ
bytes_of view = view.node.now

abbrev pub form_of_view : NodeView → NodeForm
form_of_view view = view.form

-- where entry i stands
abbrev pub place_of : NodeView → ℕ → ℕ
place_of view i = entry_place view.node.now view.first i

-- the node
unfoldable pub node_of_view : NodeView → Node
node_of_view view = record {
  entries = entries_from view.node.now view.children view.first view.count;
  last = child_at view.node.now view.children (place_of view view.count);
}

-- a place in a node: the view of the node, and how many entries stand before it
abbrev pub view_of : Place → NodeView
view_of place = place.view

abbrev pub number_of : Place → ℕ
number_of place = place.number

-- why bytes are no node
abbrev pub Refuses : NodeForm → List ℕ → NodeNo → Type 0
Refuses form node (Shape at) = scan_node form node ≡ BadAt at
Refuses form node (Full need free) = ⊥
