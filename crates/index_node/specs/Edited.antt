-- What a node shows that is edited.
use Rattle.std.specs.Prelude.{ℕ, List}
use Rattle.std.specs.Borrow.{GName}
use Rattle.ntfs_def.specs.declared.index.NodeForm.{NodeForm}
use Rattle.index_node.specs.declared.node_mut.NodeMut.{NodeMut}

-- its bytes, and what its entries are
abbrev pub edited_bytes : NodeMut → List ℕ
edited_bytes edited = edited.node.now

abbrev pub edited_form : NodeMut → NodeForm
edited_form edited = edited.form

-- the reference by which they are borrowed
abbrev pub reference_of : NodeMut → GName
reference_of edited = edited.node.ghost_name
