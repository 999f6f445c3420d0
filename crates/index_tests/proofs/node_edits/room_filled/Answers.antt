use Rattle.std.proofs.Common.{ℕ, List, refl, sym, subst}
use Rattle.std.specs.Prelude.{IsTrue}
use Rattle.ntfs_def.specs.Node.{has_children, is_entry, is_one_entry, node_header}
use Rattle.ntfs_def.specs.declared.index.NodeForm.{NodeForm}
use Rattle.index_node.specs.Edited.{edited_form}
use Rattle.index_tests.specs.declared.node_edits.TheConstants.{LEAF, ENTRY}
use Rattle.index_tests.proofs.node_edits.room_filled.Goals as goal

pub insert_at-requires-clause-one : goal.insert_at-requires-clause-one
unfolding is_entry node_header
insert_at-requires-clause-one g c =
    subst (λ (bytes : List ℕ). IsTrue (is_one_entry (edited_form c.in_ok-edited.edited) (has_children bytes) ENTRY)) (sym
    c.in_ok-edited.ensures.ok)
    (subst (λ (form : NodeForm). IsTrue (is_one_entry form (has_children LEAF) ENTRY)) (sym c.in_ok-edited.ensures.form) refl)
