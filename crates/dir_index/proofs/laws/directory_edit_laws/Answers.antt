use Rattle.std.proofs.Common.{ℕ, List, subst, sym}
use Rattle.ntfs_def.specs.FileName.{is_name_key}
use Rattle.ntfs_def.specs.KeyOrder.{fold_of, name_order}
use Rattle.ntfs_def.specs.Node.{short_node}
use Rattle.ntfs_def.specs.declared.index.NodeForm.TheVariants.{Names}
use Rattle.index_store.specs.Edit.{HasSortedIndex, IsAt, short_nodes}
use Rattle.index_store.specs.IndexRecords.{index_record_on}
use Rattle.dir_index.specs.Replaced.{HasSwapped, ReplacesItem}
use Rattle.dir_index.proofs.HeldIndex.{has_sorted, items_swapped}
use Rattle.dir_index.proofs.laws.directory_edit_laws.Goals as goal

pub returns-clause-can_edit : goal.returns-clause-can_edit
returns-clause-can_edit c view dir table root records held =
    subst (λ (t : List ℕ). HasSortedIndex (name_order (fold_of t)) is_name_key (short_nodes Names records) (short_node Names root) 15)
    (sym held.case) (has_sorted view dir table root records held held.directory)

pub returns-clause-replaced : goal.returns-clause-replaced
returns-clause-replaced c view new dir index table root next item held replaces has x at len =
    let did = subst (λ (t : List ℕ). ReplacesItem (name_order (fold_of t)) is_name_key view new index root next item) held.case replaces in
    subst (λ (t : List ℕ). HasSwapped (name_order (fold_of t)) (index_record_on new index) next item has.items) (sym held.case)
    (items_swapped view dir table root (index_record_on view index) held has (index_record_on new index) next item did.is x
    (subst (λ (t : List ℕ). IsAt (name_order (fold_of t)) item.key has.items x) held.case at) len)
