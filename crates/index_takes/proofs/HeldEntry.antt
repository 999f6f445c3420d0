-- A directory that is held while an entry is to go out of its index: whether the leaf of a key has it beside another one.
use Rattle.std.proofs.Common.{◌≡◌, ◌<◌, ℕ, false, List, Option, Some, None, refl, ap, subst, ◌∙◌}
use Rattle.std.specs.Prelude.{codes}
use Rattle.std.specs.Option.{option_and_then, option_map_or}
use Rattle.std.specs.declared.cmp.Ordering.{Ordering}
use Rattle.ntfs_def.specs.FileName.{key_units}
use Rattle.ntfs_def.specs.Fixup.{opened_of}
use Rattle.ntfs_def.specs.KeyOrder.{name_order}
use Rattle.ntfs_def.specs.Node.{Item, short_node}
use Rattle.ntfs_def.specs.Units.{wide}
use Rattle.ntfs_def.specs.declared.index.NodeForm.TheVariants.{Names}
use Rattle.volume_def.specs.CaseClause.{volume_fold}
use Rattle.volume_def.specs.IndexesClause.{IndexParts, stored_index_record}
use Rattle.volume_def.specs.Table.{cluster_bytes}
use Rattle.volume_def.specs.View.{VolumeView}
use Rattle.index_tree.specs.Edit.{short_nodes}
use Rattle.file_record.specs.declared.parts.FileParts.{FileParts}
use Rattle.file_record.specs.Held.{file_number}
use Rattle.entry_edits.specs.FoundIndex.{FoundIndex}
use Rattle.entry_edits.specs.Index.{IsFound, index_held}
use Rattle.entry_edits.specs.IndexBlocks.{records_found}
use Rattle.tree_model.specs.LeafRoom.{leaf_of, record_at}
use Rattle.index_puts.specs.Held.{IsHeldWith}
use Rattle.index_puts.proofs.HeldLaws.{bytes-there, record-is, same-index, same-leaf}
use Rattle.index_puts.proofs.LeafLaws.{leaf_of-said}
use Rattle.index_takes.specs.Leaf.{entry_under}
use Rattle.tree_model.specs.LeafEntry.{has_entry_beside, has_leaf_entry}

module _ (view : VolumeView) (file : FileParts) (table : List ℕ) (items : List Item) (held : IsHeldWith view file table items)
    (some : 0 < cluster_bytes view.layout) (index : FoundIndex) (found : IsFound file index) (named : index.name.now ≡ wide (codes "$I30"))
    (key : List ℕ) where
  abbrev side : List ℕ → Ordering
  side other = name_order (volume_fold view) other key

  abbrev records : ℕ → Option (List ℕ)
  records = records_found view file index

  entry-by : (leaf : Option ℕ) → leaf_of side (short_nodes Names records) (short_node Names index.root.now) ≡ leaf
      → option_map_or (has_entry_beside side) (option_and_then records leaf) false
      ≡ option_map_or (λ vcn. has_entry_beside side (record_at view (file_number file) vcn)) leaf false
  entry-by None is = refl
  entry-by (Some vcn) is =
      let node = leaf_of-said side (short_nodes Names records) (short_node Names index.root.now) vcn is in
      let bytes = bytes-there records vcn node.said node.is in
      let at : records vcn ≡ Some (record_at view (file_number file) vcn) =
      subst (λ (i : IndexParts). records vcn ≡ Some (opened_of (stored_index_record view i vcn)))
      (same-index view file table items held some index found named)
      (record-is view (index_held file index.name.now) vcn bytes.0 bytes.1) in
      ap (λ o. option_map_or (has_entry_beside side) o false) at

  -- it has it exactly where the volume says so
  pub same-entry : entry_under side records (short_node Names index.root.now) ≡ has_leaf_entry view (file_number file) (key_units key)
  unfolding has_leaf_entry name_order
  same-entry =
      entry-by (leaf_of side (short_nodes Names records) (short_node Names index.root.now)) refl
      ∙ ap (λ leaf. option_map_or (λ vcn. has_entry_beside side (record_at view (file_number file) vcn)) leaf false)
      (same-leaf view file table items held some index found named key)
