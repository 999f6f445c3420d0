-- THE INDEX OF A DIRECTORY where an item went out of a leaf of it.
use Rattle.std.proofs.Common.{◌≡◌, ◌<◌, ◌≤◌, ℕ, Bool, true, false, cond, List, Some, None, refl, sym, ap, subst, ◌∙◌, inl, inr, suc}
use Rattle.std.specs.Prelude.{IsSome, IsTrue}
use Rattle.std.specs.Option.{option_and_then}
use Rattle.std.proofs.lemmas.Bool.{cases_Bool}
use Rattle.list_laws.proofs.OptionLaws.{none_other}
use Rattle.vol_bytes.specs.Field.{u32_at}
use Rattle.ntfs_def.specs.FileName.{is_name_key}
use Rattle.ntfs_def.specs.Fixup.{opened_of}
use Rattle.ntfs_def.specs.IndexTree.{Ascends, Walks, spread_items, spread_times}
use Rattle.ntfs_def.specs.KeyOrder.{name_order}
use Rattle.ntfs_def.specs.Node.{Item, short_node}
use Rattle.ntfs_def.specs.declared.index.NodeForm.TheVariants.{Names}
use Rattle.ntfs_def.specs.declared.kinds.TheConstants.{FILE_NAME}
use Rattle.volume_def.specs.CaseClause.{volume_fold}
use Rattle.volume_def.specs.IndexesClause.{HasIndex, IndexParts, IsIndexRecordAt, index_nodes, name_rule, stored_index_record}
use Rattle.volume_def.specs.Table.{cluster_bytes}
use Rattle.volume_def.specs.Values.{spot_at}
use Rattle.volume_def.specs.View.{VolumeView}
use Rattle.volume_edits.specs.Clusters.{ChangesStream}
use Rattle.volume_edits.specs.Owners.{HasOwners}
use Rattle.index_tree.specs.Edit.{short_nodes}
use Rattle.index_tree.specs.Remove.{CutsKey}
use Rattle.index_tree.proofs.MovedWalks.{SaysAt, spread_there, walks_moved}
use Rattle.entry_edits.specs.IndexRecords.{index_record_on, is_index_record_at}
use Rattle.entry_edits.proofs.IndexRecordLaws.{records-of}
use Rattle.tree_model.specs.IndexRoom.{directory_index, index_depth}
use Rattle.tree_model.specs.LeafRoom.{names_of_directory}
use Rattle.tree_model.proofs.IndexRoomLaws.{depth-walk}
use Rattle.edit_def.specs.Items.{HasItems}
use Rattle.index_puts.proofs.HeldLaws.{bytes-there}
use Rattle.index_puts.proofs.PutItems.{all-of, parts-now, same-fold, size}
use Rattle.index_takes.specs.Leaf.{TakenUnder}

module _ (old new : VolumeView) (dir : ℕ) (owners : HasOwners old)
    (changes : ChangesStream old new (spot_at (names_of_directory old dir).records)) (some : 0 < cluster_bytes old.layout) where
  abbrev parts : IndexParts
  parts = names_of_directory old dir

  -- its records: each number that the walk meets has one
  record-by : (vcn : ℕ) (b : Bool) → is_index_record_at new parts vcn ≡ b
      → index_record_on new parts vcn ≡ cond b (Some (opened_of (stored_index_record new parts vcn))) None
  record-by vcn b e = ap (λ b. cond b (Some (opened_of (stored_index_record new parts vcn))) None) e

  says : (vcn : ℕ) → SaysAt (short_nodes Names (index_record_on new parts)) (index_nodes Names new parts) vcn
  unfolding index_nodes
  says vcn node e = elim (cases_Bool (is_index_record_at new parts vcn)) [
    | inl has_one ↦ sym (ap (option_and_then (short_node Names)) (record-by vcn true has_one)) ∙ e
    | inr has_none ↦ absurd (none_other (sym (ap (option_and_then (short_node Names)) (record-by vcn false has_none)) ∙ e))
  ]

  -- the items that it had, and what went out of its tree
  module _ (was : List Item) (h : HasItems old dir was) (key : List ℕ)
      (taken : TakenUnder (name_order (volume_fold old)) is_name_key (short_nodes Names (index_record_on new parts)) h.index.walks.depth
      h.index.walks.s key h.index.root_node) where
    abbrev has : HasIndex Names (name_rule old) old parts was
    has = h.index

    abbrev pub now : List Item
    now = spread_items has.walks.depth taken.s'

    met : (vcn : ℕ) → 1 ≤ spread_times vcn has.walks.depth taken.s' → IsIndexRecordAt new parts vcn
    met vcn times =
        let node = spread_there (short_nodes Names (index_record_on new parts)) vcn has.walks.depth taken.s' times
        taken.index.holds.stored in
        let bytes = bytes-there (index_record_on new parts) vcn node.0 node.1 in
        (records-of new parts (size old new dir owners changes some)).only vcn (subst IsSome (sym bytes.1) refl)

    abbrev short_walk : Walks (short_nodes Names (index_record_on new parts)) has.root_node now
    short_walk = record {
      depth = has.walks.depth;
      small = has.walks.small;
      s = taken.s';
      holds = taken.index.holds;
      is = refl;
    }

    abbrev index-now : HasIndex Names (name_rule new) new parts now
    index-now = record {
      root = has.root;
      is_root = has.is_root;
      collation = has.collation;
      record_size = has.record_size;
      plain = has.plain;
      plain_bits = has.plain_bits;
      written = has.written;
      root_node = has.root_node;
      says = has.says;
      walks = walks_moved (short_nodes Names (index_record_on new parts)) (index_nodes Names new parts) has.root_node now short_walk
          (λ vcn times. says vcn);
      each = λ vcn times. met vcn times;
      keys = all-of (λ (x : Item). IsTrue (is_name_key x.key)) now taken.index.keys;
      ascending = subst (λ f. Ascends (name_order f) now) (sym (same-fold old new dir owners changes)) taken.index.ascends;
    }

    index-moved : (other : IndexParts) → other ≡ parts
        → (g : HasIndex Names (name_rule new) new other now) × (g.root ≡ has.root) × (g.walks.depth ≡ has.walks.depth)
    index-moved other same =
        subst (λ (i : IndexParts). (g : HasIndex Names (name_rule new) new i now) × (g.root ≡ has.root) × (g.walks.depth ≡ has.walks.depth))
        (sym same) (index-now, refl, refl)

    pub items-now : HasItems new dir now
    items-now =
        let g = index-moved (names_of_directory new dir) (parts-now old new dir owners changes) in
        record { index = g.0; kind = subst (λ root. u32_at root 0x00 ≡ FILE_NAME) (sym g.1) h.kind }

    -- it is as deep as it was
    pub depth-now : index_depth new (directory_index dir) ≡ index_depth old (directory_index dir)
    depth-now =
        let g = index-moved (names_of_directory new dir) (parts-now old new dir owners changes) in
        depth-walk new (directory_index dir) (name_rule new) now g.0 ∙ ap suc g.2
        ∙ sym (depth-walk old (directory_index dir) (name_rule old) was has)

    pub cut-now : CutsKey (name_order (volume_fold old)) key was now
    cut-now = subst (λ items. CutsKey (name_order (volume_fold old)) key items now) (sym has.walks.is) taken.cut
