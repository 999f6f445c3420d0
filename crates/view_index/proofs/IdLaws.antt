-- The index of ids that is held: what a search by the key of an id finds is the entry of the id.
use Rattle.std.proofs.Common.{inl, inr, ◌≡◌, ◌<◌, ◌≤◌, ◌+◌, ◌*◌, ℕ, List, [], ◌∷◌, Option, Some, None, sym, ap, subst, ◌∙◌}
use Rattle.std.specs.Prelude.{Contains, codes}
use Rattle.std.specs.declared.cmp.Ordering.TheVariants.{Equal}
use Rattle.std.proofs.lemmas.List.Elements.{Contains-append_right}
use Rattle.list_laws.proofs.MemberLaws.{Contains-cases, Contains-head, Contains-nil}
use Rattle.vol_bytes.specs.Field.{u32_at}
use Rattle.ntfs_def.specs.IndexTree.{Each, most_depth}
use Rattle.ntfs_def.specs.KeyOrder.{id_order, is_id_key}
use Rattle.ntfs_def.specs.Node.{Item, item_in}
use Rattle.ntfs_def.specs.Units.{wide}
use Rattle.ntfs_def.specs.declared.index.NodeForm.TheVariants.{View}
use Rattle.ntfs_def.specs.declared.records.TheConstants.{SECURE}
use Rattle.ntfs_def.proofs.KeyOrderLaws.{id_ties, id_total}
use Rattle.volume_def.specs.IndexesClause.{IsViewIndex, id_rule, index_parts}
use Rattle.volume_def.specs.Table.{cluster_bytes}
use Rattle.volume_def.specs.View.{VolumeView}
use Rattle.index_tree.specs.Search.{Costs, Finds, HasRisingIndex, NoneEqual}
use Rattle.tree_model.specs.Facts.{HasDescriptor}
use Rattle.tree_model.specs.IndexRoom.{Index}
use Rattle.tree_model.proofs.FactsLaws.{one_item, other-walk}
use Rattle.file_record.specs.declared.parts.FileParts.{FileParts}
use Rattle.index_store.specs.Index.{HasParts, IsFound, index_held}
use Rattle.index_store.specs.declared.index.FoundIndex.{FoundIndex}
use Rattle.view_index.specs.Held.{nodes_found, root_found}
use Rattle.view_index.specs.Security.{HasEntry, IsEntryOf, IsHeldSecurity}
use Rattle.view_index.proofs.HeldViewIndex.{can-find, find-costs, found-among, has-root, no-index}

-- an item of a list has what each of it has
each-at : (P : Item → Type 0) (xs : List Item) (x : Item) → Each P xs → Contains xs x → P x
each-at P [] x h c = absurd (Contains-nil x c)
each-at P (y ∷ ys) x h c = elim (Contains-cases y ys x c) [
  | inl same ↦ subst P same h.0
  | inr later ↦ each-at P ys x h.1 later
]

one_same : {a b : ℕ} → a ∷ [] ≡ b ∷ [] → a ≡ b
one_same e = cc

abbrev pub ids : List ℕ
ids = wide (codes "$SII")

module _ (view : VolumeView) (file : FileParts) (held : IsHeldSecurity view file) where
  -- without an index of ids no id has a descriptor
  pub no-ids : ((root : List ℕ) → ¬ (HasParts (index_held file ids) root)) → (id : ℕ) (bytes : List ℕ) → ¬ (HasDescriptor view id bytes)
  no-ids none id bytes has = no-index view file held.held.parts SECURE held.number ids id_rule none has.index

  module _ (some : 0 < cluster_bytes view.layout) (index : FoundIndex) (found : IsFound file index) (named : index.name.now ≡ ids) where
    -- the index that was found is right
    pub id-index : IsViewIndex view id_rule (index_parts view SECURE ids)
    id-index = held.ids (has-root view file held.held.parts SECURE held.number ids some index found named)

    pub can-find-id : (key : List ℕ) → HasRisingIndex (λ x. id_order x key) is_id_key (nodes_found view file index) (root_found index)
    can-find-id = can-find view file held.held.parts SECURE held.number ids some index found named id_rule id_total id-index

    pub id-costs : (key : List ℕ) (before after : ℕ)
        → Costs 8 (λ x. id_order x key) is_id_key (nodes_found view file index) (root_found index) before after
        → after ≤ before + 8 * most_depth
    id-costs = find-costs view file held.held.parts SECURE held.number ids some index found named id_rule id_total id-index

    -- what is found is the entry of the id, in whatever way a descriptor is told
    pub entry-said : (id : ℕ) (key : List ℕ) (entry : Option (List ℕ)) → u32_at key 0 ≡ id
        → Finds (λ x. id_order x key) is_id_key (nodes_found view file index) (root_found index) entry → HasEntry view id entry
    entry-said id key None said finds = λ bytes has.
        let none : NoneEqual (λ x. id_order x key) has.index.items =
        found-among view file held.held.parts SECURE held.number ids some index found named id_rule id_total has.index key None finds in
        each-at (λ (y : Item). id_order y.key key ≡ Equal → ⊥) has.index.items has.item none has.among
        ((id_ties has.item.key key).1 (ap (λ n. n ∷ []) (has.key ∙ sym said)))
    entry-said id key (Some entry) said finds =
        let first = found-among view file held.held.parts SECURE held.number ids some index found named id_rule id_total id-index key
        (Some entry) finds in
        let tie = (id_ties (item_in entry).key key).0 first.equal in
        record {
          index = id-index;
          among = subst (λ items. Contains items (item_in entry)) (sym first.whole)
              (Contains-append_right first.front (item_in entry ∷ first.back) (item_in entry) (Contains-head (item_in entry) first.back));
          key = one_same tie ∙ said;
        }

-- each descriptor of an id is told by this entry
pub only-item : (view : VolumeView) (id : ℕ) (entry bytes : List ℕ) → IsEntryOf view id entry → (has : HasDescriptor view id bytes)
    → has.item ≡ item_in entry
only-item view id entry bytes is has =
    let index : Index = record { file = SECURE; form = View; name = ids } in
    let moved : Contains is.index.items has.item =
    other-walk view index _ has.index.items is.index.items has.index.has is.index.has has.item has.among in
    one_item is.index.items has.item (item_in entry) is.index.has.ascending moved is.among (has.key ∙ sym is.key)
