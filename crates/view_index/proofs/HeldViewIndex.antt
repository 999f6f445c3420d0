-- A view index that is held has what a search for a key asks for, and what the search gives is among the items that the volume has.
use Rattle.std.proofs.Common.{◌≡◌, ◌<◌, ◌≤◌, ◌+◌, ◌*◌, ℕ, suc, List, [], ◌∷◌, map, length, Option, Some, sym, ap, subst, ◌∙◌, arith}
use Rattle.std.specs.Prelude.{All, IsTrue}
use Rattle.std.specs.Option.{option_and_then}
use Rattle.std.specs.Cmp.{IsTotalOrder}
use Rattle.list_laws.proofs.OrderLaws.{less_not_greater}
use Rattle.ntfs_def.specs.Fixup.{opened_of}
use Rattle.ntfs_def.specs.IndexTree.{Each, Nodes, Walks, most_depth}
use Rattle.ntfs_def.specs.Node.{Item, Node, node_in}
use Rattle.ntfs_def.specs.declared.index.NodeForm.TheVariants.{View}
use Rattle.volume_def.specs.Files.{Part, content_value}
use Rattle.volume_def.specs.IndexesClause.{IndexParts, IsIndexRecordAt, IsViewIndex, KeyRule, index_nodes, index_parts, stored_index_record}
use Rattle.volume_def.specs.Table.{cluster_bytes}
use Rattle.volume_def.specs.View.{VolumeView}
use Rattle.index_node.proofs.SplitLaws.{short_in}
use Rattle.index_tree.specs.Search.{Costs, Finds, HasRisingIndex, IsFirstFound, IsRisingIndex, Rises}
use Rattle.index_tree.proofs.MovedWalks.{walks_moved}
use Rattle.index_tree.proofs.RisingOrders.{rises_of}
use Rattle.file_record.specs.Held.{AreParts, file_number}
use Rattle.file_record.specs.declared.parts.FileParts.{FileParts}
use Rattle.index_store.specs.Index.{HasParts, IsFound, index_held}
use Rattle.index_store.specs.declared.index.FoundIndex.{FoundIndex}
use Rattle.index_store.proofs.HeldIndexLaws.{index-held}
use Rattle.index_store.proofs.IndexRecordLaws.{record-there}
use Rattle.index_store.specs.IndexBlocks.{records_found}
use Rattle.view_index.specs.Held.{nodes_found, root_found}

one_same : {X : Type 0} {a b : X} → Some a ∷ [] ≡ Some b ∷ [] → a ≡ b
one_same e = cc

each_of : {A : Type 0} (P : A → Type 0) (xs : List A) → All P xs → Each P xs
each_of P [] h = tt
each_of P (x ∷ xs) h = (h 0 x (omega arith), each_of P xs (λ i d k. h (suc i) d (omega arith)))

some-root : {A B : Type 0} (f : A → Option B) (xs : List A) (root : B) → map f xs ≡ Some root ∷ [] → 1 ≤ length xs
some-root f [] root e = cc
some-root f (x ∷ xs) root e = omega arith

module _ (view : VolumeView) (file : FileParts) (parts : AreParts view file) (f : ℕ) (number : file_number file ≡ f) (name : List ℕ) where
  same-parts : index_held file name ≡ index_parts view f name
  same-parts = index-held view file name parts ∙ ap (λ n. index_parts view n name) number

  -- where it is not found the file has none
  pub no-index : (rule : KeyRule) → ((root : List ℕ) → ¬ (HasParts (index_held file name) root))
      → IsViewIndex view rule (index_parts view f name) → ⊥
  no-index rule none is =
      none is.has.root (subst (λ (i : IndexParts). HasParts i is.has.root) (sym same-parts)
      (record { is_root = is.has.is_root; plain = is.has.plain; plain_bits = is.has.plain_bits; written = is.has.written }))

  module _ (some : 0 < cluster_bytes view.layout) (index : FoundIndex) (found : IsFound file index) (named : index.name.now ≡ name) where
    same-index : index_held file index.name.now ≡ index_parts view f name
    same-index = ap (index_held file) named ∙ same-parts

    abbrev nodes : Nodes
    nodes = nodes_found view file index

    is-root : map (λ part. content_value part.content) (index_parts view f name).root ≡ Some index.root.now ∷ []
    is-root = subst (λ (i : IndexParts). map (λ part. content_value part.content) i.root ≡ Some index.root.now ∷ []) same-index
        found.parts.is_root

    -- where it is found its root is there
    pub has-root : 1 ≤ length (index_parts view f name).root
    has-root = some-root (λ (part : Part). content_value part.content) (index_parts view f name).root index.root.now is-root

    there : (vcn : ℕ) → IsIndexRecordAt view (index_parts view f name) vcn
        → records_found view file index vcn ≡ Some (opened_of (stored_index_record view (index_parts view f name) vcn))
    there = subst (λ (i : IndexParts). (vcn : ℕ) → IsIndexRecordAt view i vcn
        → records_found view file index vcn ≡ Some (opened_of (stored_index_record view i vcn)))
        same-index (λ vcn. record-there view (index_held file index.name.now) vcn some)

    node_says : (vcn : ℕ) → records_found view file index vcn ≡ Some (opened_of (stored_index_record view (index_parts view f name) vcn))
        → (node : Node) → index_nodes View view (index_parts view f name) vcn ≡ Some node → nodes vcn ≡ Some node
    unfolding index_nodes
    node_says vcn at node e =
        ap (option_and_then (node_in View)) at ∙ short_in View (opened_of (stored_index_record view (index_parts view f name) vcn)) node e

    module _ (rule : KeyRule) (total : IsTotalOrder rule.order) (is : IsViewIndex view rule (index_parts view f name)) where
      root_says : root_found index ≡ Some is.has.root_node
      root_says = ap (node_in View) (one_same (sym is-root ∙ is.has.is_root)) ∙ short_in View is.has.root is.has.root_node is.has.says

      abbrev walk : Walks nodes is.has.root_node is.items
      walk = walks_moved (index_nodes View view (index_parts view f name)) nodes is.has.root_node is.items is.has.walks
          (λ vcn met. node_says vcn (there vcn (is.has.each vcn met)))

      module _ (key : List ℕ) where
        abbrev rising : IsRisingIndex (λ x. rule.order x key) rule.valid nodes is.has.walks.depth is.has.walks.s is.has.root_node
        rising = record {
          holds = walk.holds;
          keys = subst (Each (λ (x : Item). IsTrue (rule.valid x.key))) is.has.walks.is
              (each_of (λ (x : Item). IsTrue (rule.valid x.key)) is.items is.has.keys);
          rises = subst (Rises (λ x. rule.order x key)) is.has.walks.is
              (rises_of rule.order total rule.order (λ x y e. less_not_greater (rule.order x y) e) key is.items is.has.ascending);
        }

        -- what a search asks for
        pub can-find : HasRisingIndex (λ x. rule.order x key) rule.valid nodes (root_found index)
        can-find = record {
          node = is.has.root_node;
          is = root_says;
          depth = is.has.walks.depth;
          small = is.has.walks.small;
          s = is.has.walks.s;
          index = rising;
        }

        -- what it gives
        pub found-among : (entry : Option (List ℕ)) → Finds (λ x. rule.order x key) rule.valid nodes (root_found index) entry
            → IsFirstFound (λ x. rule.order x key) is.items entry
        found-among entry finds =
            subst (λ items. IsFirstFound (λ x. rule.order x key) items entry) (sym is.has.walks.is)
            (finds is.has.root_node root_says is.has.walks.depth is.has.walks.s rising)

        -- and what it costs, since no way in an index is longer
        pub find-costs : (before after : ℕ) → Costs 8 (λ x. rule.order x key) rule.valid nodes (root_found index) before after
            → after ≤ before + 8 * most_depth
        find-costs before after costs =
            let bound = costs is.has.root_node root_says is.has.walks.depth is.has.walks.s rising in
            let small = is.has.walks.small in
            omega (arith, bound, small)
