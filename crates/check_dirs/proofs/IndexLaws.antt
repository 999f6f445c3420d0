-- The answer of the check, by what its tests told.
use Rattle.std.proofs.Common.{◌≡◌, ℕ, ◌≤◌, List, Option, Some, None, length, refl, sym, subst, ◌∙◌, arith}
use Rattle.ntfs_def.specs.IndexTree.{Nodes, Walks}
use Rattle.ntfs_def.specs.Node.{Item, Node, BadAt, Whole, node_header_failing, scan_node, short_node}
use Rattle.ntfs_def.specs.declared.index.NodeForm.{NodeForm}
use Rattle.volume_def.specs.IndexesClause.{KeyRule}
use Rattle.index_node.proofs.NodeLaws.{header_short, scan_node-wrong}
use Rattle.index_tree.specs.Walk.{items_in}
use Rattle.check_dirs.specs.Entries.{AreOrdered}
use Rattle.check_dirs.specs.Gathered.{IsTheWalk, TellsWalk}
use Rattle.check_dirs.specs.OrderedIndex.{HasFields, IsOrderedIndex, TellsIndex}
use Rattle.list_laws.proofs.OptionLaws.{none_other, some_same}

-- a node has its header
pub root_len : (form : NodeForm) (root : List ℕ) (node : Node) → scan_node form root ≡ Whole node → 12 ≤ length root
root_len form root node said = go (node_header_failing root) refl
  where
    go : (o : Option ℕ) → node_header_failing root ≡ o → 12 ≤ length root
    go None e = let h = header_short root e in omega arith
    go (Some place) e = absurd (let f : BadAt place ≡ Whole node = sym (scan_node-wrong form root place e) ∙ said in cc)

module _ (form : NodeForm) (rule : KeyRule) (nodes : Nodes) (root : List ℕ) where
  pub no_node : short_node form root ≡ None → TellsIndex form rule nodes root None
  no_node none items ordered = none_other (sym none ∙ ordered.says)

  pub no_fields : (HasFields form rule.collation root → ⊥) → TellsIndex form rule nodes root None
  no_fields none items ordered = none ordered.fields

  module _ (node : Node) (said : short_node form root ≡ Some node) where
    same_walk : (items : List Item) (ordered : IsOrderedIndex form rule nodes root items) → Walks nodes node items
    same_walk items ordered = subst (λ n. Walks nodes n items) (some_same (sym ordered.says ∙ said)) ordered.walks

    pub no_walk : TellsWalk nodes node None → TellsIndex form rule nodes root None
    no_walk none items ordered = none items (same_walk items ordered)

    module _ (entries : List (List ℕ)) (walk : IsTheWalk nodes node entries) where
      pub no_order : (AreOrdered rule.order rule.valid (items_in entries) → ⊥) → TellsIndex form rule nodes root None
      no_order none items ordered =
          none (subst (AreOrdered rule.order rule.valid) (sym (walk.only items (same_walk items ordered)))
          (record { keys = ordered.keys; ascending = ordered.ascending }))

      pub an_index : HasFields form rule.collation root → AreOrdered rule.order rule.valid (items_in entries)
          → TellsIndex form rule nodes root (Some entries)
      an_index fields ordered = record {
        index = record {
          fields = fields;
          root_node = node;
          says = said;
          walks = walk.walks;
          keys = ordered.keys;
          ascending = ordered.ascending;
        };
        only = λ items other. walk.only items (same_walk items other);
      }
