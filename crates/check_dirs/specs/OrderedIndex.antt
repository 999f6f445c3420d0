-- What the clause on indexes asks of one index, by its root and the nodes that its records say.
use Rattle.std.specs.Prelude.{◌≡◌, ℕ, List, Option, Some, None, Bool, All, IsTrue}
use Rattle.std.specs.declared.cmp.Ordering.{Ordering}
use Rattle.ntfs_def.specs.declared.index.NodeForm.{NodeForm}
use Rattle.ntfs_def.specs.declared.index.NodeForm.TheVariants.{Names, View}
use Rattle.ntfs_def.specs.declared.kinds.TheConstants.{FILE_NAME}
use Rattle.ntfs_def.specs.declared.lengths.TheConstants.{INDEX_RECORD}
use Rattle.ntfs_def.specs.IndexRoot.{index_record_len, indexed_kind, key_collation}
use Rattle.ntfs_def.specs.IndexTree.{Ascends, Nodes, Walks}
use Rattle.ntfs_def.specs.Node.{Item, Node, short_node}
use Rattle.volume_def.specs.IndexesClause.{KeyRule}
use Rattle.index_tree.specs.Walk.{items_in}

-- The indexed type in the root: of a directory that of names, and of a view index any.
abbrev pub IndexesKind : NodeForm → List ℕ → Type 0
IndexesKind Names root = indexed_kind root ≡ FILE_NAME
IndexesKind View root = Unit {0}

-- what stands in front of the root's index header: also its collation, and the size of its records
pub record HasFields (form : NodeForm) (collation : ℕ) (root : List ℕ) : Type 0 where
  pub kind : IndexesKind form root
  pub collates : key_collation root ≡ collation
  pub record_size : index_record_len root ≡ INDEX_RECORD

-- THE CLAUSE: these fields, and the root says a node of short entries, under it each record stands once in a tree of at most sixteen nodes
-- on a way, whose leaves have one depth, and the items of its walk are these; their keys are valid and ascend.
pub record IsOrderedIndex (form : NodeForm) (rule : KeyRule) (nodes : Nodes) (root : List ℕ) (items : List Item) : Type 0 where
  pub fields : HasFields form rule.collation root
  pub root_node : Node
  pub says : short_node form root ≡ Some root_node
  pub walks : Walks nodes root_node items
  pub keys : All (λ item. IsTrue (rule.valid item.key)) items
  pub ascending : Ascends rule.order items

-- The entries are those of such an index, which has no others.
pub record IsTheIndex (form : NodeForm) (rule : KeyRule) (nodes : Nodes) (root : List ℕ) (entries : List (List ℕ)) : Type 0 where
  pub index : IsOrderedIndex form rule nodes root (items_in entries)
  pub only : (items : List Item) → IsOrderedIndex form rule nodes root items → items_in entries ≡ items

-- THE ANSWER: the bytes of the entries of such an index, in order, or that there is none
abbrev pub TellsIndex : NodeForm → KeyRule → Nodes → List ℕ → Option (List (List ℕ)) → Type 0
TellsIndex form rule nodes root None = (items : List Item) → IsOrderedIndex form rule nodes root items → ⊥
TellsIndex form rule nodes root (Some entries) = IsTheIndex form rule nodes root entries

-- the rule of these parts
abbrev pub key_rule : ℕ → (List ℕ → List ℕ → Ordering) → (List ℕ → Bool) → KeyRule
key_rule collation order valid = record { collation = collation; order = order; valid = valid }
