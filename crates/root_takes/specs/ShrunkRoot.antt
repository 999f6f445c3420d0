-- THE VALUE OF A ROOT with an entry less, in the record that holds it.
use Rattle.std.specs.Prelude.{◌≡◌, ℕ, ◌<◌, ◌≤◌, Bool, IsSomeAnd, List, Some, false, length, true}
use Rattle.std.specs.declared.cmp.Ordering.{Ordering}
use Rattle.ntfs_def.specs.Attribute.{attributes, value_of}
use Rattle.ntfs_def.specs.Node.{Node, has_children, node_in}
use Rattle.ntfs_def.specs.declared.index.NodeForm.TheVariants.{Names}
use Rattle.attr_view.specs.Values.{attribute_in}
use Rattle.index_node.specs.Edit.{HasEntry}
use Rattle.index_node.specs.Seek.{IsPlace}
use Rattle.file_record.specs.declared.held.Held.{Held}
use Rattle.tree_model.specs.LeafEntry.{hits_on}
use Rattle.index_takes.specs.ShrinksRoot.{ShrinksRoot}
use Rattle.root_puts.specs.GrownRoot.{IsLeafRoot}

-- A root that leads to no record, whose keys are valid, and which has an entry of this key.
pub record IsHitRoot (order : List ℕ → List ℕ → Ordering) (valid : List ℕ → Bool) (root key : List ℕ) : Type 0 where
  pub leaf : IsLeafRoot valid root
  pub hits : hits_on (λ x. order x key) leaf.said.entries ≡ true

-- In a root that leads to no record, entry i has the key.
pub record IsLeafHit (order : List ℕ → List ℕ → Ordering) (root key : List ℕ) (i : ℕ) : Type 0 where
  pub entry : HasEntry Names root i
  pub leaf : has_children root ≡ false
  pub found : (said : Node) → node_in Names root ≡ Some said → IsPlace (λ x. order x key) said.entries i true

-- The root has the entry of the key no longer.
pub record HasShrunk (order : List ℕ → List ℕ → Ordering) (root key shrunk : List ℕ) : Type 0 where
  pub i : ℕ
  pub hit : IsLeafHit order root key i
  pub shrinks : ShrinksRoot root shrunk i

-- Attribute i of an opened record is a root that can lose the entry of a key ..
pub record CanShrinkIn (order : List ℕ → List ℕ → Ordering) (valid : List ℕ → Bool) (block : List ℕ) (i : ℕ) (key : List ℕ) : Type 0 where
  pub root : List ℕ
  pub is : value_of (attribute_in block i).body ≡ Some root
  pub hit : IsHitRoot order valid root key

-- .. and these bytes are that root without it.
pub record ShrinksIn (order : List ℕ → List ℕ → Ordering) (block : List ℕ) (i : ℕ) (key shrunk : List ℕ) : Type 0 where
  pub root : List ℕ
  pub is : value_of (attribute_in block i).body ≡ Some root
  pub has : HasShrunk order root key shrunk

-- Attribute i of a record that is held is a value of so many bytes, or more.
pub record HoldsValue (i len : ℕ) (held : Held) : Type 0 where
  pub within : i < length (attributes held.block)
  pub value : IsSomeAnd (value_of (attribute_in held.block i).body) (λ value. len ≤ length value)
