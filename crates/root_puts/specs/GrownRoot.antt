-- THE VALUE OF A ROOT with an entry more, in the record that holds it.
use Rattle.std.specs.Prelude.{◌≡◌, ℕ, ◌+◌, ◌≤◌, Bool, false, IsTrue, List, None, Some, length}
use Rattle.std.specs.declared.cmp.Ordering.{Ordering}
use Rattle.ntfs_def.specs.Attribute.{value_of}
use Rattle.ntfs_def.specs.IndexTree.{Each}
use Rattle.ntfs_def.specs.Node.{Entry, Node, has_children, item_in, node_in}
use Rattle.ntfs_def.specs.Record.{used_size}
use Rattle.ntfs_def.specs.declared.index.NodeForm.TheVariants.{Names}
use Rattle.attr_view.specs.Values.{attribute_in}
use Rattle.index_node.specs.Edit.{HasPlace}
use Rattle.index_node.specs.Seek.{IsPlace}
use Rattle.index_puts.specs.PutsRoot.{GrowsRoot}

-- A root that leads to no record, and whose keys are valid.
pub record IsLeafRoot (valid : List ℕ → Bool) (root : List ℕ) : Type 0 where
  pub said : Node
  pub is : node_in Names root ≡ Some said
  pub keys : Each (λ (e : Entry). IsTrue (valid e.item.key)) said.entries
  pub last : said.last ≡ None

-- In a root that leads to no record, a key's place is before entry i, or behind all.
pub record IsLeafPlace (order : List ℕ → List ℕ → Ordering) (root key : List ℕ) (i : ℕ) : Type 0 where
  pub place : HasPlace Names root i
  pub leaf : has_children root ≡ false
  pub hit : Bool
  pub found : (said : Node) → node_in Names root ≡ Some said → IsPlace (λ x. order x key) said.entries i hit

-- The root has the entry more, at the place of its key.
pub record HasGrown (order : List ℕ → List ℕ → Ordering) (root entry grown : List ℕ) : Type 0 where
  pub i : ℕ
  pub place : IsLeafPlace order root (item_in entry).key i
  pub grows : GrowsRoot root grown i entry

-- Attribute i of an opened record is a root which can have an entry of so many bytes more ..
pub record CanGrowIn (valid : List ℕ → Bool) (block : List ℕ) (i len : ℕ) : Type 0 where
  pub root : List ℕ
  pub is : value_of (attribute_in block i).body ≡ Some root
  pub leaf : IsLeafRoot valid root
  pub room : len + used_size block ≤ 1024

-- .. and these bytes are that root with this one.
pub record GrowsIn (order : List ℕ → List ℕ → Ordering) (block : List ℕ) (i : ℕ) (entry grown : List ℕ) : Type 0 where
  pub root : List ℕ
  pub is : value_of (attribute_in block i).body ≡ Some root
  pub room : length entry + used_size block ≤ 1024
  pub has : HasGrown order root entry grown
