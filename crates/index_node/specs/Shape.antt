-- What the shape's tests answer.
use Rattle.std.specs.Prelude.{◌≡◌, ℕ, Bool, false, List, IsTrue}
use Rattle.ntfs_def.specs.Node.{entry_flags, entry_len, is_entry, is_last_entry, key_len}
use Rattle.ntfs_def.specs.declared.index.NodeForm.{NodeForm}
use Rattle.index_node.specs.declared.shape.EntryHeader.{EntryHeader}
use Rattle.index_node.specs.declared.shape.Standing.{Standing}
use Rattle.index_node.specs.declared.shape.Standing.TheVariants.{Entry, Last, Nothing}

-- the numbers of the header of what stands there
pub record IsHeaderAt (node : List ℕ) (at : ℕ) (header : EntryHeader) : Type 0 where
  pub len : header.len ≡ entry_len node at
  pub key : header.key ≡ key_len node at
  pub flags : header.flags ≡ entry_flags node at

-- what stands there
abbrev pub Stands : NodeForm → List ℕ → Bool → ℕ → ℕ → Standing → Type 0
Stands form node children end at (Entry len) = IsTrue (is_entry form node children end at) × (len ≡ entry_len node at)
Stands form node children end at Last = IsTrue (is_last_entry node children end at)
Stands form node children end at Nothing = (is_entry form node children end at ≡ false) × (is_last_entry node children end at ≡ false)
