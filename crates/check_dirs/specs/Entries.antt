-- What is asked of the entries of an index by themselves.
use Rattle.std.specs.Prelude.{◌≡◌, ◌≢◌, ◌<◌, ◌+◌, ℕ, List, [], Bool, Option, Some, None, All, IsTrue, length, slice_index_or}
use Rattle.std.specs.declared.cmp.Ordering.{Ordering}
use Rattle.std.specs.declared.cmp.Ordering.TheVariants.{Less, Equal}
use Rattle.ntfs_def.specs.FileName.{is_name_key}
use Rattle.ntfs_def.specs.IndexTree.{Ascends}
use Rattle.ntfs_def.specs.KeyOrder.{name_order}
use Rattle.ntfs_def.specs.Node.{Item, IsWholeEntry, has_child, item_in}
use Rattle.index_tree.specs.Walk.{items_in}

-- the bytes are a whole entry
abbrev pub IsWhole : List ℕ → Type 0
IsWhole entry = IsWholeEntry entry (has_child entry 0) (length entry) 0

abbrev pub AreWhole : List (List ℕ) → Type 0
AreWhole entries = All IsWhole entries

-- The keys are valid, and each is below all later ones.
pub record AreOrdered (order : List ℕ → List ℕ → Ordering) (valid : List ℕ → Bool) (items : List Item) : Type 0 where
  pub keys : All (λ item. IsTrue (valid item.key)) items
  pub ascending : Ascends order items

-- The same by places.

abbrev pub key_at : List (List ℕ) → ℕ → List ℕ
key_at entries i = (item_in (slice_index_or entries i [])).key

abbrev pub AreValid : (List ℕ → Bool) → List (List ℕ) → Type 0
AreValid valid entries = (i : ℕ) → i < length entries → IsTrue (valid (key_at entries i))

-- each key is below the next one
abbrev pub Rise : (List ℕ → List ℕ → Ordering) → List (List ℕ) → Type 0
Rise order entries = (i : ℕ) → i + 1 < length entries → order (key_at entries i) (key_at entries (i + 1)) ≡ Less

-- where the key stands on whose side each other one is told, or that it stands nowhere
abbrev pub IsPlace : (List ℕ → Ordering) → List (List ℕ) → Option ℕ → Type 0
IsPlace side entries None = (i : ℕ) → i < length entries → side (key_at entries i) ≢ Equal
IsPlace side entries (Some i) = (i < length entries) × (side (key_at entries i) ≡ Equal)

-- The entries are whole, and their keys are names that ascend by this table of case, so that no name stands twice.
pub record AreNames (fold : ℕ → ℕ) (entries : List (List ℕ)) : Type 0 where
  pub whole : AreWhole entries
  pub ordered : AreOrdered (name_order fold) is_name_key (items_in entries)
