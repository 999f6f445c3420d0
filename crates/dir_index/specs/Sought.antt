-- The search for a name in the index of a directory. The empty key, which no name has, stands for the name that is sought,
-- so that this may have any number of units; an entry's key has 255 at most.
use Rattle.std.specs.Prelude.{ℕ, ◌==◌, ◌||◌, Bool, List, [], ◌∷◌, length, map, Option}
use Rattle.std.specs.Ordering.{on}
use Rattle.std.specs.declared.cmp.Ordering.{Ordering}
use Rattle.ntfs_def.specs.FileName.{is_name_key, key_units}
use Rattle.ntfs_def.specs.KeyOrder.{by_numbers, compare_units}
use Rattle.ntfs_def.specs.Node.{node_in}
use Rattle.ntfs_def.specs.declared.index.NodeForm.TheVariants.{Names}
use Rattle.index_store.specs.Search.{Costs, Finds, HasRisingIndex, nodes_of}

-- the units that a key is compared by
abbrev pub sought_units : List ℕ → List ℕ → List ℕ
sought_units name [] = name
sought_units name (byte ∷ key) = key_units (byte ∷ key)

-- the name that is sought, or a name
abbrev pub is_sought_key : List ℕ → Bool
is_sought_key key = (length key == 0) || is_name_key key

-- keys in the order of a directory: equal to the name is only exactly that name
unfoldable pub exact_order : (ℕ → ℕ) → List ℕ → List ℕ → List ℕ → Ordering
exact_order fold name = on (sought_units name) (compare_units fold)

-- keys by their folded units alone: equal to the name is each that is the same by the table of case
unfoldable pub folded_order : (ℕ → ℕ) → List ℕ → List ℕ → List ℕ → Ordering
folded_order fold name = on (sought_units name) (on (map fold) by_numbers)

-- A search by one of these orders: its condition, its answer, and its cost.
abbrev pub CanSeek : (List ℕ → List ℕ → Ordering) → (ℕ → Option (List ℕ)) → List ℕ → Type 0
CanSeek order records root = HasRisingIndex (λ key. order key []) is_sought_key (nodes_of Names records) (node_in Names root)

abbrev pub Seeks : (List ℕ → List ℕ → Ordering) → (ℕ → Option (List ℕ)) → List ℕ → Option (List ℕ) → Type 0
Seeks order records root found = Finds (λ key. order key []) is_sought_key (nodes_of Names records) (node_in Names root) found

abbrev pub SeekCosts : ℕ → (List ℕ → List ℕ → Ordering) → (ℕ → Option (List ℕ)) → List ℕ → ℕ → ℕ → Type 0
SeekCosts most order records root before after =
    Costs most (λ key. order key []) is_sought_key (nodes_of Names records) (node_in Names root) before after
