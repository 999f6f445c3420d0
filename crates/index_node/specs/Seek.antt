-- Where a key is sought among the entries of a node. `side x` says on which side of what is sought the key x stands.
use Rattle.std.specs.Prelude.{◌≡◌, ℕ, ◌≤◌, Bool, true, false, List, [], ◌∷◌, length, take, drop, slice_index_or, Option, Some, None, IsTrue}
use Rattle.std.specs.declared.cmp.Ordering.{Ordering}
use Rattle.std.specs.declared.cmp.Ordering.TheVariants.{Less, Equal, Greater}
use Rattle.ntfs_def.specs.Node.{Entry}
use Rattle.ntfs_def.specs.IndexTree.{Each}

-- The entry there is the first that is not below it; `hit` says whether it is equal.
abbrev pub StartsAt : (List ℕ → Ordering) → List Entry → Bool → Type 0
StartsAt side [] hit = hit ≡ false
StartsAt side (entry ∷ entries) true = side entry.item.key ≡ Equal
StartsAt side (entry ∷ entries) false = side entry.item.key ≡ Greater

pub record IsPlace (side : List ℕ → Ordering) (entries : List Entry) (i : ℕ) (hit : Bool) : Type 0 where
  pub within : i ≤ length entries
  pub before : Each (λ (e : Entry). side e.item.key ≡ Less) (take i entries)
  pub there : StartsAt side (drop i entries) hit

-- that place, or `None` where a key before it is not valid
abbrev pub Seeks : (List ℕ → Ordering) → (List ℕ → Bool) → List Entry → Option (ℕ × Bool) → Type 0
Seeks side valid entries None = Each (λ (e : Entry). IsTrue (valid e.item.key)) entries → ⊥
Seeks side valid entries (Some at) = IsPlace side entries at.0 at.1

-- a key that was hit is valid
abbrev pub HitsKey : (List ℕ → Bool) → List Entry → ℕ → Bool → Type 0
HitsKey valid entries i hit = hit ≡ true → (d : Entry) → IsTrue (valid (slice_index_or entries i d).item.key)
