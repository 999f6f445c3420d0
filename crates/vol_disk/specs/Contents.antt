-- The contents of a disk, and its sectors.
use Rattle.std.specs.Prelude.{◌≡◌, ℕ, ◌+◌, ◌*◌, List, [], ◌∷◌, ◌++◌, take, drop, Option, None, Some, IsTrue, is_some}

-- the bytes of one sector
abbrev pub sector_of : List ℕ → ℕ → List ℕ
sector_of all sector = take 512 (drop (512 * sector) all)

-- the contents with one sector replaced
abbrev pub with_sector : List ℕ → ℕ → List ℕ → List ℕ
with_sector all sector bytes = take (512 * sector) all ++ bytes ++ drop (512 * sector + 512) all

-- what is told, changed; what is not told stays so
abbrev pub map_told : {A B : Type 0} → (A → B) → Option A → Option B
map_told f None = None
map_told f (Some x) = Some (f x)

-- the contents with one sector replaced, where they are told
abbrev pub Writes : Option (List ℕ) → Option (List ℕ) → ℕ → List ℕ → Type 0
Writes old new sector bytes = new ≡ map_told (λ all. with_sector all sector bytes) old

-- The contents are told. It is the premise of what is claimed of single sectors ..
abbrev pub IsTold : {A : Type 0} → Option A → Type 0
IsTold contents = IsTrue (is_some contents)

-- .. and this is what is claimed of the contents as a whole, where they are told.
abbrev pub WhereTold : {A : Type 0} → Option A → (A → Type 0) → Type 0
WhereTold {A = A} told P = (contents : A) → told ≡ Some contents → P contents

-- one sector, where the contents are told; empty where they are not, and past their end
unfoldable pub sector_in : Option (List ℕ) → ℕ → List ℕ
sector_in None sector = []
sector_in (Some all) sector = sector_of all sector

-- the list of settled contents with one more, where both are told
abbrev pub settled_more : Option (List (List ℕ)) → Option (List ℕ) → Option (List (List ℕ))
settled_more None contents = None
settled_more (Some past) None = None
settled_more (Some past) (Some contents) = Some (past ++ contents ∷ [])
