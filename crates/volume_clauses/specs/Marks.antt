-- The way of parents from a record up, and what is known of it.
use Rattle.std.specs.Prelude.{Bool, true, false, ◌≡◌, ◌≢◌, ◌↔◌, ◌⊎◌, ◌<◌, ℕ, zero, suc, List, Contains, length, slice_index, slice_index_or}
use Rattle.volume_clauses.specs.declared.marks.Mark.{Mark}
use Rattle.volume_clauses.specs.declared.marks.Mark.TheVariants.{Unknown, Walking, Found, Lost}

-- k steps up from f
abbrev pub climbed : List ℕ → ℕ → ℕ → ℕ
climbed parents zero f = f
climbed parents (suc k) f = climbed parents k (slice_index parents f)

-- some number of steps leads from f to the root
unfoldable pub Reaches : List ℕ → ℕ → ℕ → Type 0
Reaches parents root f = (k : ℕ) × (climbed parents k f ≡ root)

abbrev pub mark_at : List Mark → ℕ → Mark
mark_at marks f = slice_index_or marks f Unknown

-- the root is marked as one that reaches itself, where it is among the records
abbrev pub HasRoot : ℕ → List Mark → Type 0
HasRoot root marks = root < length marks → mark_at marks root ≡ Found

-- a mark that says what is so
abbrev pub Says : List ℕ → ℕ → Mark → ℕ → Type 0
Says parents root Unknown f = Unit {0}
Says parents root Walking f = ⊥
Says parents root Found f = Reaches parents root f
Says parents root Lost f = ¬ (Reaches parents root f)

abbrev pub AreRight : List ℕ → ℕ → List Mark → Type 0
AreRight parents root marks = (f : ℕ) → Says parents root (mark_at marks f) f

-- the same, and it is known
pub record IsKnown (parents : List ℕ) (root : ℕ) (mark : Mark) (f : ℕ) : Type 0 where
  pub found : mark ≡ Found ↔ Reaches parents root f
  pub known : mark ≢ Unknown

-- A way was walked from f up to `at`: the records of the path are marked, and no others.
pub record Walks (parents : List ℕ) (root : ℕ) (old new : List Mark) (path : List ℕ) (f at : ℕ) : Type 0 where
  pub all : length new ≡ length old
  pub has_root : HasRoot root new
  pub others : (k : ℕ) → mark_at new k ≢ Walking → mark_at new k ≡ mark_at old k
  pub on_path : (k : ℕ) → mark_at new k ≡ Walking → Contains path k
  pub path_on : (k : ℕ) → Contains path k → mark_at new k ≡ Walking
  pub was : (k : ℕ) → mark_at new k ≡ Walking → mark_at old k ≡ Unknown
  pub goes_on : (k : ℕ) → mark_at new k ≡ Walking → (mark_at new (slice_index parents k) ≡ Walking) ⊎ (slice_index parents k ≡ at)
  pub leads : (k : ℕ) → mark_at new k ≡ Walking → Reaches parents root k ↔ Reaches parents root at
  pub start : (mark_at new f ≡ Walking) ⊎ (f ≡ at)

-- and something is known of the record at which it ended
pub record Walked (parents : List ℕ) (root : ℕ) (old new : List Mark) (path : List ℕ) (f at : ℕ) : Type 0 where
  pub walks : Walks parents root old new path f at
  pub done : mark_at new at ≢ Unknown

-- the records of a path have this mark, and all others the one they had
pub record Settled (old new : List Mark) (path : List ℕ) (verdict : Mark) : Type 0 where
  pub all : length new ≡ length old
  pub path_has : (k : ℕ) → Contains path k → mark_at new k ≡ verdict
  pub others : (k : ℕ) → (mark_at new k ≡ mark_at old k) ⊎ ((mark_at new k ≡ verdict) × Contains path k)

-- f is known, and what was known stays
pub record KeepsKnown (parents : List ℕ) (root : ℕ) (old new : List Mark) (f : ℕ) : Type 0 where
  pub all : length new ≡ length old
  pub right : AreRight parents root new
  pub here : mark_at new f ≢ Unknown
  pub keeps : (k : ℕ) → mark_at old k ≢ Unknown → mark_at new k ≡ mark_at old k

abbrev pub verdict_of : Mark → Mark
verdict_of Found = Found
verdict_of Unknown = Lost
verdict_of Walking = Lost
verdict_of Lost = Lost

abbrev pub is_found : Mark → Bool
is_found Unknown = false
is_found Walking = false
is_found Found = true
is_found Lost = false
