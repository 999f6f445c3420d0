-- What is tested of each element of a written list, by computing, holds of it.
use Rattle.std.proofs.Common.{◌≡◌, ℕ, suc, Bool, true, List, [], ◌∷◌, Option, Some, None}
use Rattle.std.specs.Prelude.{◌&&◌, IsTrue}
use Rattle.std.specs.List.{list_all}
use Rattle.std.specs.Ordering.{is_lt}
use Rattle.std.specs.declared.cmp.Ordering.{Ordering}
use Rattle.std.specs.declared.cmp.Ordering.TheVariants.{Less}
use Rattle.std.proofs.lemmas.Bool.{and_parts}
use Rattle.ntfs_def.specs.IndexTree.{Ascends, Each}
use Rattle.ntfs_def.specs.Node.{Item}
use Rattle.volume_def.specs.Files.{Record}
use Rattle.volume_format.proofs.Listed.{EachFrom}
use Rattle.list_laws.proofs.OrderLaws.{less_from_is_lt}

-- records by their numbers, from k on
abbrev pub each_from : (ℕ → Record → Bool) → ℕ → List (Option Record) → Bool
each_from test k [] = true
each_from test k (None ∷ records) = each_from test (suc k) records
each_from test k (Some r ∷ records) = test k r && each_from test (suc k) records

pub EachFrom-tested : (test : ℕ → Record → Bool) (k : ℕ) (records : List (Option Record)) → each_from test k records ≡ true
    → EachFrom (λ n r. IsTrue (test n r)) k records
EachFrom-tested test k [] h = tt
EachFrom-tested test k (None ∷ records) h = (tt, EachFrom-tested test (suc k) records h)
EachFrom-tested test k (Some r ∷ records) h =
    let pair = and_parts (test k r) (each_from test (suc k) records) h in (pair.0, EachFrom-tested test (suc k) records pair.1)

-- items in order
abbrev pub is_below : (List ℕ → List ℕ → Ordering) → Item → Item → Bool
is_below order x y = is_lt (order x.key y.key)

abbrev pub is_ascending : (List ℕ → List ℕ → Ordering) → List Item → Bool
is_ascending order [] = true
is_ascending order (x ∷ xs) = list_all (is_below order x) xs && is_ascending order xs

each-below : (order : List ℕ → List ℕ → Ordering) (x : Item) (ys : List Item) → list_all (is_below order x) ys ≡ true
    → Each (λ (y : Item). order x.key y.key ≡ Less) ys
each-below order x [] h = tt
each-below order x (y ∷ ys) h =
    let pair = and_parts (is_below order x y) (list_all (is_below order x) ys) h in
    (less_from_is_lt (order x.key y.key) pair.0, each-below order x ys pair.1)

pub Ascends-tested : (order : List ℕ → List ℕ → Ordering) (xs : List Item) → is_ascending order xs ≡ true → Ascends order xs
Ascends-tested order [] h = tt
Ascends-tested order (x ∷ xs) h =
    let pair = and_parts (list_all (is_below order x) xs) (is_ascending order xs) h in
    (each-below order x xs pair.0, Ascends-tested order xs pair.1)
