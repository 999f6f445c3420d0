-- Names with a `/` between them.
use Rattle.std.proofs.Common.{◌≡◌, ◌≢◌, ℕ, List, [], ◌∷◌, length, ◌==◌, true, false, Option, Some, None, Result, Ok, Err, refl, ap}
use Rattle.std.specs.Prelude.{IfOk}
use Rattle.cmd_lang.specs.Lines.{Finds}
use Rattle.cmd_lang.specs.Words.{AreNames, IsBehind, IsPath, IsTargetOf, pieces}
use Rattle.cmd_lang.proofs.PieceLaws.{some_piece}

pub behind_names : (rest : List ℕ) → rest ≢ [] → (names : List (List ℕ)) → IsBehind rest names → (list : List (List ℕ))
    × AreNames (pieces 47 rest) list
behind_names rest some [] h = absurd (some h)
behind_names rest some (n ∷ ns) h = (n ∷ ns, h)

pub names_behind : (rest : List ℕ) (names : List (List ℕ)) → AreNames (pieces 47 rest) names → IsBehind rest names
names_behind rest [] h = by (pieces 47 rest) refl h
  where
    by : (parts : List (List ℕ)) → pieces 47 rest ≡ parts → AreNames parts [] → rest ≡ []
    by [] e h = absurd (some_piece 47 rest e)
    by (x ∷ xs) e h = absurd h
names_behind rest (n ∷ ns) h = h

pub not_empty : (rest : List ℕ) → (length rest == 0) ≡ false → rest ≢ []
not_empty rest e h = let f : (length rest == 0) ≡ true = ap (λ r. length r == 0) h in cc

-- the names behind the first `/`, where there is something
pub behind : (rest : List ℕ) (found : Option (List (List ℕ))) → rest ≢ [] → Finds (AreNames (pieces 47 rest)) found
    → Finds (IsBehind rest) found
behind rest (Some names) some h = names_behind rest names h
behind rest None some h = λ names x. let list = behind_names rest some names x in h list.0 list.1

-- what holds of a value that there is
pub IfOk-follows : {A E : Type 0} (P Q : A → Type 0) (r : Result A E) → ((a : A) → P a → Q a) → IfOk r P → IfOk r Q
IfOk-follows P Q (Ok a) f h = f a h
IfOk-follows P Q (Err e) f h = tt

-- the pieces of a target
pub first_path : (first : List ℕ) (more names : List (List ℕ)) (stream : Option (List ℕ)) → IsTargetOf (first ∷ more) names stream
    → IsPath first names
first_path first [] names None x = x
first_path first [] names (Some name) x = absurd x
first_path first (second ∷ []) names None x = absurd x
first_path first (second ∷ []) names (Some name) x = x.0
first_path first (second ∷ third ∷ more) names stream x = absurd x

pub not_target : (first : List ℕ) (more names : List (List ℕ)) (stream : Option (List ℕ)) → more ≢ [] → ((a : List ℕ) → more ≡ a ∷ [] → ⊥)
    → IsTargetOf (first ∷ more) names stream → ⊥
not_target first [] names stream some one x = some refl
not_target first (second ∷ []) names stream some one x = one second refl
not_target first (second ∷ third ∷ more) names stream some one x = x
