-- The pieces of a text, one after another.
use Rattle.std.specs.Prelude.{◌≡◌, ℕ, List, [], ◌∷◌, Option, Some, None}
use denote.Ref.{Bor}
use Rattle.cmd_lang.specs.Words.{pieces}

-- the pieces behind a separator, where there was one
abbrev pub rest_of : ℕ → Option (Bor (List ℕ)) → List (List ℕ)
rest_of separator None = []
rest_of separator (Some text) = pieces separator text.now

-- these are all pieces there are, and none are given only where there are not so many
abbrev pub IsOnly : List (List ℕ) → Option (Bor (List ℕ)) → Type 0
IsOnly pieces (Some a) = pieces ≡ a.now ∷ []
IsOnly pieces None = (a : List ℕ) → pieces ≡ a ∷ [] → ⊥

abbrev pub AreTwo : List (List ℕ) → Option (Bor (List ℕ) × Bor (List ℕ)) → Type 0
AreTwo pieces (Some found) = pieces ≡ found.0.now ∷ found.1.now ∷ []
AreTwo pieces None = (a b : List ℕ) → pieces ≡ a ∷ b ∷ [] → ⊥

abbrev pub AreThree : List (List ℕ) → Option (Bor (List ℕ) × Bor (List ℕ) × Bor (List ℕ)) → Type 0
AreThree pieces (Some found) = pieces ≡ found.0.now ∷ found.1.now ∷ found.2.now ∷ []
AreThree pieces None = (a b c : List ℕ) → pieces ≡ a ∷ b ∷ c ∷ [] → ⊥
