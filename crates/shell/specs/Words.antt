-- The words of the command line.
use Rattle.std.specs.Prelude.{◌≡◌, ◌⊎◌, ◌<◌, ◌≤◌, ◌^◌, ℕ, List, [], ◌∷◌, codes, decimal, length}
use Rattle.vol_bytes.specs.NameText.{IsNameText}
use Rattle.volume_format.specs.Options.{Options}

-- this word alone
abbrev pub AreWords : List (List ℕ) → List ℕ → Type 0
AreWords words text = words ≡ text ∷ []

-- the words ask for no more than to read the volume
abbrev pub AskToRead : List (List ℕ) → Type 0
AskToRead words = AreWords words (codes "boot") ⊎ AreWords words (codes "label") ⊎ AreWords words (codes "check")

-- The text is a name text of these units, of which there are 32 at most.
pub record IsLabelText (text units : List ℕ) : Type 0 where
  pub name : IsNameText text units
  pub short : length units ≤ 32

-- These words ask for a new volume with these options: `format`, three decimal numbers without a sign or a leading zero, each
-- in the range of its type, and the label.
pub record AreFormatWords (words : List (List ℕ)) (o : Options) : Type 0 where
  pub label : List ℕ
  pub form : words ≡ codes "format" ∷ decimal o.sectors ∷ decimal o.cluster ∷ decimal o.serial ∷ label ∷ []
  pub sectors : o.sectors < 2 ^ 64
  pub cluster : o.cluster < 2 ^ 32
  pub serial : o.serial < 2 ^ 64
  pub name : IsLabelText label o.label

-- the words ask for a new volume
abbrev pub AskToFormat : List (List ℕ) → Type 0
AskToFormat words = (o : Options) × AreFormatWords words o

-- the words ask for a script to be run
abbrev pub AskToRun : List (List ℕ) → Type 0
AskToRun words = AreWords words (codes "run")

-- These words ask for so many lines drawn behind a seed: `make` and two decimal numbers without a sign or a leading zero. The lines are at
-- most 1,000,000.
pub record AreMakeWords (words : List (List ℕ)) (count seed : ℕ) : Type 0 where
  pub form : words ≡ codes "make" ∷ decimal count ∷ decimal seed ∷ []
  pub most : count ≤ 1000000
  pub fits : seed < 2 ^ 64

-- the words ask for drawn lines
abbrev pub AskToMake : List (List ℕ) → Type 0
AskToMake words = (count : ℕ) × (seed : ℕ) × AreMakeWords words count seed

-- the words ask for something that the program knows
abbrev pub AreKnown : List (List ℕ) → Type 0
AreKnown words = AskToRead words ⊎ AskToFormat words ⊎ AskToRun words ⊎ AskToMake words
