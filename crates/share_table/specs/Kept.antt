-- Opens that are kept: any two of one file go together, and no two have one handle.
use Rattle.std.specs.Prelude.{◌≡◌, ℕ, AllPairs, IsTrue, List, Option, false, option_map}
use denote.Ref.{Bor}
use Rattle.tree_model.specs.Opens.{are_compatible, is_handle}
use Rattle.tree_model.specs.declared.opens.OpenEntry.{OpenEntry}

-- Where both are of one file, what each does and lets others do goes together.
abbrev pub Fits : OpenEntry → OpenEntry → Type 0
Fits one other = one.file ≡ other.file → IsTrue (are_compatible one.access one.share other.access other.share)

-- another handle
abbrev pub IsApart : OpenEntry → OpenEntry → Type 0
IsApart one other = is_handle one.session one.handle other ≡ false

pub record AreKept (opens : List OpenEntry) : Type 0 where
  pub fit : AllPairs Fits opens
  pub apart : AllPairs IsApart opens

-- an open by its session and handle
abbrev pub by_handle : OpenEntry → ℕ × ℕ
by_handle entry = (entry.session, entry.handle)

-- what is lent, as a value
abbrev pub lent : {A : Type 0} → Option (Bor A) → Option A
lent item = option_map (λ one. one.now) item
