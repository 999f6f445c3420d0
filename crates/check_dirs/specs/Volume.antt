-- The table of case of a volume, as names are compared by it.
use Rattle.std.specs.Prelude.{◌≡◌, ℕ, List, IsTrue}
use Rattle.volume_def.specs.CaseClause.{case_parts}
use Rattle.volume_def.specs.Values.{value_on}
use Rattle.volume_def.specs.View.{VolumeView}

-- where the contents are told, this is the table of case that the volume stores
abbrev pub IsStoredCase : VolumeView → List ℕ → Type 0
IsStoredCase view table = IsTrue view.told → table ≡ value_on view (case_parts view)
