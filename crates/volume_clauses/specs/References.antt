-- The clause on references, S10, in two parts.
use Rattle.std.specs.Prelude.{ℕ, All, IfSome}
use Rattle.volume_def.specs.FileNames.{names_among}
use Rattle.volume_def.specs.Files.{Records}
use Rattle.volume_def.specs.ReferencesClause.{NamesBase, NamesDirectory}

-- the base reference of record n, where there is one, names a base record
abbrev pub MeetsBase : Records → ℕ → Type 0
MeetsBase records n = IfSome (records.record_at n) (λ r. IfSome r.header.base (NamesBase records))

-- the names that record n holds stand in directories
abbrev pub MeetsParents : Records → ℕ → Type 0
MeetsParents records n = IfSome (records.record_at n) (λ r. All (λ name. NamesDirectory records name.parent) (names_among r.parts))
