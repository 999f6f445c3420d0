-- What was changed of the tables of a volume in use since the last commit, and the tables before it.
use Rattle.std.specs.Prelude.{ℕ, List, [], ◌∷◌}
use Rattle.std.specs.Coded.{×_prop, Unit-prop}
use Rattle.std.proofs.Props.{props}
use Rattle.cluster_bitmap.specs.Flags.{IsFree, IsTaken, with_given, with_taken}
use Rattle.mft_table.specs.declared.changes.Change.{Change}
use Rattle.mft_table.specs.declared.changes.Change.TheVariants.{Gave, GaveRecord, Took, TookRecord}
use Rattle.mft_table.specs.declared.mounted.Mounted.{Mounted}

-- the tables, with the clusters of a range taken
abbrev pub with_clusters_taken : Mounted → ℕ → ℕ → Mounted
with_clusters_taken mounted at len = record mounted { clusters = with_taken mounted.clusters at len }

-- .. and with them given back
abbrev pub with_clusters_given : Mounted → ℕ → ℕ → Mounted
with_clusters_given mounted at len = record mounted { clusters = with_given mounted.clusters at len }

-- .. with the flag of a record taken, and given back
abbrev pub with_record_taken : Mounted → ℕ → Mounted
with_record_taken mounted number = record mounted { records = with_taken mounted.records number 1 }

abbrev pub with_record_given : Mounted → ℕ → Mounted
with_record_given mounted number = record mounted { records = with_given mounted.records number 1 }

-- the tables before a change, by those behind it
abbrev pub before : Change → Mounted → Mounted
before (Took at len) mounted = with_clusters_given mounted at len
before (Gave at len) mounted = with_clusters_taken mounted at len
before (TookRecord number) mounted = with_record_given mounted number
before (GaveRecord number) mounted = with_record_taken mounted number

-- .. before all of these, each of which came before those behind it
unfoldable pub before_all : List Change → Mounted → Mounted
before_all [] mounted = mounted
before_all (change ∷ later) mounted = before change (before_all later mounted)

-- The tables show a change: what it took is taken, and what it gave back is free.
abbrev pub Shows : Mounted → Change → Type 0
Shows mounted (Took at len) = IsTaken mounted.clusters at len
Shows mounted (Gave at len) = IsFree mounted.clusters at len
Shows mounted (TookRecord number) = IsTaken mounted.records number 1
Shows mounted (GaveRecord number) = IsFree mounted.records number 1

-- They show the last of these, and before it the one that came before, and so on.
unfoldable pub ShowAll : Mounted → List Change → Type 0
ShowAll mounted [] = Unit {0}
ShowAll mounted (change ∷ later) = ShowAll mounted later × Shows (before_all later mounted) change

Shows-prop : (mounted : Mounted) (change : Change) → IsProp (Shows mounted change)
Shows-prop mounted (Took at len) = hlevel props
Shows-prop mounted (Gave at len) = hlevel props
Shows-prop mounted (TookRecord number) = hlevel props
Shows-prop mounted (GaveRecord number) = hlevel props

pub ShowAll-prop : (mounted : Mounted) (changes : List Change) → IsProp (ShowAll mounted changes)
unfolding ShowAll
ShowAll-prop mounted [] = Unit-prop
ShowAll-prop mounted (change ∷ later) = ×_prop (ShowAll-prop mounted later) (Shows-prop (before_all later mounted) change)
