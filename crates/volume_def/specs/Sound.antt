-- The volume definition: its clauses in order, each by the least number that fails, and what a disk is accepted for.
use Rattle.std.specs.Prelude.{◌≡◌, ◌⊎◌, ℕ, ◌<◌, List, Some, None, true}
use Rattle.ntfs_def.specs.Boot.{boot_failing}
use Rattle.volume_def.specs.AttributesClause.{MeetsAttributes}
use Rattle.volume_def.specs.BitmapClauses.{MeetsClusterBits, MeetsRecordBits}
use Rattle.volume_def.specs.CaseClause.{MeetsCaseTable}
use Rattle.volume_def.specs.ExtentsClause.{MeetsExtents}
use Rattle.volume_def.specs.Files.{records_of}
use Rattle.volume_def.specs.IndexesClause.{MeetsIndexes}
use Rattle.volume_def.specs.LimitsClause.{MeetsLimits}
use Rattle.volume_def.specs.LinksClause.{MeetsLinks}
use Rattle.volume_def.specs.ListsClause.{MeetsLists}
use Rattle.volume_def.specs.OwnersClause.{MeetsOwners}
use Rattle.volume_def.specs.ReferencesClause.{MeetsReferences}
use Rattle.volume_def.specs.ShapeClause.{MeetsShape}
use Rattle.volume_def.specs.Table.{HasNoTable, MeetsTable, TableLayout, cluster_bytes}
use Rattle.volume_def.specs.VersionClause.{IsClean, MeetsMirror, MeetsMirrorPlace, MeetsVersion}
use Rattle.volume_def.specs.View.{VolumeView, view_of}

-- The clauses on a view. That on the version and the mirror counts as three, since its numbers do not rise.
pub data Clause : Type 0 where
  Shape : Clause
  Attributes : Clause
  Lists : Clause
  Extents : Clause
  Owners : Clause
  ClusterBits : Clause
  RecordBits : Clause
  References : Clause
  Links : Clause
  CaseTable : Clause
  Indexes : Clause
  Version : Clause
  MirrorPlace : Clause
  Mirror : Clause
  Limits : Clause

-- Its place in the order. The table of case stands before the indexes, which are read by it.
abbrev pub rank_of : Clause → ℕ
rank_of Shape = 0
rank_of Attributes = 1
rank_of Lists = 2
rank_of Extents = 3
rank_of Owners = 4
rank_of ClusterBits = 5
rank_of RecordBits = 6
rank_of References = 7
rank_of Links = 8
rank_of CaseTable = 9
rank_of Indexes = 10
rank_of Version = 11
rank_of MirrorPlace = 12
rank_of Mirror = 13
rank_of Limits = 14

-- the k of its name Sk
abbrev pub clause_number : Clause → ℕ
clause_number Shape = 3
clause_number Attributes = 4
clause_number Lists = 5
clause_number Extents = 6
clause_number Owners = 7
clause_number ClusterBits = 8
clause_number RecordBits = 9
clause_number References = 10
clause_number Links = 11
clause_number CaseTable = 13
clause_number Indexes = 12
clause_number Version = 14
clause_number MirrorPlace = 14
clause_number Mirror = 14
clause_number Limits = 15

-- Number n does not break the clause.
abbrev pub Meets : Clause → VolumeView → ℕ → Type 0
Meets Shape view n = MeetsShape view n
Meets Attributes view n = MeetsAttributes (records_of view) n
Meets Lists view n = MeetsLists view n
Meets Extents view n = MeetsExtents (records_of view) (cluster_bytes view.layout) n
Meets Owners view n = MeetsOwners (records_of view) view.layout.clusters n
Meets ClusterBits view n = MeetsClusterBits view n
Meets RecordBits view n = MeetsRecordBits view n
Meets References view n = MeetsReferences (records_of view) n
Meets Links view n = MeetsLinks (records_of view) n
Meets CaseTable view n = MeetsCaseTable view n
Meets Indexes view n = MeetsIndexes view n
Meets Version view n = MeetsVersion view n
Meets MirrorPlace view n = MeetsMirrorPlace view n
Meets Mirror view n = MeetsMirror view n
Meets Limits view n = MeetsLimits (records_of view) n

abbrev pub Holds : VolumeView → Clause → Type 0
Holds view clause = (n : ℕ) → Meets clause view n

-- all clauses before this place hold
abbrev pub HoldBelow : VolumeView → ℕ → Type 0
HoldBelow view rank = (clause : Clause) → rank_of clause < rank → Holds view clause

-- S3 to S15 hold
abbrev pub IsSound : VolumeView → Type 0
IsSound view = (clause : Clause) → Holds view clause

-- This clause is the first that fails, and n the least number of it.
pub record FirstBroken (view : VolumeView) (clause : Clause) (n : ℕ) : Type 0 where
  pub before : HoldBelow view (rank_of clause)
  pub below : (m : ℕ) → m < n → Meets clause view m
  pub broken : ¬ (Meets clause view n)

-- The disk, of so many sectors, meets the boot clause and the table clause, which tell this layout.
pub record HasLayout (disk : ℕ → List ℕ) (boot : List ℕ) (sectors : ℕ) (layout : TableLayout) : Type 0 where
  pub boot_clause : boot_failing boot sectors ≡ None
  pub table_clause : MeetsTable disk boot layout

-- what a disk that tells its contents is as a volume
abbrev pub told_view : (ℕ → List ℕ) → TableLayout → VolumeView
told_view disk layout = view_of true disk layout

-- THE VOLUME DEFINITION: all clauses hold, and the volume was closed.
pub record IsAccepted (disk : ℕ → List ℕ) (boot : List ℕ) (sectors : ℕ) : Type 0 where
  pub layout : TableLayout
  pub has : HasLayout disk boot sectors layout
  pub sound : IsSound (told_view disk layout)
  pub clean : IsClean (told_view disk layout)

-- What is refused, by the clause k and its number n.
pub record FailsLater (disk : ℕ → List ℕ) (boot : List ℕ) (sectors k n : ℕ) : Type 0 where
  pub layout : TableLayout
  pub has : HasLayout disk boot sectors layout
  pub clause : Clause
  pub number : clause_number clause ≡ k
  pub first : FirstBroken (told_view disk layout) clause n

pub record FailsTable (disk : ℕ → List ℕ) (boot : List ℕ) (sectors k n : ℕ) : Type 0 where
  pub boot_clause : boot_failing boot sectors ≡ None
  pub broken : HasNoTable disk boot
  pub number : k ≡ 2
  pub zero_said : n ≡ 0

abbrev pub IsRefused : (ℕ → List ℕ) → List ℕ → ℕ → ℕ → ℕ → Type 0
IsRefused disk boot sectors k n =
    ((k ≡ 1) × (boot_failing boot sectors ≡ Some n)) ⊎ FailsTable disk boot sectors k n ⊎ FailsLater disk boot sectors k n
