-- EDITS OF NAMES: what links and directories see of the records of a volume, and what a call changes of it. The parts of a file may
-- move among its records meanwhile: its names are told up to their order.
use Rattle.std.specs.Prelude.{◌≡◌, ◌≢◌, ℕ, ◌+◌, ◌≤◌, ◌==◌, ◌&&◌, ◌∷◌, [], List, ◌++◌, ◌⊎◌, Bool, false, All, count_by, filter, length}
use Rattle.std.specs.Prelude.{nat_lt, not, IfSome, IsTrue, Option, Some, None, if◌then◌else◌}
use Rattle.ntfs_def.specs.FileName.{FileName}
use Rattle.ntfs_def.specs.Record.{Reference}
use Rattle.ntfs_def.specs.declared.records.TheConstants.{FIRST_ORDINARY, ROOT}
use Rattle.volume_def.specs.FileNames.{is_not_dos, names_of}
use Rattle.volume_def.specs.Files.{Record, Records, is_base, is_directory}
use Rattle.volume_def.specs.LinksClause.{is_dos_in, is_long_in}
use Rattle.volume_def.specs.ReferencesClause.{NamesBase}
use Rattle.list_laws.specs.SameItems.{SameItems}

-- What the base record of a file tells of it: by the first it is referred to, the second counts its names.
pub record Numbers : Type 0 where
  pub sequence : ℕ
  pub links : ℕ
  pub directory : Bool

abbrev pub numbers_in : Record → Numbers
numbers_in r = record { sequence = r.header.sequence; links = r.header.links; directory = is_directory r }

abbrev pub numbers_by : Option Record → Option Numbers
numbers_by None = None
numbers_by (Some r) = if is_base r then Some (numbers_in r) else None

-- `None` where there is no file of this number
abbrev pub numbers_at : Records → ℕ → Option Numbers
numbers_at records f = numbers_by (records.record_at f)

-- The file, or that there is none, stays with all its names.
pub record KeepsNames (old new : Records) (f : ℕ) : Type 0 where
  pub numbers : numbers_at new f ≡ numbers_at old f
  pub names : SameItems (names_of old f) (names_of new f)

-- all files but one
abbrev pub KeepsOthers : Records → Records → ℕ → Type 0
KeepsOthers old new f = (g : ℕ) → g ≢ f → KeepsNames old new g

-- File f gets a name, and counts it.
pub record GetsName (old new : Records) (f : ℕ) (name : FileName) : Type 0 where
  pub others : KeepsOthers old new f
  pub was : Numbers
  pub was_at : numbers_at old f ≡ Some was
  pub now_at : numbers_at new f ≡ Some (record was { links = was.links + 1 })
  pub names : SameItems (name ∷ names_of old f) (names_of new f)

-- it loses one: the same backwards
abbrev pub LosesName : Records → Records → ℕ → FileName → Type 0
LosesName old new f name = GetsName new old f name

-- A file comes that has no name yet.
pub record ComesUnnamed (old new : Records) (f : ℕ) (now : Numbers) : Type 0 where
  pub others : KeepsOthers old new f
  pub none : numbers_at old f ≡ None
  pub now_at : numbers_at new f ≡ Some now
  pub nowhere : names_of old f ≡ []
  pub unnamed : names_of new f ≡ []

-- one goes that has none any more
abbrev pub GoesUnnamed : Records → Records → ℕ → Numbers → Type 0
GoesUnnamed old new f was = ComesUnnamed new old f was

-- whether the reference names a file that is a directory
abbrev pub is_directory_by : Option Numbers → ℕ → Bool
is_directory_by None sequence = false
is_directory_by (Some numbers) sequence = numbers.directory && (numbers.sequence == sequence)

abbrev pub is_directory_in : Records → Reference → Bool
is_directory_in records reference = is_directory_by (numbers_at records reference.number) reference.sequence

-- The two parts of the clause on references: those of extension records, which calls on the records of one file keep ..
abbrev pub HasRightBases : Records → Type 0
HasRightBases records = (n : ℕ) → IfSome (records.record_at n) (λ r. IfSome r.header.base (NamesBase records))

-- .. and those of names, which links have to keep.
abbrev pub StandRightly : Records → Type 0
StandRightly records = (f : ℕ) → All (λ name. IsTrue (is_directory_in records name.parent)) (names_of records f)

-- no name stands in the directory of this number
abbrev pub HasNoNames : Records → ℕ → Type 0
HasNoNames records dir = (f : ℕ) → All (λ name. name.parent.number ≢ dir) (names_of records f)

-- What the clause on links asks of the names of a file, but for the way to the root: of DOS names by the directories that have one.
abbrev pub ArePaired : List FileName → Type 0
ArePaired names = (dir : ℕ) → 1 ≤ count_by (is_dos_in dir) names
    → (1 ≤ count_by (is_long_in dir) names) × (count_by (is_dos_in dir) names ≤ 1)

pub record HasRightNames (f : ℕ) (numbers : Numbers) (names : List FileName) : Type 0 where
  pub named : FIRST_ORDINARY ≤ f → 1 ≤ length names
  pub count : FIRST_ORDINARY ≤ f → numbers.links ≡ length names
  pub paired : ArePaired names
  pub once : f ≢ ROOT → IsTrue numbers.directory → count_by is_not_dos names ≡ 1

-- Names that go, all of one directory, which keeps a long name or has no DOS name any more.
pub record DropsNames (dir : ℕ) (gone old new : List FileName) : Type 0 where
  pub items : SameItems (gone ++ new) old
  pub there : All (λ name. name.parent.number ≡ dir) gone
  pub pairs : (count_by (is_dos_in dir) new ≡ 0) ⊎ (1 ≤ count_by (is_long_in dir) new)

-- File f loses these names, one after another.
pub record LosesNames (old new : Records) (f : ℕ) (gone : List FileName) : Type 0 where
  pub others : KeepsOthers old new f
  pub now : Numbers
  pub now_at : numbers_at new f ≡ Some now
  pub was_at : numbers_at old f ≡ Some (record now { links = now.links + length gone })
  pub names : SameItems (gone ++ names_of new f) (names_of old f)

-- THE NAMES THAT GO WITH ONE, of all names of its file: itself, and for the only long name of its directory the DOS names there.
abbrev pub is_only_long : List FileName → FileName → Bool
is_only_long names name = (name.namespace == 1) && not (nat_lt 1 (count_by (is_long_in name.parent.number) names))

abbrev pub gone_names : List FileName → FileName → List FileName
gone_names names name =
    name ∷ (if is_only_long names name then filter (is_dos_in name.parent.number) names else [])
