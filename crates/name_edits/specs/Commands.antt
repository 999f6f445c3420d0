-- WHAT COMMANDS MAKE OF NAMES: each as its calls in their order, as links and directories see them, from the records before it to those
-- behind it.
use Rattle.std.specs.Prelude.{ℕ, Bool, List}
use Rattle.ntfs_def.specs.FileName.{FileName}
use Rattle.volume_def.specs.Files.{Records}
use Rattle.edit_def.specs.Names.{ComesUnnamed, GetsName, GoesUnnamed, KeepsNames, LosesNames, Numbers}

-- `create` and `mkdir`: a file comes and gets its name.
pub record CreatesFile (old new : Records) (f : ℕ) (name : FileName) : Type 0 where
  pub made : Records
  pub named : Records
  pub sequence : ℕ
  pub directory : Bool
  pub comes : ComesUnnamed old made f (record { sequence = sequence; links = 0; directory = directory })
  pub gets : GetsName made named f name
  pub kept : (g : ℕ) → KeepsNames named new g

-- `ln`: it gets one more.
pub record LinksFile (old new : Records) (f : ℕ) (name : FileName) : Type 0 where
  pub named : Records
  pub gets : GetsName old named f name
  pub kept : (g : ℕ) → KeepsNames named new g

-- `rm` of one of several names: it loses those that go with it.
pub record UnlinksFile (old new : Records) (f : ℕ) (gone : List FileName) : Type 0 where
  pub left : Records
  pub loses : LosesNames old left f gone
  pub kept : (g : ℕ) → KeepsNames left new g

-- `rm` of the last one, and `rmdir`: then it goes.
pub record RemovesFile (old new : Records) (f : ℕ) (gone : List FileName) : Type 0 where
  pub left : Records
  pub without : Records
  pub was : Numbers
  pub loses : LosesNames old left f gone
  pub goes : GoesUnnamed left without f was
  pub kept : (g : ℕ) → KeepsNames without new g

-- `mv`: it loses names, and gets one.
pub record MovesFile (old new : Records) (f : ℕ) (gone : List FileName) (fresh : FileName) : Type 0 where
  pub left : Records
  pub stamped : Records
  pub named : Records
  pub loses : LosesNames old left f gone
  pub between : (g : ℕ) → KeepsNames left stamped g
  pub gets : GetsName stamped named f fresh
  pub kept : (g : ℕ) → KeepsNames named new g
