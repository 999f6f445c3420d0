-- A volume whose files can be read: the clauses S3 to S6 hold of its records. That its table lies where the view says is
-- the claim of S1 and S2, which stand before the view.
use Rattle.std.specs.Prelude.{ℕ, IsSomeAnd, IsTrue}
use Rattle.volume_def.specs.AttributesClause.{MeetsAttributes}
use Rattle.volume_def.specs.ExtentsClause.{MeetsExtents}
use Rattle.volume_def.specs.Files.{is_base, is_directory, record_on, records_of}
use Rattle.volume_def.specs.ListsClause.{MeetsLists}
use Rattle.volume_def.specs.ShapeClause.{MeetsShape}
use Rattle.volume_def.specs.Table.{cluster_bytes}
use Rattle.volume_def.specs.View.{VolumeView}

pub record IsReadableVolume (view : VolumeView) : Type 0 where
  pub shape : (n : ℕ) → MeetsShape view n
  pub attributes : (n : ℕ) → MeetsAttributes (records_of view) n
  pub lists : (n : ℕ) → MeetsLists view n
  pub extents : (n : ℕ) → MeetsExtents (records_of view) (cluster_bytes view.layout) n

-- what is claimed of a volume whose files can be read, where its contents are told
abbrev pub WhereReadable : VolumeView → Type 0 → Type 0
WhereReadable view P = IsTrue view.told → IsReadableVolume view → P

-- Record f is in use, and a base record: there is a file of this number.
abbrev pub IsFile : VolumeView → ℕ → Type 0
IsFile view f = IsSomeAnd (record_on view f) (λ r. IsTrue (is_base r))

-- .. and a directory's
abbrev pub IsDirectory : VolumeView → ℕ → Type 0
IsDirectory view f = IsSomeAnd (record_on view f) (λ r. IsTrue (is_base r) × IsTrue (is_directory r))
