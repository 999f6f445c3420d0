-- The stored bitmaps, of clusters (S8) and of records (S9), as they are compared a piece at a time with what is noted.
use Rattle.std.specs.Prelude.{◌≡◌, ℕ, ◌+◌, ◌/◌, min, length}
use Rattle.volume_def.specs.BitmapClauses.{HasNoHole, cluster_bits, written_by}
use Rattle.volume_def.specs.Values.{IsPlain}
use Rattle.volume_def.specs.Values.{first_part}
use Rattle.volume_def.specs.Files.{records_of}
use Rattle.volume_def.specs.OwnersClause.{MeetsOwners}
use Rattle.volume_def.specs.Values.{value_on}
use Rattle.volume_def.specs.View.{VolumeView}
use Rattle.record_notes.specs.Owners.{OwnersNote, clusters_noted}
use Rattle.record_notes.specs.declared.owners.Owners.{Owners}

-- The owners of all records of a volume are noted, and it meets the clause on them.
pub record AllOwnersNote (view : VolumeView) (owners : Owners) : Type 0 where
  pub clusters : clusters_noted owners ≡ view.layout.clusters
  pub noted : OwnersNote (records_of view) view.layout.count owners
  pub meets : (n : ℕ) → MeetsOwners (records_of view) view.layout.clusters n

-- What a caller finds before it compares: the bitmap of clusters is not packed and has no hole (otherwise cluster 0 breaks
-- the clause), and so many of its bytes were written: those below its initialized size, and below its end.
pub record HasClusterBytes (view : VolumeView) (written : ℕ) : Type 0 where
  pub plain : IsPlain (cluster_bits view)
  pub placed : HasNoHole (cluster_bits view)
  pub written_is : written ≡ min (length (value_on view (cluster_bits view))) (written_by (first_part (cluster_bits view)))

-- the bytes with a bit for each cluster, of those that were written
abbrev pub cluster_bytes_needed : ℕ → ℕ → ℕ
cluster_bytes_needed clusters written = min ((clusters + 7) / 8) written
