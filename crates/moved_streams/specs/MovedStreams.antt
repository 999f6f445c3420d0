-- A STREAM THAT MOVED INTO CLUSTERS: it was a value alone, of a file without an attribute list. A run was taken that has clusters for its
-- bytes, the bytes were put into them, and then its attribute became an extent of that run.
-- Layout: Linux-NTFS documentation, attribute `$DATA` and "Attribute Headers"; Carrier, File System Forensic Analysis, chapter 13.
use Rattle.std.specs.Prelude.{◌≡◌, ◌*◌, ◌^◌, ◌≤◌, ℕ, [], ◌∷◌, List, Some, length}
use Rattle.ntfs_def.specs.declared.kinds.TheConstants.{DATA}
use Rattle.ntfs_def.specs.declared.run_text.Run.{Run}
use Rattle.volume_def.specs.Files.{part_of, parts_at}
use Rattle.volume_def.specs.Table.{cluster_bytes}
use Rattle.volume_def.specs.View.{VolumeView}
use Rattle.value_moves.specs.Moved.{MovesValue}
use Rattle.value_edits.specs.ValueEdits.{IsStreamOf, WritesBehind}

-- The stream of this name of file f, attribute i of its base record, lies in this run then, and has `real` bytes. These bytes were put into
-- the run, from its first on, and so many count as written.
pub record MovesStream (old new : VolumeView) (f i : ℕ) (name : List ℕ) (run : Run) (real : ℕ) (bytes : List ℕ) : Type 0 where
  pub flagged : VolumeView
  pub mid : VolumeView
  pub fills : WritesBehind old flagged mid [] (Some run) 0 bytes
  pub moves : MovesValue mid new f i run real (length bytes)
  pub is : IsStreamOf name moves.was
  pub stood : parts_at old f DATA name ≡ part_of f moves.was ∷ []
  pub more : length bytes ≤ real
  pub near : real ≤ 2 ^ 40
  pub room : real ≤ run.len * cluster_bytes old.layout
