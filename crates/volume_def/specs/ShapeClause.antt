-- The clause on the shape of records, S3, by the number of a record. What the shape is stands with the layout of a record.
use Rattle.std.specs.Prelude.{ℕ, ◌<◌, IsTrue}
use Rattle.ntfs_def.specs.Record.{is_in_use}
use Rattle.volume_def.specs.Table.{IsWellFormed}
use Rattle.volume_def.specs.View.{VolumeView}

-- A block in use opens, and has the shape of a record.
abbrev pub MeetsShape : VolumeView → ℕ → Type 0
MeetsShape view n = n < view.layout.count → IsTrue (is_in_use (view.block n)) → IsWellFormed (view.block n)
