-- What a file shows of itself, as far as an entry of a directory repeats it.
use Rattle.std.specs.Prelude.{◌≡◌, ℕ, []}
use Rattle.ntfs_def.specs.StandardInformation.{standard_times}
use Rattle.ntfs_def.specs.declared.kinds.TheConstants.{DATA}
use Rattle.volume_def.specs.Files.{parts, parts_at, records_of}
use Rattle.volume_def.specs.Values.{first_part}
use Rattle.volume_def.specs.View.{VolumeView}
use Rattle.dir_index.specs.Reading.{standard_flags, standard_of}
use Rattle.volume_mark.specs.Items.{stream_sizes}
use Rattle.dir_index.specs.declared.entry.DuplicatedInformation.{DuplicatedInformation}

-- The times and the flags of its $STANDARD_INFORMATION, and the sizes of its unnamed stream.
pub record IsToldOf (view : VolumeView) (f : ℕ) (told : DuplicatedInformation) : Type 0 where
  pub times : told.times ≡ standard_times (standard_of (parts (records_of view) f))
  pub flags : told.flags ≡ standard_flags (standard_of (parts (records_of view) f))
  pub sizes : ◌≡◌ {A = ℕ × ℕ} (told.allocated, told.real) (stream_sizes (first_part (parts_at view f DATA [])))
