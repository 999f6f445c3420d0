-- What the parts of a file show, as far as an entry of a directory repeats it.
use Rattle.std.specs.Prelude.{◌≡◌, ℕ, List, [], filter}
use Rattle.ntfs_def.specs.StandardInformation.{standard_times}
use Rattle.ntfs_def.specs.declared.kinds.TheConstants.{DATA}
use Rattle.volume_def.specs.Files.{Part, is_of}
use Rattle.volume_def.specs.Values.{first_part}
use Rattle.tree_model.specs.Reading.{standard_flags, standard_of}
use Rattle.edit_def.specs.Items.{stream_sizes}
use Rattle.dir_index.specs.declared.entry.DuplicatedInformation.{DuplicatedInformation}

-- The times and the flags of the $STANDARD_INFORMATION among these parts, and the sizes of the unnamed stream.
pub record IsToldBy (parts : List Part) (told : DuplicatedInformation) : Type 0 where
  pub times : told.times ≡ standard_times (standard_of parts)
  pub flags : told.flags ≡ standard_flags (standard_of parts)
  pub sizes : ◌≡◌ {A = ℕ × ℕ} (told.allocated, told.real) (stream_sizes (first_part (filter (is_of DATA []) parts)))
