-- The stream of the file of copies, as it is held.
use Rattle.std.specs.Prelude.{List, [], filter}
use Rattle.ntfs_def.specs.declared.kinds.TheConstants.{DATA}
use Rattle.volume_def.specs.Files.{Part, is_of}
use Rattle.file_record.specs.declared.parts.FileParts.{FileParts}
use Rattle.file_record.specs.Held.{parts_held}

-- the parts of the unnamed $DATA of a file
abbrev pub data_held : FileParts → List Part
data_held file = filter (is_of DATA []) (parts_held file)
