-- The bits in memory that a mounted volume keeps.
use Rattle.edit_def.specs.Marks.{Marks}
use Rattle.file_record.specs.MountedType.{Mounted}

abbrev pub marks_of : Mounted → Marks
marks_of mounted = record { clusters = mounted.clusters; records = mounted.records }
