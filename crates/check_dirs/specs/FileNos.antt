-- Why a call over files fails.
use Rattle.file_record.specs.declared.error.FileNo.{FileNo}
use Rattle.file_record.specs.declared.error.FileNo.TheVariants as file
use Rattle.check_dirs.specs.declared.CheckNo.{CheckNo}
use Rattle.check_dirs.specs.declared.CheckNo.TheVariants.{Device, Memory}

-- what a failed read of a file says
abbrev pub said_of_file : FileNo → CheckNo
said_of_file file.Device = Device
said_of_file _ = Memory
