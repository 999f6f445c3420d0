use Rattle.std.proofs.Common.{rules}
use Rattle.vol_disk.specs.Contents.{sector_in}
use Rattle.vol_disk.proofs.mem_disk.MemDiskDisk.read.Goals as goal

pub returns-clause-read : goal.returns-clause-read
unfolding sector_in
returns-clause-read c = search rules
