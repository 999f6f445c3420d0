use Rattle.vol_disk.proofs.mem_disk.put_sector.Goals as goal
use Rattle.vol_disk.proofs.SectorLaws.{put_mid-with_sector}

pub returns : goal.returns
returns c = rw c.copy_from_slice.ensures.after (put_mid-with_sector c.args.all.now c.args.from.now c.args.sector)
