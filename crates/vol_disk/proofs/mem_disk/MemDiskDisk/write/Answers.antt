use Rattle.std.proofs.Common.{ap, ◌∙◌, Some}
use Rattle.vol_disk.specs.Contents.{sector_in}
use Rattle.vol_disk.specs.Replay.{replay}
use Rattle.vol_disk.proofs.SectorLaws.{sector_in-same, sector_in-other}
use Rattle.vol_disk.proofs.mem_disk.MemDiskDisk.write.Goals as goal

pub returns-clause-here : goal.returns-clause-here
returns-clause-here c =
    let disk = c.args.self.now in
    let all = replay disk.writes.items disk.first.items in
    ap (λ all. sector_in (Some all) c.args.sector) c.record.ensures.now
    ∙ sector_in-same all c.args.from.now disk.sectors c.args.sector disk.sized c.requires c.told-from

pub returns-clause-other : goal.returns-clause-other
returns-clause-other c other ne =
    let disk = c.args.self.now in
    let all = replay disk.writes.items disk.first.items in
    ap (λ all. sector_in (Some all) other) c.record.ensures.now
    ∙ sector_in-other all c.args.from.now disk.sectors c.args.sector other disk.sized c.requires c.told-from ne
