use Rattle.std.proofs.Common.{◌∙◌, arith}
use Rattle.vol_disk.specs.Contents.{IsTold, sector_in}
use Rattle.volume_format.specs.Plan.{Plan}
use Rattle.volume_format.specs.Written.{FirstStand}
use Rattle.volume_format.proofs.KeptItems.{FirstStand-kept, NextStand-kept}
use Rattle.volume_format.proofs.write.write_items.Goals as goal

pub returns-clause-stand : goal.returns-clause-stand
returns-clause-stand g c told =
    let p : Plan = c.args.places.now in
    let one = c.in_ok-next.ensures in
    let two = c.in_ok-next-2.ensures in
    let three = c.in_ok-write_last.ensures in
    let told_one : IsTold (g.D.Disk.now c.write_first.new.disk) = one.keeps.told ∙ told in
    let told_two : IsTold (g.D.Disk.now c.write_next.new.disk) = two.keeps.told ∙ told_one in
    let first : FirstStand (sector_in (g.D.Disk.now c.write_next.new.disk)) p c.args.boot.now c.args.table.now =
    FirstStand-kept _ _ p _ _ two.others _ _ (omega arith) (one.stand told) in
    record {
      first = FirstStand-kept _ _ p _ _ three.others _ _ (omega arith) first;
      next = NextStand-kept _ _ p _ _ three.others _ (omega arith) (two.stand told_one);
      last = three.stand told_two;
    }
