use Rattle.std.proofs.Common.{arith}
use Rattle.volume_format.proofs.WholeClusters.{rounded-most}
use Rattle.volume_format.proofs.item.write_item.Goals as goal

pub write_sectors-requires-clause-within : goal.write_sectors-requires-clause-within
write_sectors-requires-clause-within g c =
    let per = c.sectors_per-per.ensures in
    let most = rounded-most c.args.places.now.size c.args.len per.one in
    rw (c.clusters_needed-clusters.ensures.clusters_needed, per.per) (omega (arith, most, c.requires.within))
