use Rattle.vol_stage.proofs.ImageLaws.{image_of-plain, length-image_of}
use Rattle.vol_stage.proofs.laws.image_laws.Goals as goal

pub returns-clause-length : goal.returns-clause-length
returns-clause-length g c =
    let stage = c.args._stage.now in
    length-image_of stage.writes.items (g.D.Disk.size stage.disk.now) stage.within stage.whole (g.D.Disk.now stage.disk.now)
    (g.met.D.Disk.told_length stage.disk.now)

pub returns-clause-plain : goal.returns-clause-plain
returns-clause-plain g c sector not =
    let stage = c.args._stage.now in
    image_of-plain stage.writes.items (g.D.Disk.size stage.disk.now) stage.within stage.whole (g.D.Disk.now stage.disk.now) sector
    (g.met.D.Disk.told_length stage.disk.now) not
