use Rattle.std.proofs.Common.{refl}
use Rattle.tree_ops.proofs.VolumeLaws.{new-serves}
use Rattle.tree_ops.proofs.volume.Volume.new.Goals as goal

pub returns-clause-serves : goal.returns-clause-serves
returns-clause-serves g c =
    new-serves g.D.Disk _ c.over-stage.result c.args.mounted c.args.disk.now c.resume.ensures.stage c.resume.ensures.mounted
    c.resume.ensures.committed c.over-stage.ensures.disk c.over-stage.ensures.image c.over-stage.ensures.places c.over-stage.ensures.sound
    c.requires.accepted refl c.new.ensures c.requires.mirror refl
