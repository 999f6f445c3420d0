use Rattle.attribute_edits.proofs.StandardVolume as volume
use Rattle.attribute_edits.proofs.laws.set_node_laws.Goals as goal

pub returns-clause-sound : goal.returns-clause-sound
returns-clause-sound c old new f times flags s sound outside apart = volume.sound-set old new f times flags s sound outside apart

pub returns-clause-reads : goal.returns-clause-reads
returns-clause-reads c old new f times flags s sound outside apart shown node there =
    volume.reads-set old new f times flags s sound outside apart shown node there

pub returns-clause-standard : goal.returns-clause-standard
returns-clause-standard c old new f times flags s sound outside apart shown node there =
    volume.standard-kept old new f times flags s sound outside apart shown node there

pub returns-clause-marks : goal.returns-clause-marks
returns-clause-marks c old new f times flags s sound outside apart shown node there =
    volume.marks-kept old new f times flags s sound outside apart shown node there
