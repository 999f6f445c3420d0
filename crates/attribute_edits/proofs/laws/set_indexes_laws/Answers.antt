use Rattle.attribute_edits.proofs.AttributesSet as volume
use Rattle.attribute_edits.proofs.laws.set_indexes_laws.Goals as goal

pub returns-clause-heads : goal.returns-clause-heads
returns-clause-heads c old new f times flags node s can shown dir was now at bt =
    volume.heads old new f times flags s can.sound can.apart can.other can.elsewhere shown node can.there dir was now at bt

pub returns-clause-depths : goal.returns-clause-depths
returns-clause-depths c old new f times flags node s can shown dir =
    volume.depths old new f times flags s can.sound can.apart can.other can.elsewhere shown node can.there dir

pub returns-clause-indexes : goal.returns-clause-indexes
returns-clause-indexes c old new f times flags node s can shown changes dir =
    volume.indexes old new f times flags s can.sound can.apart can.other can.elsewhere shown node can.there changes dir
