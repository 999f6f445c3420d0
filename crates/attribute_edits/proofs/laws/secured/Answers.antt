use Rattle.attribute_edits.proofs.SecuredVolume as laws
use Rattle.attribute_edits.proofs.laws.secured.Goals as goal

pub returns : goal.returns
returns c old new f id node small can secures = laws.secured old new f id node small can secures
