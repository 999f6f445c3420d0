use Rattle.volume_edits.proofs.OwnerLaws.{HasOwners-sound}
use Rattle.volume_edits.proofs.StreamClusters.{HasOwners-written, others-kept, stream-own}
use Rattle.volume_edits.proofs.laws.cluster_laws.Goals as goal

pub returns-clause-sound : goal.returns-clause-sound
returns-clause-sound c = HasOwners-sound

pub returns-clause-own : goal.returns-clause-own
returns-clause-own c = stream-own

pub returns-clause-others : goal.returns-clause-others
returns-clause-others c view new f kind name at bytes o = others-kept view f kind name o new at bytes

pub returns-clause-owners : goal.returns-clause-owners
returns-clause-owners c = HasOwners-written
