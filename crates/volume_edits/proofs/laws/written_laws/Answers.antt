use Rattle.volume_edits.proofs.ClusterWrites.{WritesStream-sector, WritesStream-then}
use Rattle.volume_edits.proofs.StreamClusters.{value-written}
use Rattle.volume_edits.proofs.laws.written_laws.Goals as goal

pub returns-clause-sector : goal.returns-clause-sector
returns-clause-sector c = WritesStream-sector

pub returns-clause-joined : goal.returns-clause-joined
returns-clause-joined c = WritesStream-then

pub returns-clause-value : goal.returns-clause-value
returns-clause-value c = value-written
