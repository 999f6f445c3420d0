use Rattle.index_store.proofs.HeldIndexLaws.{index-held}
use Rattle.index_store.proofs.IndexRecordLaws.{records-of}
use Rattle.index_store.proofs.laws.index_laws.Goals as goal

pub returns-clause-parts : goal.returns-clause-parts
returns-clause-parts c = index-held

pub returns-clause-records : goal.returns-clause-records
returns-clause-records c view index some = records-of view index some
