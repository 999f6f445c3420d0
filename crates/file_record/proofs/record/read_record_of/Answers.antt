use Rattle.mft_table.specs.Mft.{view}
use Rattle.file_record.proofs.RecordLaws.{found-other, found-own}
use Rattle.file_record.proofs.record.read_record_of.Goals as goal

pub returns-in-Ok-clause-own : goal.returns-in-Ok-clause-own
returns-in-Ok-clause-own g c told =
    found-own (view g.D.Disk c.args.mft.now) c.args.number c.args.n _ c.requires (c.in-Ok.ensures.opens told)
    (c.in-Ok.ensures.read told) c.count_of.result c.count_of.ensures.some

pub returns-in-Ok-clause-other : goal.returns-in-Ok-clause-other
returns-in-Ok-clause-other g c told =
    found-other (view g.D.Disk c.args.mft.now) c.args.number c.args.n _ c.requires (c.in-Ok.ensures.opens told)
    (c.in-Ok.ensures.read told) c.count_of.result c.count_of.ensures.none
