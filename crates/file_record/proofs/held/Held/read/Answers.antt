use Rattle.std.proofs.Common.{length, ap, arith}
use Rattle.mft_table.specs.declared.mounted.Mounted.{Mounted}
use Rattle.mft_table.specs.Mft.{view}
use Rattle.file_record.proofs.RecordLaws.{IsRecordOf-inside}
use Rattle.file_record.proofs.held.Held.read.Goals as goal

pub returns-then-n-count-clause-other : goal.returns-then-n-count-clause-other
returns-then-n-count-clause-other g c told own =
    let inside = IsRecordOf-inside (view g.D.Disk c.args.mft.now) c.args.number c.args.n own in
    let count = ap (λ (m : Mounted). length m.records) c.mounted.ensures in
    absurd (omega (arith, inside, count, c.count.ensures, c.if-n-count.true))
