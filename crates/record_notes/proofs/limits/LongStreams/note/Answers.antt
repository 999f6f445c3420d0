use Rattle.std.proofs.Common.{◌+◌, sym, subst}
use Rattle.record_notes.specs.Limits.{IsLeastLong}
use Rattle.record_notes.proofs.LimitLaws.{long-next}
use Rattle.record_notes.proofs.limits.LongStreams.note.Goals as goal

pub returns : goal.returns
returns c = λ records at note.
    subst (IsLeastLong records (c.args.n + 1)) (sym c.least_of-self.ensures)
    (long-next records c.args.n c.args.self.now.least c.long_in-long.result note (c.long_in-long.ensures records at))
