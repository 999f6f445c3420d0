use Rattle.std.proofs.Common.{arith}
use Rattle.file_record.proofs.LinkLaws.{base-not_held}
use Rattle.file_record.proofs.parts.FileParts.base_place.Goals as goal

pub returns-clause-none : goal.returns-clause-none
returns-clause-none c =
    let file = c.args.self.now in
    let held = c.deref-held-items.ensures.value in
    base-not_held file (λ k d lt. c.loop-place.invariant k d
    (omega (arith, lt, c.loop-place-test.false, c.deref-held-items.ensures.len, file.held.ok)))
