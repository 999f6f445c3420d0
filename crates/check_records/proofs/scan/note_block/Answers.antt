use Rattle.std.proofs.Common.{◌≡◌, Some, ap, sym, ◌∙◌, true, false}
use Rattle.ntfs_def.specs.Record.{is_in_use}
use Rattle.volume_def.specs.Files.{record_of}
use Rattle.check_records.proofs.ScanLaws.{record_in-unused, record_in-used}
use Rattle.check_records.proofs.scan.note_block.Goals as goal

pub returns-then-not-is_in_use-clause-noted : goal.returns-then-not-is_in_use-clause-noted
returns-then-not-is_in_use-clause-noted c = λ right records is note.
    let unused : is_in_use c.args.block.now ≡ false = sym c.is_in_use.ensures ∙ c.if-not-is_in_use.true in
    c.in_ok-note_unused.ensures.noted records c.args.n (is ∙ record_in-unused c.args.n c.args.block.now unused) note

pub returns-clause-noted : goal.returns-clause-noted
returns-clause-noted c = λ right records is note.
    let used : is_in_use c.args.block.now ≡ true = sym c.is_in_use.ensures ∙ c.if-not-is_in_use.false in
    c.in_ok-note.ensures.noted records
    (is ∙ record_in-used c.args.n c.args.block.now used ∙ ap (λ b. Some (record_of c.args.n b)) (sym c.in-Some.ensures.some.1)) note
