use Rattle.std.proofs.Common.{get_or, length, ap, ◌∙◌, arith}
use Rattle.file_record.specs.Held.{held_of}
use Rattle.mount_check.proofs.PlaceLaws.{noted-all, noted-more}
use Rattle.mount_check.proofs.mirror_place.note_copies.Goals as goal

pub loop-held-preserved : goal.loop-held-preserved
loop-held-preserved c =
    let all = c.records-held-items.ensures in
    let one = c.held-item.result in
    let long = ap length all in
    record {
      noted = noted-more (held_of c.args.file.now) c.loop-held.held-index one one _ c.note_record.new.self
          (omega (arith, c.loop-held-test.true)) (c.held-item.is ∙ ap (λ xs. get_or xs c.loop-held.held-index one) all) c.view.ensures
          (c.in_ok-note_record.ensures.noted one.number _ c.loop-held.invariant.noted);
      places = c.note_record.ensures.places ∙ c.loop-held.invariant.places;
    }

pub returns-clause-noted : goal.returns-clause-noted
returns-clause-noted c =
    let long = ap length c.records-held-items.ensures in
    noted-all (held_of c.args.file.now) c.loop-held.held-index c.loop-held.note (omega (arith, c.loop-held-test.false))
    c.loop-held.invariant.noted
