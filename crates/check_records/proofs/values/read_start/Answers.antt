use Rattle.std.proofs.Common.{◌≡◌, ◌-◌, ◌≤◌, ◌++◌, length, min, replicate, sym, ap, subst, ◌∙◌, arith}
use Rattle.std.proofs.lemmas.List.{length-take-le}
use Rattle.volume_def.specs.Values.{value_on}
use Rattle.mft_table.specs.Mft.{view}
use Rattle.attr_store.proofs.Filled.{filled}
use Rattle.list_laws.specs.BitRanges.{IsPieceOf}
use Rattle.check_records.proofs.StreamLaws.{noted-start, value-resident}
use Rattle.check_records.proofs.values.read_start.Goals as goal

pub returns-in-Some-clause-read : goal.returns-in-Some-clause-read
returns-in-Some-clause-read g c told extents notes places =
    let v = view g.D.Disk c.args.mft.now in
    subst (λ value. IsPieceOf value 0 c.copy_start.new.into)
    (sym (value-resident v extents c.in-Some.value.now (c.in-Some.ensures.some extents notes))) c.copy_start.ensures

pub returns-clause-read : goal.returns-clause-read
returns-clause-read g c told extents notes places =
    let v = view g.D.Disk c.args.mft.now in
    let n = c.min-written.result in
    let len = length c.args.into.now in
    let within : n ≤ len = omega (arith, c.min-written.ensures) in
    let all = length-take-le n c.args.into.now within in
    let read = rw all at c.in_ok-read_stored.ensures.read told in
    let short : length c.read_stored.new.into ≡ n = omega (arith, all) in
    let is =
    filled c.args.into.now c.read_stored.new.into c.fill.new.self n _ within short (omega arith) (c.fill.ensures.after (λ y e. e)) in
    subst (IsPieceOf (value_on v extents) 0) (sym (is ∙ ap (λ xs. xs ++ replicate (len - n) 0) read))
    (noted-start v extents c.args.note.now n len notes (c.in_default.ensures.none extents notes)
    (c.min-written.ensures ∙ ap (λ k. min k len) (c.written_len.ensures extents notes)) places)
