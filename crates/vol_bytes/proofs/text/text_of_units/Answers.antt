use Rattle.std.proofs.Common.{◌<◌, length, ◌∙◌, arith}
use Rattle.std.proofs.lemmas.Bool.Decides.{nat_tests}
use Rattle.std.proofs.lemmas.List.Elements.{All-from_get_or}
use Rattle.vol_bytes.proofs.LetterLaws.{printed_back}
use Rattle.vol_bytes.proofs.NameLaws.{printed-all}
use Rattle.vol_bytes.proofs.text.text_of_units.Goals as goal

pub returns-clause-text : goal.returns-clause-text
returns-clause-text c = c.from_vec.ensures ∙ printed-all _ c.args.units.now c.loop-at.at c.loop-at-test.false c.loop-at.invariant.printed

pub returns-clause-name : goal.returns-clause-name
returns-clause-name c =
    let units = c.args.units.now in
    let some : 0 < length units = grind (arith, nat_tests, c.if-is_empty.ensures) in
    let small = All-from_get_or (λ unit. unit < 0x10000) units 0 (λ k within. omega (arith, c.type_inv.units k)) in
    let text = c.from_vec.ensures ∙ printed-all _ units c.loop-at.at c.loop-at-test.false c.loop-at.invariant.printed in
    rw text (printed_back units small some)
