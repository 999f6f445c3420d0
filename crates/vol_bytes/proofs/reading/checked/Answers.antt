use Rattle.std.proofs.Common.{◌<◌, length, arith}
use Rattle.std.proofs.lemmas.Bool.Decides.{nat_tests}
use Rattle.vol_bytes.proofs.LetterLaws.{IsNameText-bytes, IsNameText-some, IsSpelled-utf8}
use Rattle.vol_bytes.proofs.reading.checked.Goals as goal

pub returns-then-is_empty-clause-none : goal.returns-then-is_empty-clause-none
returns-then-is_empty-clause-none c = λ none units named.
    let some = IsNameText-bytes c.args.text.now units named in
    grind (arith, nat_tests, some, c.if-is_empty.ensures)

pub returns-in_default-clause-none : goal.returns-in_default-clause-none
returns-in_default-clause-none c = λ none units named. c.in_default.ensures.cases.0 (IsSpelled-utf8 c.args.text.now units named.spelled)

pub returns-then-are_letters-clause-some : goal.returns-then-are_letters-clause-some
returns-then-are_letters-clause-some c =
    let spelled = c.are_letters.ensures.yes c.if-are_letters.true in
    let some : 0 < length c.args.text.now = grind (arith, nat_tests, c.if-is_empty.ensures) in
    (spelled.0, IsNameText-some c.args.text.now spelled.0 some (rw c.in-Ok.ensures.cases.0 at spelled.1))

pub returns-else-are_letters-clause-none : goal.returns-else-are_letters-clause-none
returns-else-are_letters-clause-none c = λ none units named.
    c.are_letters.ensures.no c.if-are_letters.false units (rw c.in-Ok.ensures.cases.0 named.spelled)
