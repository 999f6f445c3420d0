use Rattle.std.proofs.Common.{◌≡◌, Ok, sym, ap, ◌∙◌}
use Rattle.std.specs.Prelude.{decimal}
use Rattle.std.proofs.lemmas.Fmt.{parse-decimal}
use Rattle.shell.proofs.words.read_number.Goals as goal

pub returns-in_default-clause-exact : goal.returns-in_default-clause-exact
returns-in_default-clause-exact c number h e =
    let ok : c.parse.result ≡ Ok number = parse-decimal 64 number _ _ h h e c.parse.ensures.value.0 in
    let err = c.in_default.is in
    absurd (cc)

pub returns-then-is_word-clause-exact : goal.returns-then-is_word-clause-exact
returns-then-is_word-clause-exact c number h e =
    let ok : c.parse.result ≡ Ok number = parse-decimal 64 number _ _ h h e c.parse.ensures.value.0 in
    let is = c.in-Ok.is in
    cc

pub returns-else-is_word-clause-exact : goal.returns-else-is_word-clause-exact
returns-else-is_word-clause-exact c number h e =
    let ok : c.parse.result ≡ Ok number = parse-decimal 64 number _ _ h h e c.parse.ensures.value.0 in
    let is = c.in-Ok.is in
    let same : number ≡ c.in-Ok.number = cc in
    let yes = c.is_word.ensures.1 (e ∙ ap decimal same ∙ sym c.format.ensures.text) in
    let no = c.if-is_word.false in
    absurd (cc)
