use Rattle.std.proofs.Common.{sym, ◌∙◌}
use Rattle.vol_bytes.specs.NameText.{escape_digit}
use Rattle.vol_bytes.proofs.LetterLaws.{IsDigit-escape_digit, char-front}
use Rattle.vol_bytes.proofs.reading.next_digit.Goals as goal

pub returns-clause-none : goal.returns-clause-none
returns-clause-none c = λ none value rest h e.
    let d = IsDigit-escape_digit value h in
    let same = char-front c.in_ok-next.field-0 (escape_digit value) _ rest d.ascii (sym c.in_ok-next.ensures.steps.0 ∙ e) in
    c.digit.ensures.none none value h same.0
