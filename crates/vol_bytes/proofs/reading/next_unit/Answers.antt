use Rattle.std.proofs.Common.{◌/◌, ◌%◌, ◌∷◌, drop, refl, sym, ap, ◌∙◌, arith}
use Rattle.vol_bytes.specs.NameText.{escape_digit}
use Rattle.vol_bytes.proofs.reading.next_unit.Goals as goal

pub returns-in_err-first-clause-none : goal.returns-in_err-first-clause-none
returns-in_err-first-clause-none c = λ none unit rest h e. c.in_err-first.ensures.none refl (unit / 4096) _ (omega arith) (ap (drop 1) e)

pub returns-in_err-last-clause-none : goal.returns-in_err-last-clause-none
returns-in_err-last-clause-none c = λ none unit rest h e.
    let one = c.in_ok-first.ensures.some.1 in
    let two = c.in_ok-second.ensures.some.1 in
    let three = c.in_ok-third.ensures.some.1 in
    let whole = one ∙ ap (λ x. escape_digit c.in_ok-first.first ∷ x)
    (two ∙ ap (λ x. escape_digit c.in_ok-second.second ∷ x) three) in
    c.in_err-last.ensures.none refl (unit % 16) rest (omega arith) (ap (drop 3) (sym whole ∙ ap (drop 1) e))
