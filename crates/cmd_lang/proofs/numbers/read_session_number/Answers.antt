use Rattle.std.proofs.Common.{◌∙◌, sym, arith}
use Rattle.std.proofs.lemmas.Fmt.{decimal_injective}
use Rattle.cmd_lang.proofs.numbers.read_session_number.Goals as goal

pub returns-then-session-gt15 : goal.returns-then-session-gt15
returns-then-session-gt15 c = λ s x.
    let w = c.in_ok-session.ensures in
    let e = decimal_injective c.in_ok-session.session s w.below (omega (arith, x.below)) (sym w.written ∙ x.written) in
    omega (arith, e, x.below, c.if-session-gt15.true)
