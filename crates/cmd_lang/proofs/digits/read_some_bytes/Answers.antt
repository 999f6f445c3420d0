use Rattle.std.proofs.Common.{sym, subst}
use Rattle.cmd_lang.specs.Words.{AreDigits}
use Rattle.cmd_lang.proofs.DigitLaws.{AreDigits-decoded, ArePairs-digits}
use Rattle.cmd_lang.proofs.digits.read_some_bytes.Goals as goal

pub returns-then-not-are_pairs : goal.returns-then-not-are_pairs
returns-then-not-are_pairs c = λ bytes x. let yes = c.are_pairs.ensures.1 (ArePairs-digits c.args.text.now bytes x) in
    let no = c.if-not-are_pairs.true in cc

pub returns-in-Ok : goal.returns-in-Ok
returns-in-Ok c = subst (AreDigits c.args.text.now) (sym c.from_vec.ensures)
    (AreDigits-decoded c.args.text.now c.in-Ok.bytes.items (c.are_pairs.ensures.0 c.if-not-are_pairs.false) c.in-Ok.ensures.ok)
