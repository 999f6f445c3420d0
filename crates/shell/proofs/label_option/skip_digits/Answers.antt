use Rattle.std.proofs.Common.{◌/◌, ◌%◌, drop, ap, arith}
use Rattle.shell.proofs.label_option.skip_digits.Goals as goal

pub returns-clause-digits : goal.returns-clause-digits
returns-clause-digits c unit rest h e =
    let one = c.skip_digit.ensures.digit (unit / 4096) _ (omega arith) (ap (drop 1) e) in
    let two = c.skip_digit-2.ensures.digit (unit / 256 % 16) _ (omega arith) one in
    let three = c.skip_digit-3.ensures.digit (unit / 16 % 16) _ (omega arith) two in
    c.skip_digit-4.ensures.digit (unit % 16) rest (omega arith) three
