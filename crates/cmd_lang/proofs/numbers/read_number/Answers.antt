use Rattle.std.proofs.Common.{ap, ◌∙◌}
use Rattle.std.specs.Prelude.{decimal}
use Rattle.cmd_lang.proofs.NumberLaws.{is_utf8, parsed, not_err, same_number}
use Rattle.cmd_lang.proofs.numbers.read_number.Goals as goal

pub returns-in_default : goal.returns-in_default
returns-in_default c = λ n x. c.in_default.ensures.cases.0 (is_utf8 c.args.text.now n x)

pub returns-in_default-parse : goal.returns-in_default-parse
returns-in_default-parse c = λ n x.
    not_err n c.parse.result c.in_default-parse.field-0 (parsed c.args.text.now c.in-Ok.digits.now n c.parse.result
    c.in-Ok.ensures.cases.0 x c.parse.ensures.value.0) c.in_default-parse.is

pub returns-else-is_written : goal.returns-else-is_written
returns-else-is_written c = λ n x.
    let e = same_number n c.in-Ok-parse.number c.parse.result
    (parsed c.args.text.now c.in-Ok.digits.now n c.parse.result c.in-Ok.ensures.cases.0 x c.parse.ensures.value.0) c.in-Ok-parse.is in
    let yes = c.is_written.ensures.1 (x.written ∙ ap decimal e) in
    let no = c.if-is_written.false in cc
