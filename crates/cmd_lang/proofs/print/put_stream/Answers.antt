use Rattle.std.proofs.Common.{◌++◌}
use Rattle.std.specs.Prelude.{codes, decimal}
use Rattle.cmd_lang.specs.Printed.{and_word, name_word, stream_word}
use Rattle.cmd_lang.proofs.OutputLaws.{prints_less, prints_more}
use Rattle.cmd_lang.proofs.print.put_stream.Goals as goal

pub returns-in_err-put : goal.returns-in_err-put
returns-in_err-put g c = prints_less _ _ (stream_word c.args.stream.now.packed ++ and_word (decimal c.args.stream.now.size))
    (name_word c.args.stream.now.name ++ codes "\n") c.in_err-put.field-0.0 c.from_residual.result c.from_residual.ensures.0
    (rw (c.as_slice.ensures.value, c.number_front.ensures.text, c.stream_word.ensures.text) at c.in_err-put.ensures)

pub returns-in_err-put_name_word : goal.returns-in_err-put_name_word
returns-in_err-put_name_word g c = prints_more _ _ _ (stream_word c.args.stream.now.packed ++ and_word (decimal c.args.stream.now.size))
    (name_word c.args.stream.now.name ++ codes "\n") _ c.from_residual-in_err-put_name_word.result
    (rw (c.as_slice.ensures.value, c.number_front.ensures.text, c.stream_word.ensures.text) at c.in_ok-put.ensures)
    (prints_less _ _ (name_word c.args.stream.now.name) (codes "\n") c.in_err-put_name_word.field-0.0
    c.from_residual-in_err-put_name_word.result c.from_residual-in_err-put_name_word.ensures.0
    (rw c.as_slice-2.ensures at c.in_err-put_name_word.ensures))

pub returns : goal.returns
returns g c = prints_more _ _ _ (stream_word c.args.stream.now.packed ++ and_word (decimal c.args.stream.now.size))
    (name_word c.args.stream.now.name ++ codes "\n") _ c.put-2.result (rw
    (c.as_slice.ensures.value, c.number_front.ensures.text, c.stream_word.ensures.text) at c.in_ok-put.ensures)
    (prints_more _ _ _ (name_word c.args.stream.now.name) (codes "\n") _ c.put-2.result
    (rw c.as_slice-2.ensures at c.in_ok-put_name_word.ensures) c.put-2.ensures)
