use Rattle.std.proofs.Common.{◌≡◌, false, sym, ap, ◌∙◌}
use Rattle.std.specs.Prelude.{is_err}
use Rattle.byteorder.specs.Endian.{big_number}
use Rattle.cmd_lang.specs.Words.{hexadecimal}
use Rattle.cmd_lang.proofs.DigitLaws.{back, decoded}
use Rattle.cmd_lang.proofs.digits.read_tag.Goals as goal

pub returns-then-is_err : goal.returns-then-is_err
returns-then-is_err c = λ n x.
    let ok = rw (decoded 4 c.args.text.now n x) at c.decode_to_slice.ensures.value in
    let is : c.is_err.result ≡ false = c.is_err.ensures.value ∙ ap is_err ok.0 in
    let yes = c.if-is_err.true in cc

pub returns-else-is_tag : goal.returns-else-is_tag
returns-else-is_tag c = λ n x.
    let ok = rw (decoded 4 c.args.text.now n x) at c.decode_to_slice.ensures.value in
    let same : c.read_u32-tag.result ≡ n = c.read_u32-tag.ensures ∙ ap (big_number 4) ok.1 ∙ back 4 n x.below in
    let yes = c.is_tag.ensures.1 (x.written ∙ ap (hexadecimal 4) (sym same)) in
    let no = c.if-is_tag.false in cc
