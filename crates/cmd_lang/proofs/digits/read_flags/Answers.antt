use Rattle.std.proofs.Common.{subst, sym}
use Rattle.std.specs.Prelude.{◌≡◌, bit_and}
use Rattle.tree_model.specs.declared.tree.TheConstants.{SHOWN_FLAGS}
use Rattle.cmd_lang.proofs.DigitLaws.{one_hex_number}
use Rattle.cmd_lang.proofs.digits.read_flags.Goals as goal

pub returns-else-flags : goal.returns-else-flags
returns-else-flags c = λ n x.
    let same = one_hex_number 2 c.args.text.now c.in_ok-flags.flags n c.in_ok-flags.ensures x.number in
    c.if-flags.false (subst (λ m. bit_and m SHOWN_FLAGS ≡ m) (sym same) x.shown)
