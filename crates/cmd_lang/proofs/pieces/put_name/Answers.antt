use Rattle.std.proofs.Common.{◌≡◌, ◌++◌, drop, sym, ◌∙◌}
use Rattle.vol_bytes.specs.NameText.{name_text}
use Rattle.cmd_lang.proofs.OutputLaws.{rest_end, rest_more, rest_stop}
use Rattle.cmd_lang.proofs.TextLaws.{name_none}
use Rattle.cmd_lang.proofs.pieces.put_name.Goals as goal

pub returns-in_err-put : goal.returns-in_err-put
returns-in_err-put g c =
    let parts : name_text c.characters.rest.now ≡ c.as_slice.result.now ++ name_text
    (drop c.first_text-first.result.units c.characters.rest.now) =
    rw c.as_slice.ensures.value c.first_text-first.ensures.printed in
    rest_stop name_text c.args.units.now c.characters.rest.now
    (drop c.first_text-first.result.units c.characters.rest.now) c.as_slice.result.now _ _ _ c.in_err-put.field-0.0
    c.from_residual.result parts c.characters.invariant c.from_residual.ensures.0 c.in_err-put.ensures

pub characters-preserved : goal.characters-preserved
characters-preserved g c =
    let parts : name_text c.characters.rest.now ≡ c.as_slice.result.now ++ name_text c.split_at.result.1.now =
    rw (c.as_slice.ensures.value, c.split_at.ensures.back) c.first_text-first.ensures.printed in
    rest_more name_text c.args.units.now c.characters.rest.now c.split_at.result.1.now c.as_slice.result.now _ _ _ _ parts
    c.characters.invariant c.in_ok-put.ensures

pub returns : goal.returns
returns g c = rest_end name_text c.args.units.now c.characters.rest.now _ _ (name_none c.characters.rest.now (sym c.is_empty.ensures
    ∙ c.characters-test.false)) c.characters.invariant
