use Rattle.cmd_lang.proofs.NumberLaws.{shorter}
use Rattle.cmd_lang.proofs.numbers.read_short_number.Goals as goal

pub returns : goal.returns
returns c = shorter c.args.text.now c.in_ok-read_number.field-0 c.try_from.result c.ok.result c.in_ok-read_number.ensures
    c.try_from.ensures c.ok.ensures.value
