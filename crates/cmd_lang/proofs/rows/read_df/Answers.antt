use Rattle.std.proofs.Common.{sym, ap, ◌∙◌}
use Rattle.cmd_lang.specs.Cuts.{rest_of}
use Rattle.cmd_lang.proofs.PieceLaws.{some_piece}
use Rattle.cmd_lang.proofs.rows.read_df.Goals as goal

pub returns-in-Some : goal.returns-in-Some
returns-in-Some c = λ meant x. some_piece 32 c.in-Some.field-0.now (sym (ap (rest_of 32) c.in-Some.is) ∙ x.0)
