use Rattle.shell.proofs.LabelTexts.{digit-skipped}
use Rattle.shell.proofs.label_option.skip_digit.Goals as goal

pub returns-clause-digit : goal.returns-clause-digit
returns-clause-digit c value rest h e = digit-skipped _ c.next.result _ _ value rest c.next.ensures.steps.0 h e
