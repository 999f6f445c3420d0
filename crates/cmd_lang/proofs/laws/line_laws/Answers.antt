use Rattle.cmd_lang.proofs.OneLine.{one_line}
use Rattle.cmd_lang.proofs.SayableLaws.{line-sayable, line-session}
use Rattle.cmd_lang.proofs.ToldLaws.{command-told}
use Rattle.cmd_lang.proofs.laws.line_laws.Goals as goal

pub returns : goal.returns
returns c = record { one_command = one_line; sessions = line-session; sayable = line-sayable; told = command-told }
