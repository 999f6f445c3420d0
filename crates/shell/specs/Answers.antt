-- What an answer of the code says.
use Rattle.shell.specs.declared.answer.Answer.{Answer}
use Rattle.shell.specs.declared.answer.Answer.TheVariants.{Dirty, Short, Long, Refused}
use Rattle.shell.specs.Report.{Report, says, refuses, unclosed}

abbrev pub report_of : Answer → Report
report_of (Short text) = says text.items
report_of (Long text) = says text.items
report_of (Refused refusal) = refuses refusal
report_of Dirty = unclosed
