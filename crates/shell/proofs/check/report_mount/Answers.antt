use Rattle.std.proofs.Common.{ap}
use Rattle.shell.specs.Report.{says}
use Rattle.shell.proofs.check.report_mount.Goals as goal

pub returns-in-Ok : goal.returns-in-Ok
returns-in-Ok c = rw c.in-Ok.is (ap says c.sound_text.ensures)
