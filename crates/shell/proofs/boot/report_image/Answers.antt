use Rattle.std.proofs.Common.{◌∙◌}
use Rattle.shell.proofs.Boots.{boot_report-read}
use Rattle.shell.proofs.boot.report_image.Goals as goal

pub returns-clause-report : goal.returns-clause-report
returns-clause-report g c all told =
    let read = c.in_ok-sector.ensures in
    boot_report-read _ all c.in_ok-sector.sector c.sectors.result _ c.sectors.ensures.length (read.reads.only_reads.image ∙ told)
    (read.sector all told) c.report_sector.ensures
