use Rattle.shell.proofs.CheckLaws.{mount-counted, mount-said}
use Rattle.shell.proofs.check.report_check.Goals as goal

pub returns-clause-report : goal.returns-clause-report
returns-clause-report g c =
    let mounted = c.mount-mounted.ensures in
    mount-said _ _ c.report_mount.result mounted.accepted mounted.err c.report_mount.ensures

pub returns-clause-faults : goal.returns-clause-faults
returns-clause-faults g c =
    let mounted = c.mount-mounted.ensures in
    mount-counted _ _ _ c.report_mount.result mounted.faults c.report_mount.ensures
