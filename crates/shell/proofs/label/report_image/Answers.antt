use Rattle.shell.proofs.LabelLaws.{reports-record, reports-refused}
use Rattle.shell.proofs.label.report_image.Goals as goal

pub returns-in_ok-report_record-in-Ok-clause-report : goal.returns-in_ok-report_record-in-Ok-clause-report
returns-in_ok-report_record-in-Ok-clause-report g c all told =
    reports-record all _ _ (c.in-Ok.ensures.ok all told) c.in_ok-report_record-in-Ok.ensures

pub returns-in-Err-clause-report : goal.returns-in-Err-clause-report
returns-in-Err-clause-report g c = reports-refused _ c.in-Err.no c.report_no_table.result c.in-Err.ensures.err c.report_no_table.ensures
