use Rattle.std.proofs.Common.{sym, subst, arith}
use Rattle.std.proofs.lemmas.Result.{err_from_is_err_and}
use Rattle.mft_table.specs.Mft.{faults_of, view}
use Rattle.mft_table.specs.MountNos.{CountsMount}
use Rattle.mount_check.proofs.OrderLaws.{come-less}
use Rattle.clause_order.proofs.RefusalLaws.{IsRefusalIf-device, IsRefusalIf-weaker}
use Rattle.mount_check.proofs.finish.decide_records.Goals as goal

pub returns-in_err-unlike-clause-err : goal.returns-in_err-unlike-clause-err
returns-in_err-unlike-clause-err g c =
    let p = err_from_is_err_and c.from_residual.result c.from_residual.ensures.1 in
    rw (p.1, p.2) (IsRefusalIf-device 15 _ (view g.D.Disk c.args.mft.now) _ c.in_err-unlike.ensures.err)

pub returns-in_err-refuse_first-clause-err : goal.returns-in_err-refuse_first-clause-err
returns-in_err-refuse_first-clause-err g c =
    let v = view g.D.Disk c.args.mft.now in
    let p = err_from_is_err_and c.from_residual-in_err-refuse_first.result c.from_residual-in_err-refuse_first.ensures.1 in
    rw (p.1, p.2) (IsRefusalIf-weaker 15 v _
    (λ told come. (come.0.before, λ _. c.in_ok-unlike.ensures.first told (come-less v 11 13 (omega arith) come.0)))
    (c.in_err-refuse_first.ensures.err v 15 (omega arith)))

pub returns-in_err-refuse_first-clause-faults : goal.returns-in_err-refuse_first-clause-faults
returns-in_err-refuse_first-clause-faults g c =
    let before = faults_of g.D.Disk c.args.mft.now in
    let p = err_from_is_err_and c.from_residual-in_err-refuse_first.result c.from_residual-in_err-refuse_first.ensures.1 in
    rw (p.1, p.2) (subst (λ n. CountsMount before n c.in_err-refuse_first.field-0.0) (sym c.in_ok-unlike.ensures.faults)
    (c.in_err-refuse_first.ensures.faults before))

pub returns-in_err-refuse_first-2-clause-err : goal.returns-in_err-refuse_first-2-clause-err
returns-in_err-refuse_first-2-clause-err g c =
    let v = view g.D.Disk c.args.mft.now in
    let p = err_from_is_err_and c.from_residual-in_err-refuse_first-2.result c.from_residual-in_err-refuse_first-2.ensures.1 in
    rw (p.1, p.2) (IsRefusalIf-weaker 15 v _
    (λ told come. (
      c.in_ok-refuse_first.ensures.ok v come.0.before (λ _. c.in_ok-unlike.ensures.first told (come-less v 11 13 (omega arith) come.0)),
      come.1,
    ))
    (c.in_err-refuse_first-2.ensures.err v 15 (omega arith)))

pub returns-in_err-refuse_first-2-clause-faults : goal.returns-in_err-refuse_first-2-clause-faults
returns-in_err-refuse_first-2-clause-faults g c =
    let before = faults_of g.D.Disk c.args.mft.now in
    let p = err_from_is_err_and c.from_residual-in_err-refuse_first-2.result c.from_residual-in_err-refuse_first-2.ensures.1 in
    rw (p.1, p.2) (subst (λ n. CountsMount before n c.in_err-refuse_first-2.field-0.0) (sym c.in_ok-unlike.ensures.faults)
    (c.in_err-refuse_first-2.ensures.faults before))

pub returns-clause-ok : goal.returns-clause-ok
returns-clause-ok g c = λ told come long.
    let v = view g.D.Disk c.args.mft.now in
    let early = come-less v 11 13 (omega arith) come in
    c.in_ok-refuse_first-2.ensures.ok v (c.in_ok-refuse_first.ensures.ok v come.before (λ _. c.in_ok-unlike.ensures.first told early)) long
