use Rattle.std.proofs.Common.{sym, subst, arith}
use Rattle.std.proofs.lemmas.Result.{err_from_is_err_and}
use Rattle.mft_table.specs.Mft.{faults_of, view}
use Rattle.mft_table.specs.MountNos.{CountsMount}
use Rattle.check_records.proofs.CheckLaws.{come-on, reads-none}
use Rattle.clause_order.proofs.RefusalLaws.{IsRefusalIf-fault, IsRefusalIf-weaker}
use Rattle.check_records.proofs.check.decide_files.Goals as goal

pub returns-in_err-refuse_first-clause-err : goal.returns-in_err-refuse_first-clause-err
returns-in_err-refuse_first-clause-err g c =
    let v = view g.D.Disk c.args.mft.now in
    let p = err_from_is_err_and c.from_residual.result c.from_residual.ensures.1 in
    rw (p.1, p.2) (IsRefusalIf-weaker 10 v _ (λ told come. (come.before, c.first_wrong_attributes.ensures v come.noted))
    (c.in_err-refuse_first.ensures.err v 10 (omega arith)))

pub returns-in_err-refuse_first-clause-reads : goal.returns-in_err-refuse_first-clause-reads
returns-in_err-refuse_first-clause-reads g c = reads-none g.D.Disk c.args.mft.now _

pub returns-in_err-refuse_first-clause-faults : goal.returns-in_err-refuse_first-clause-faults
returns-in_err-refuse_first-clause-faults g c =
    let p = err_from_is_err_and c.from_residual.result c.from_residual.ensures.1 in
    rw (p.1, p.2) (c.in_err-refuse_first.ensures.faults (faults_of g.D.Disk c.args.mft.now))

pub returns-in_err-wrong-clause-err : goal.returns-in_err-wrong-clause-err
returns-in_err-wrong-clause-err g c =
    let p = err_from_is_err_and c.from_residual-in_err-wrong.result c.from_residual-in_err-wrong.ensures.1 in
    rw (p.1, p.2) (IsRefusalIf-fault 10 _ (view g.D.Disk c.args.mft.now) _ c.in_err-wrong.ensures.err)

pub returns-in_err-refuse_files-clause-err : goal.returns-in_err-refuse_files-clause-err
returns-in_err-refuse_files-clause-err g c =
    let v = view g.D.Disk c.args.mft.now in
    let p = err_from_is_err_and c.from_residual-in_err-refuse_files.result c.from_residual-in_err-refuse_files.ensures.1 in
    rw (p.1, p.2) (IsRefusalIf-weaker 10 v _
    (λ told come. record {
      come = come-on v 1 2 c.args.facts.now come
          (c.in_ok-refuse_first.ensures.ok v come.before (c.first_wrong_attributes.ensures v come.noted));
      lists = c.in_ok-wrong.ensures.lists told come.noted;
      extents = c.in_ok-wrong.ensures.extents told come.volume come.noted;
    })
    (c.in_err-refuse_files.ensures.err v))

pub returns-in_err-refuse_files-clause-faults : goal.returns-in_err-refuse_files-clause-faults
returns-in_err-refuse_files-clause-faults g c =
    let before = faults_of g.D.Disk c.args.mft.now in
    let p = err_from_is_err_and c.from_residual-in_err-refuse_files.result c.from_residual-in_err-refuse_files.ensures.1 in
    rw (p.1, p.2) (subst (λ n. CountsMount before n c.in_err-refuse_files.field-0.0) (sym c.in_ok-wrong.ensures.faults)
    (c.in_err-refuse_files.ensures.faults before))

pub returns-clause-ok : goal.returns-clause-ok
returns-clause-ok g c = λ told come.
    let v = view g.D.Disk c.args.mft.now in
    c.in_ok-refuse_files.ensures.ok v (record {
      come = come-on v 1 2 c.args.facts.now come
          (c.in_ok-refuse_first.ensures.ok v come.before (c.first_wrong_attributes.ensures v come.noted));
      lists = c.in_ok-wrong.ensures.lists told come.noted;
      extents = c.in_ok-wrong.ensures.extents told come.volume come.noted;
    })
