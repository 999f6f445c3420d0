use Rattle.std.proofs.Common.{sym, ◌∙◌}
use Rattle.std.proofs.lemmas.Bool.{false≢true}
use Rattle.std.proofs.lemmas.Result.{err_from_is_err_and}
use Rattle.mft_table.specs.Mft.{view}
use Rattle.clause_order.proofs.OrderLaws.{rank-most}
use Rattle.mount_check.proofs.RefusalLaws.{IsMountNoIf-device}
use Rattle.mount_check.proofs.finish.refuse_dirty.Goals as goal

pub returns-in_err-clean-clause-err : goal.returns-in_err-clean-clause-err
returns-in_err-clean-clause-err g c =
    let p = err_from_is_err_and c.from_residual.result c.from_residual.ensures.1 in
    rw (p.1, p.2) (IsMountNoIf-device _ (view g.D.Disk c.args.mft.now) _ c.in_err-clean.ensures.err)

pub returns-then-not-clean-clause-err : goal.returns-then-not-clean-clause-err
returns-then-not-clean-clause-err g c = λ told come. record {
  sound = λ clause n. come.before clause (rank-most clause) n;
  unclean = λ is. false≢true (sym c.if-not-clean.true ∙ (c.in_ok-clean.ensures.clean told come).1 is);
}

pub returns-clause-ok : goal.returns-clause-ok
returns-clause-ok g c = λ told come. (c.in_ok-clean.ensures.clean told come).0 c.if-not-clean.false
