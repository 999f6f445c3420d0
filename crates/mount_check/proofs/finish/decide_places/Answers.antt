use Rattle.std.proofs.Common.{sym, subst, ◌∙◌, arith}
use Rattle.std.proofs.lemmas.Result.{err_from_is_err_and}
use Rattle.mft_table.specs.Mft.{faults_of, view}
use Rattle.mft_table.specs.MountNos.{CountsMount}
use Rattle.mft_table.specs.MirrorClusters.{IsMirrorInside}
use Rattle.clause_order.proofs.OrderLaws.{holds-none}
use Rattle.mount_check.proofs.OrderLaws.{decided-place, decided-version}
use Rattle.clause_order.proofs.RefusalLaws.{IsRefusalIf-device, IsRefusalIf-fault, IsRefusalIf-weaker}
use Rattle.mount_check.proofs.finish.decide_places.Goals as goal

pub returns-in_err-version-clause-err : goal.returns-in_err-version-clause-err
returns-in_err-version-clause-err g c =
    let p = err_from_is_err_and c.from_residual.result c.from_residual.ensures.1 in
    rw (p.1, p.2) (IsRefusalIf-device 15 _ (view g.D.Disk c.args.mft.now) _ c.in_err-version.ensures.err)

pub returns-in_err-refuse_first-clause-err : goal.returns-in_err-refuse_first-clause-err
returns-in_err-refuse_first-clause-err g c =
    let v = view g.D.Disk c.args.mft.now in
    let p = err_from_is_err_and c.from_residual-in_err-refuse_first.result c.from_residual-in_err-refuse_first.ensures.1 in
    rw (p.1, p.2) (IsRefusalIf-weaker 15 v _
    (λ told come. (
      come.before,
      decided-version v c.in_ok-version.version c.first_unless.result c.first_unless.ensures.holds c.first_unless.ensures.fails
          (c.in_ok-version.ensures.meets told come),
    ))
    (c.in_err-refuse_first.ensures.err v 15 (omega arith)))

pub returns-in_err-refuse_first-clause-faults : goal.returns-in_err-refuse_first-clause-faults
returns-in_err-refuse_first-clause-faults g c =
    let before = faults_of g.D.Disk c.args.mft.now in
    let p = err_from_is_err_and c.from_residual-in_err-refuse_first.result c.from_residual-in_err-refuse_first.ensures.1 in
    rw (p.1, p.2) (subst (λ n. CountsMount before n c.in_err-refuse_first.field-0.0) (sym c.in_ok-version.ensures.faults)
    (c.in_err-refuse_first.ensures.faults before))

pub returns-in_err-placed-clause-err : goal.returns-in_err-placed-clause-err
returns-in_err-placed-clause-err g c =
    let p = err_from_is_err_and c.from_residual-in_err-placed.result c.from_residual-in_err-placed.ensures.1 in
    rw (p.1, p.2) (IsRefusalIf-fault 15 _ (view g.D.Disk c.args.mft.now) _ c.in_err-placed.ensures.err)

pub returns-in_err-refuse_first-2-clause-err : goal.returns-in_err-refuse_first-2-clause-err
returns-in_err-refuse_first-2-clause-err g c =
    let v = view g.D.Disk c.args.mft.now in
    let first = c.in_ok-version.ensures.reads in
    let meets = rw (first.stage.only_reads.image, first.mounted) at c.in_ok-placed.ensures.meets in
    let p = err_from_is_err_and c.from_residual-in_err-refuse_first-2.result c.from_residual-in_err-refuse_first-2.ensures.1 in
    rw (p.1, p.2) (IsRefusalIf-weaker 15 v _
    (λ told come. (
      c.in_ok-refuse_first.ensures.ok v come.before (decided-version v c.in_ok-version.version c.first_unless.result
          c.first_unless.ensures.holds c.first_unless.ensures.fails (c.in_ok-version.ensures.meets told come)),
      decided-place v c.in_ok-placed.placed c.first_unless-2.result c.first_unless-2.ensures.holds c.first_unless-2.ensures.fails
          (meets told come),
    ))
    (c.in_err-refuse_first-2.ensures.err v 15 (omega arith)))

pub returns-in_err-refuse_first-2-clause-faults : goal.returns-in_err-refuse_first-2-clause-faults
returns-in_err-refuse_first-2-clause-faults g c =
    let before = faults_of g.D.Disk c.args.mft.now in
    let same = c.in_ok-placed.ensures.faults ∙ c.in_ok-version.ensures.faults in
    let p = err_from_is_err_and c.from_residual-in_err-refuse_first-2.result c.from_residual-in_err-refuse_first-2.ensures.1 in
    rw (p.1, p.2) (subst (λ n. CountsMount before n c.in_err-refuse_first-2.field-0.0) (sym same)
    (c.in_err-refuse_first-2.ensures.faults before))

pub returns-clause-ok : goal.returns-clause-ok
returns-clause-ok g c = λ told come.
    let v = view g.D.Disk c.args.mft.now in
    let first = c.in_ok-version.ensures.reads in
    let meets = rw (first.stage.only_reads.image, first.mounted) at c.in_ok-placed.ensures.meets in
    c.in_ok-refuse_first-2.ensures.ok v
    (c.in_ok-refuse_first.ensures.ok v come.before (decided-version v c.in_ok-version.version c.first_unless.result
    c.first_unless.ensures.holds c.first_unless.ensures.fails (c.in_ok-version.ensures.meets told come)))
    (decided-place v c.in_ok-placed.placed c.first_unless-2.result c.first_unless-2.ensures.holds c.first_unless-2.ensures.fails
    (meets told come))

pub returns-clause-inside : goal.returns-clause-inside
returns-clause-inside g c =
    subst IsMirrorInside c.in_ok-version.ensures.reads.mounted (c.in_ok-placed.ensures.inside
    (holds-none c.in_ok-placed.placed _ c.first_unless-2.result c.first_unless-2.ensures.fails c.in_ok-refuse_first-2.ensures.none))
