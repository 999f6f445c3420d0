use Rattle.std.proofs.lemmas.Result.{err_from_is_err_and}
use Rattle.mft_table.specs.Mft.{view}
use Rattle.mount_check.proofs.OrderLaws.{come-on}
use Rattle.mount_check.proofs.RefusalLaws.{IsMountNoIf-refusal, IsMountNoIf-weaker}
use Rattle.mount_check.proofs.finish.decide_rest.Goals as goal

pub returns-in_err-decide_places-clause-err : goal.returns-in_err-decide_places-clause-err
returns-in_err-decide_places-clause-err g c =
    let v = view g.D.Disk c.args.mft.now in
    let p = err_from_is_err_and c.from_residual.result c.from_residual.ensures.1 in
    rw (p.1, p.2) (IsMountNoIf-refusal v _ (λ told come. come.0) c.in_err-decide_places.ensures.err)

pub returns-in_err-decide_records-clause-err : goal.returns-in_err-decide_records-clause-err
returns-in_err-decide_records-clause-err g c =
    let v = view g.D.Disk c.args.mft.now in
    let first = c.in_ok-decide_places.ensures.reads in
    let refused = rw (first.stage.only_reads.image, first.mounted) at c.in_err-decide_records.ensures.err in
    let p = err_from_is_err_and c.from_residual-in_err-decide_records.result c.from_residual-in_err-decide_records.ensures.1 in
    rw (p.1, p.2) (IsMountNoIf-refusal v _ (λ told come.
    (come-on v 11 13 come.0 (c.in_ok-decide_places.ensures.ok told come.0), come.1)) refused)

pub returns-in_err-refuse_dirty-clause-err : goal.returns-in_err-refuse_dirty-clause-err
returns-in_err-refuse_dirty-clause-err g c =
    let v = view g.D.Disk c.args.mft.now in
    let first = c.in_ok-decide_places.ensures.reads in
    let second = c.in_ok-decide_records.ensures.reads in
    let later = rw (first.stage.only_reads.image, first.mounted) at c.in_ok-decide_records.ensures.ok in
    let refused = rw (second.stage.only_reads.image, second.mounted, first.stage.only_reads.image, first.mounted)
    at c.in_err-refuse_dirty.ensures.err in
    let p = err_from_is_err_and c.from_residual-in_err-refuse_dirty.result c.from_residual-in_err-refuse_dirty.ensures.1 in
    rw (p.1, p.2) (IsMountNoIf-weaker v _
    (λ told come.
    let placed = come-on v 11 13 come.0 (c.in_ok-decide_places.ensures.ok told come.0) in
    come-on v 13 15 placed (later told placed come.1)) refused)

pub returns-clause-ok : goal.returns-clause-ok
returns-clause-ok g c = λ told come long.
    let v = view g.D.Disk c.args.mft.now in
    let first = c.in_ok-decide_places.ensures.reads in
    let second = c.in_ok-decide_records.ensures.reads in
    let later = rw (first.stage.only_reads.image, first.mounted) at c.in_ok-decide_records.ensures.ok in
    let clean = rw (second.stage.only_reads.image, second.mounted, first.stage.only_reads.image, first.mounted)
    at c.in_ok-refuse_dirty.ensures.ok in
    let placed = come-on v 11 13 come (c.in_ok-decide_places.ensures.ok told come) in
    let all = later told placed long in
    (all, clean told (come-on v 13 15 placed all))
