use Rattle.std.proofs.Common.{◌≤◌, ◌/◌, ◌++◌, drop, sym, ap, ◌∙◌, arith}
use Rattle.std.proofs.lemmas.List.{length-take-le}
use Rattle.file_record.specs.Mft.{view}
use Rattle.file_record.proofs.StreamReads.{MftReads-less}
use Rattle.attr_store.proofs.Spanned.{begins-before, spanned-none, spanned-runs, touched-spanned}
use Rattle.attr_store.proofs.read.read_spanned.Goals as goal

pub returns-in_err-read_runs_at-in-Some-clause-reads : goal.returns-in_err-read_runs_at-in-Some-clause-reads
returns-in_err-read_runs_at-in-Some-clause-reads g c =
    let size = c.cluster_bytes-size.ensures in
    let is = rw size at c.spanned_len-len.ensures in
    let all = length-take-le c.spanned_len-len.result c.args.into.now (omega (arith, is)) in
    let le : c.args.sizes.now.first ≤ c.args.at / c.cluster_bytes-size.result = rw size c.requires.first in
    MftReads-less g.D.Disk c.args.mft.now c.read_runs_at.new.mft _ _ c.read_runs_at.ensures.reads
    (touched-spanned c.args.at c.args.sizes.now.first c.cluster_bytes-size.result (view g.D.Disk c.args.mft.now).layout.cluster_sectors _ _
    size (begins-before c.args.sizes.now.first c.cluster_bytes-size.result c.args.at le) (all ∙ is))

pub returns-in_ok-read_runs_at-in-Some-clause-read : goal.returns-in_ok-read_runs_at-in-Some-clause-read
returns-in_ok-read_runs_at-in-Some-clause-read g c told =
    let n = c.spanned_len-len.result in
    let size = c.cluster_bytes-size.ensures in
    let is = rw size at c.spanned_len-len.ensures in
    let all = length-take-le n c.args.into.now (omega (arith, is)) in
    let begins = begins-before c.args.sizes.now.first _ c.args.at c.requires.first in
    ap (λ xs. xs ++ drop n c.args.into.now) (c.in_ok-read_runs_at-in-Some.ensures.read told ∙ rw (size, all)
    (spanned-runs _ _ c.args.sizes.now.first c.args.at n c.args.text.now _ (omega arith) begins
    (sym c.in_ok-runs.ensures ∙ c.in-Some.is)))

pub returns-in_ok-read_runs_at-in-Some-clause-reads : goal.returns-in_ok-read_runs_at-in-Some-clause-reads
returns-in_ok-read_runs_at-in-Some-clause-reads g c =
    let size = c.cluster_bytes-size.ensures in
    let is = rw size at c.spanned_len-len.ensures in
    let all = length-take-le c.spanned_len-len.result c.args.into.now (omega (arith, is)) in
    let le : c.args.sizes.now.first ≤ c.args.at / c.cluster_bytes-size.result = rw size c.requires.first in
    MftReads-less g.D.Disk c.args.mft.now c.read_runs_at.new.mft _ _ c.read_runs_at.ensures.reads
    (touched-spanned c.args.at c.args.sizes.now.first c.cluster_bytes-size.result (view g.D.Disk c.args.mft.now).layout.cluster_sectors _ _
    size (begins-before c.args.sizes.now.first c.cluster_bytes-size.result c.args.at le) (all ∙ is))

pub returns-in-None-clause-read : goal.returns-in-None-clause-read
returns-in-None-clause-read g c told =
    let n = c.spanned_len-len.result in
    let size = c.cluster_bytes-size.ensures in
    let is = rw size at c.spanned_len-len.ensures in
    let all = length-take-le n c.args.into.now (omega (arith, is)) in
    ap (λ xs. xs ++ drop n c.args.into.now) (rw all at (c.fill.ensures.after (λ y e. e))
    ∙ spanned-none _ _ c.args.sizes.now.first c.args.at n c.args.text.now (sym c.in_ok-runs.ensures ∙ c.in-None.is))
