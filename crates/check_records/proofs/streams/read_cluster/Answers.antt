use Rattle.std.proofs.Common.{◌≤◌, ◌/◌, ◌%◌, ◌++◌, drop, length, sym, ap, ◌∙◌, arith}
use Rattle.std.proofs.lemmas.List.{length-take-le}
use Rattle.std.proofs.lemmas.Result.{err_from_is_err_and}
use Rattle.volume_def.specs.Table.{cluster_bytes}
use Rattle.volume_def.specs.Values.{pieces_touched}
use Rattle.mft_table.specs.Mft.{view}
use Rattle.mft_table.proofs.StreamReads.{MftReads-less}
use Rattle.attr_store.proofs.Spanned.{seam-cluster, span-some, touched-le}
use Rattle.record_notes.specs.Streams.{spot_noted}
use Rattle.check_records.proofs.StreamLaws.{cluster-nowhere, cluster-placed, no-cluster, touched-inside}
use Rattle.check_records.proofs.streams.read_cluster.Goals as goal

pub returns-in_ok-read_placed-in-At-clause-read : goal.returns-in_ok-read_placed-in-At-clause-read
returns-in_ok-read_placed-in-At-clause-read g c told =
    let v = view g.D.Disk c.args.mft.now in
    let n = c.spanned_len-len.result in
    let size = c.cluster_bytes-size.ensures in
    let is = c.spanned_len-len.ensures in
    let all = length-take-le n c.args.into.now (omega (arith, is)) in
    let lies = sym c.spot.ensures ∙ c.in-At.is in
    ap (λ xs. xs ++ drop n c.args.into.now) (c.in_ok-read_placed-in-At.ensures.read told ∙ rw (size, all)
    (cluster-placed v.cluster (cluster_bytes v.layout) c.in-At.cluster c.args.at n (spot_noted c.args.note.now)
    (omega arith) (let fits = rw size at is in omega (arith, fits)) (rw size at lies)))

pub returns-in_ok-read_placed-in-At-clause-some : goal.returns-in_ok-read_placed-in-At-clause-some
returns-in_ok-read_placed-in-At-clause-some g c = λ some.
    let size = c.cluster_bytes-size.result in
    omega (arith, c.spanned_len-len.ensures, span-some c.args.at size (c.args.at / size) (omega arith) (omega arith))

pub returns-in_ok-read_placed-in-At-clause-cut : goal.returns-in_ok-read_placed-in-At-clause-cut
returns-in_ok-read_placed-in-At-clause-cut g c =
    seam-cluster c.args.at (c.args.at / c.cluster_bytes-size.result) c.cluster_bytes-size.result
    (view g.D.Disk c.args.mft.now).layout.cluster_sectors _ (length c.args.into.now) c.cluster_bytes-size.ensures c.spanned_len-len.ensures

pub returns-in_ok-read_placed-in-At-clause-reads : goal.returns-in_ok-read_placed-in-At-clause-reads
returns-in_ok-read_placed-in-At-clause-reads g c =
    let all = length-take-le c.spanned_len-len.result c.args.into.now (omega (arith, c.spanned_len-len.ensures)) in
    let size = c.cluster_bytes-size.result in
    MftReads-less g.D.Disk c.args.mft.now c.read_placed.new.mft _ _ c.read_placed.ensures.reads
    (omega (
      arith,
      ap (pieces_touched (c.args.at % size)) all,
      touched-inside size (view g.D.Disk c.args.mft.now).layout.cluster_sectors c.args.at c.spanned_len-len.result (omega arith)
          c.cluster_bytes-size.ensures,
    ))

pub returns-in_err-read_placed-in-At-clause-reads : goal.returns-in_err-read_placed-in-At-clause-reads
returns-in_err-read_placed-in-At-clause-reads g c =
    let n = c.spanned_len-len.result in
    let len = length c.args.into.now in
    let within : n ≤ len = omega (arith, c.spanned_len-len.ensures) in
    let all = length-take-le n c.args.into.now within in
    let size = c.cluster_bytes-size.result in
    let here = touched-inside size (view g.D.Disk c.args.mft.now).layout.cluster_sectors c.args.at n (omega arith)
    c.cluster_bytes-size.ensures in
    let p = err_from_is_err_and c.from_residual.result c.from_residual.ensures.1 in
    rw p.1 (MftReads-less g.D.Disk c.args.mft.now c.read_placed.new.mft _ (pieces_touched c.args.at len) c.read_placed.ensures.reads
    (omega (arith, ap (pieces_touched (c.args.at % size)) all, here, touched-le c.args.at n len within)))

pub returns-in-Hole-clause-read : goal.returns-in-Hole-clause-read
returns-in-Hole-clause-read g c told =
    let v = view g.D.Disk c.args.mft.now in
    let n = c.spanned_len-len.result in
    let size = c.cluster_bytes-size.ensures in
    let is = c.spanned_len-len.ensures in
    let all = length-take-le n c.args.into.now (omega (arith, is)) in
    let nowhere = no-cluster c.spot.result _ c.in-Hole.is c.spot.ensures in
    ap (λ xs. xs ++ drop n c.args.into.now) (rw all at (c.fill.ensures.after (λ y e. e))
    ∙ cluster-nowhere v.cluster (cluster_bytes v.layout) c.args.at n (spot_noted c.args.note.now) (omega arith)
    (let fits = rw size at is in omega (arith, fits)) (rw size at nowhere))

pub returns-in-Hole-clause-some : goal.returns-in-Hole-clause-some
returns-in-Hole-clause-some g c = λ some.
    let size = c.cluster_bytes-size.result in
    omega (arith, c.spanned_len-len.ensures, span-some c.args.at size (c.args.at / size) (omega arith) (omega arith))

pub returns-in-Hole-clause-cut : goal.returns-in-Hole-clause-cut
returns-in-Hole-clause-cut g c =
    seam-cluster c.args.at (c.args.at / c.cluster_bytes-size.result) c.cluster_bytes-size.result
    (view g.D.Disk c.args.mft.now).layout.cluster_sectors _ (length c.args.into.now) c.cluster_bytes-size.ensures c.spanned_len-len.ensures
