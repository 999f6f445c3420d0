use Rattle.std.proofs.Common.{◌≤◌, ◌/◌, ◌++◌, drop, length, ap, ◌∙◌, arith}
use Rattle.std.proofs.lemmas.List.{length-take-le}
use Rattle.std.proofs.lemmas.Result.{IfOk-weaker}
use Rattle.attr_view.specs.View.{attribute_of}
use Rattle.volume_def.specs.Values.{pieces_touched}
use Rattle.volume_def.specs.Table.{cluster_bytes}
use Rattle.file_record.specs.Mft.{MftReads, view}
use Rattle.list_laws.proofs.OptionLaws.{match-known, ok-both}
use Rattle.file_record.proofs.StreamReads.{MftReads-less}
use Rattle.attr_store.proofs.Found.{body-spans}
use Rattle.attr_store.proofs.Spanned.{extent-bytes, seam-cluster, span-some, touched-le, unheld-bytes}
use Rattle.attr_store.proofs.read.read_extent.Goals as goal

pub read_spanned-requires-clause-first : goal.read_spanned-requires-clause-first
read_spanned-requires-clause-first g c =
    let a = attribute_of c.in-Some.extent in
    let found = rw c.cluster_bytes-size.ensures at c.in-Some.ensures.some in
    let (extent, text, body, first, last) = body-spans a.body _ found.spans in
    rw (c.extent_sizes-sizes.ensures extent text body) first

pub read_spanned-requires-clause-last : goal.read_spanned-requires-clause-last
read_spanned-requires-clause-last g c =
    let a = attribute_of c.in-Some.extent in
    let found = rw c.cluster_bytes-size.ensures at c.in-Some.ensures.some in
    let (extent, text, body, first, last) = body-spans a.body _ found.spans in
    rw (c.extent_sizes-sizes.ensures extent text body) last

pub returns-in-Some-clause-some : goal.returns-in-Some-clause-some
returns-in-Some-clause-some g c =
    let a = attribute_of c.in-Some.extent in
    let found = rw c.cluster_bytes-size.ensures at c.in-Some.ensures.some in
    let (extent, text, body, first, last) = body-spans a.body _ found.spans in
    let size = cluster_bytes (view g.D.Disk c.args.mft.now).layout in
    let reach : c.args.at / size ≤ c.extent_sizes-sizes.result.last = rw (c.extent_sizes-sizes.ensures extent text body) last in
    IfOk-weaker c.read_spanned.result _ _
    (λ n same some. omega (arith, same, span-some c.args.at size c.extent_sizes-sizes.result.last (omega arith) reach))
    c.read_spanned.ensures.len

pub returns-in-Some-clause-read : goal.returns-in-Some-clause-read
returns-in-Some-clause-read g c =
    let a = attribute_of c.in-Some.extent in
    let found = rw c.cluster_bytes-size.ensures at c.in-Some.ensures.some in
    let (extent, text, body, first, last) = body-spans a.body _ found.spans in
    let sizes = c.extent_sizes-sizes.ensures extent text body in
    let its = c.extent_text.ensures extent text body in
    ok-both c.read_spanned.result (λ n same read told f s.
    let fits = rw sizes at same in
    read told ∙ ap (λ xs. xs ++ drop n c.args.into.now) (rw (sizes, its)
    (extent-bytes _ _ f c.args.at n found.holder _ a extent text (omega arith) s body found.among first (omega (arith, fits)))))
    c.read_spanned.ensures.len c.read_spanned.ensures.read

pub returns-in-Some-clause-reads : goal.returns-in-Some-clause-reads
returns-in-Some-clause-reads g c =
    match-known (λ n. MftReads g.D.Disk c.args.mft.now c.read_spanned.new.mft (pieces_touched c.args.at n)) c.read_spanned.result _
    c.read_spanned.ensures.len c.read_spanned.ensures.reads
    (MftReads-less g.D.Disk c.args.mft.now c.read_spanned.new.mft _ _ c.read_spanned.ensures.reads
    (touched-le c.args.at _ (length c.args.into.now) (omega arith)))

pub returns-in-None-clause-cut : goal.returns-in-None-clause-cut
returns-in-None-clause-cut g c =
    seam-cluster c.args.at (c.args.at / c.cluster_bytes-size.result) c.cluster_bytes-size.result
    (view g.D.Disk c.args.mft.now).layout.cluster_sectors _ (length c.args.into.now) c.cluster_bytes-size.ensures c.spanned_len-len.ensures

pub returns-in-None-clause-read : goal.returns-in-None-clause-read
returns-in-None-clause-read g c told f s =
    let n = c.spanned_len-len.result in
    let size = c.cluster_bytes-size.ensures in
    let is = rw size at c.spanned_len-len.ensures in
    let all = length-take-le n c.args.into.now (omega (arith, is)) in
    let none = rw size at c.in-None.ensures.none in
    ap (λ xs. xs ++ drop n c.args.into.now) (rw all at (c.fill.ensures.after (λ y e. e))
    ∙ unheld-bytes _ _ f c.args.at n _ (omega arith) s none (omega (arith, is)))
