use Rattle.index_node.proofs.BehindLaws.{can_take, end_within, taken_pieces, takes}
use Rattle.index_node.proofs.SpanLaws.{inner_in, inside}
use Rattle.index_node.proofs.split.put_behind.Goals as goal

pub slice_bounds-bytes-count : goal.slice_bounds-bytes-count
slice_bounds-bytes-count c =
    let s = c.span_of-span.result in
    inside c.args.form c.args.from.now c.args.i s.at s.behind s.end c.span_of-span.ensures

pub slice_bounds-bytes-start : goal.slice_bounds-bytes-start
slice_bounds-bytes-start c =
    let s = c.span_of-span.result in
    inside c.args.form c.args.from.now c.args.i s.at s.behind s.end c.span_of-span.ensures

pub slice_bounds-bytes-end : goal.slice_bounds-bytes-end
slice_bounds-bytes-end c =
    let s = c.span_of-span.result in
    end_within c.args.form c.args.from.now c.args.i s.at s.behind s.end c.span_of-span.ensures

pub splice-requires : goal.splice-requires
splice-requires c =
    let p = c.span_of-place.result in
    let s = c.span_of-span.result in
    can_take c.args.form c.args.into.now c.args.from.now p.at p.behind p.end c.span_of-place.ensures c.args.i s.at s.behind s.end
    c.span_of-span.ensures c.requires.fits

pub returns-clause-pieces : goal.returns-clause-pieces
returns-clause-pieces c =
    let p = c.span_of-place.result in
    let s = c.span_of-span.result in
    let can = can_take c.args.form c.args.into.now c.args.from.now p.at p.behind p.end c.span_of-place.ensures c.args.i s.at s.behind
    s.end c.span_of-span.ensures c.requires.fits in
    taken_pieces c.args.form c.args.into.now c.args.from.now p.at p.behind p.end c.span_of-place.ensures c.args.i s.at s.behind s.end
    c.span_of-span.ensures
    (inner_in c.args.form c.args.from.now c.args.i s.at s.behind s.end c.span_of-span.ensures c.requires.from)
    c.requires.same c.splice.new.node c.splice.ensures can.fits

pub returns-clause-ok : goal.returns-clause-ok
returns-clause-ok c =
    let p = c.span_of-place.result in
    let s = c.span_of-span.result in
    let can = can_take c.args.form c.args.into.now c.args.from.now p.at p.behind p.end c.span_of-place.ensures c.args.i s.at s.behind
    s.end c.span_of-span.ensures c.requires.fits in
    takes c.args.form c.args.into.now c.args.from.now p.at p.behind p.end c.span_of-place.ensures c.args.i s.at s.behind s.end
    c.span_of-span.ensures
    (inner_in c.args.form c.args.from.now c.args.i s.at s.behind s.end c.span_of-span.ensures c.requires.from)
    c.requires.same c.splice.new.node c.splice.ensures can.fits
