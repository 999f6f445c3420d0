use Rattle.std.proofs.Common.{length, slice_range, refl, arith, ◌≡◌, ◌+◌, ◌-◌, ap, ◌∙◌}
use Rattle.index_node.proofs.LenLaws.{fronted_len}
use Rattle.list_laws.proofs.PieceLaws.{length_within}
use Rattle.index_node.specs.Edit.{front_len}
use Rattle.index_node.proofs.SpliceLaws.{front_node, front_short, front_keeps, front_children, kept_opened}
use Rattle.index_node.proofs.SpanLaws.{can_insert, first_is, room_ends, low, at_within, lacks_room}
use Rattle.index_node.proofs.edit.put_front.Goals as goal

pub slice_bounds-bytes-count : goal.slice_bounds-bytes-count
slice_bounds-bytes-count c =
    let s = c.span_of-start.result in
    let u = c.span_of-upto.result in
    let a = first_is c.args.form c.args.from.now 0 s.at s.behind s.end c.span_of-start.ensures refl in
    let b = low c.args.form c.args.from.now c.args.i u.at u.behind u.end c.span_of-upto.ensures in
    omega arith

pub slice_bounds-bytes-end : goal.slice_bounds-bytes-end
slice_bounds-bytes-end c =
    let u = c.span_of-upto.result in
    at_within c.args.form c.args.from.now c.args.i u.at u.behind u.end c.span_of-upto.ensures

pub overflow_sub-free : goal.overflow_sub-free
overflow_sub-free c =
    let s = c.span_of-span.result in
    let r = room_ends c.args.form c.args.into.now 0 s.at s.behind s.end c.span_of-span.ensures in
    omega (arith, r, c.room_end.ensures.place)

pub slice_bounds-bytes-start : goal.slice_bounds-bytes-start
slice_bounds-bytes-start c =
    let s = c.span_of-start.result in
    let u = c.span_of-upto.result in
    let a = first_is c.args.form c.args.from.now 0 s.at s.behind s.end c.span_of-start.ensures refl in
    let b = low c.args.form c.args.from.now c.args.i u.at u.behind u.end c.span_of-upto.ensures in
    omega arith

pub splice-requires : goal.splice-requires
splice-requires c =
    let h = c.span_of-span.result in
    let s = c.span_of-start.result in
    let u = c.span_of-upto.result in
    can_insert c.args.form c.args.into.now 0 h.at h.behind h.end c.span_of-span.ensures (length (slice_range c.args.from.now s.at u.at))
    (omega (arith, c.if-bytes-free.false, c.room_end.ensures.place))

pub returns-clause-ok : goal.returns-clause-ok
returns-clause-ok c =
    let h = c.span_of-span.result in
    let s = c.span_of-start.result in
    let u = c.span_of-upto.result in
    let old = c.args.into.now in
    let other = c.args.from.now in
    let new = c.splice.new.node in
    let is = first_is c.args.form other 0 s.at s.behind s.end c.span_of-start.ensures refl in
    let can = can_insert c.args.form old 0 h.at h.behind h.end c.span_of-span.ensures (length (slice_range other s.at u.at))
    (omega (arith, c.if-bytes-free.false, c.room_end.ensures.place)) in
    record {
      node = front_node c.args.form old other h.at h.behind h.end c.span_of-span.ensures c.args.i u.at u.behind u.end s.at
          c.span_of-upto.ensures is c.requires.same new c.splice.ensures can.fits;
      short = front_short c.args.form old other h.at h.behind h.end c.span_of-span.ensures c.args.i u.at u.behind u.end s.at
          c.span_of-upto.ensures is c.requires.same new c.splice.ensures can.fits;
      len = fronted_len c.args.form old other h.at h.behind h.end c.span_of-span.ensures c.args.i u.at u.behind u.end s.at
          c.span_of-upto.ensures is c.requires.same new c.splice.ensures can.fits
          (front_keeps c.args.form old other h.at h.behind h.end c.span_of-span.ensures c.args.i u.at u.behind u.end s.at
          c.span_of-upto.ensures is c.requires.same new c.splice.ensures can.fits);
      header = front_keeps c.args.form old other h.at h.behind h.end c.span_of-span.ensures c.args.i u.at u.behind u.end s.at
          c.span_of-upto.ensures is c.requires.same new c.splice.ensures can.fits;
      children = front_children c.args.form old other h.at h.behind h.end c.span_of-span.ensures c.args.i u.at u.behind u.end s.at
          c.span_of-upto.ensures is c.requires.same new c.splice.ensures can.fits;
      opened = kept_opened old new (front_keeps c.args.form old other h.at h.behind h.end c.span_of-span.ensures c.args.i u.at u.behind
          u.end s.at c.span_of-upto.ensures is c.requires.same new c.splice.ensures can.fits);
    }

pub returns-then-bytes-free-clause-err : goal.returns-then-bytes-free-clause-err
returns-then-bytes-free-clause-err c =
    let s = c.span_of-span.result in
    let p = c.span_of-start.result in
    let u = c.span_of-upto.result in
    let other = c.args.from.now in
    let a = first_is c.args.form other 0 p.at p.behind p.end c.span_of-start.ensures refl in
    let b = low c.args.form other c.args.i u.at u.behind u.end c.span_of-upto.ensures in
    let d = at_within c.args.form other c.args.i u.at u.behind u.end c.span_of-upto.ensures in
    let e = c.span_of-upto.ensures.is_at in
    let n : length (slice_range other p.at u.at) ≡ front_len other c.args.i =
    ap (λ x. length (slice_range other p.at x)) {x = u.at} {y = p.at + (u.at - p.at)} (omega arith) ∙ length_within other p.at (u.at -
    p.at) (omega arith) ∙ omega arith in
    lacks_room c.args.form c.args.into.now 0 s.at s.behind s.end c.span_of-span.ensures (front_len other c.args.i) (length (slice_range
    other p.at u.at))
    (c.room_end.result - s.end) n c.if-bytes-free.true (ap (λ n. n - s.end) c.room_end.ensures.place)
