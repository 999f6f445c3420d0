use Rattle.std.proofs.Common.{ap, ◌∙◌}
use Rattle.ntfs_def.specs.Node.{entry_place, first_entry}
use Rattle.index_node.proofs.BehindLaws.{can_cut, cut_children, cut_keeps, cut_node, cut_pieces, cut_short}
use Rattle.index_node.proofs.SpanLaws.{count_said}
use Rattle.index_node.proofs.SpliceLaws.{kept_opened}
use Rattle.index_node.proofs.split.cut_from.Goals as goal

pub splice-requires : goal.splice-requires
splice-requires c =
    let s = c.span_of-span.result in
    let h = c.span_of-span.ensures in
    let old = c.args.node.now in
    let is = (c.last_span_of-last.ensures _ h.said).is_at ∙ ap (entry_place old (first_entry old)) (count_said c.args.form old c.args.i
    s.at s.behind s.end h _ h.said) in
    can_cut c.args.form old c.args.i s.at s.behind s.end h c.last_span_of-last.result.at is

pub returns-clause-pieces : goal.returns-clause-pieces
returns-clause-pieces c =
    let s = c.span_of-span.result in
    let h = c.span_of-span.ensures in
    let old = c.args.node.now in
    let at = c.last_span_of-last.result.at in
    let is = (c.last_span_of-last.ensures _ h.said).is_at ∙ ap (entry_place old (first_entry old)) (count_said c.args.form old c.args.i
    s.at s.behind s.end h _ h.said) in
    let can = can_cut c.args.form old c.args.i s.at s.behind s.end h at is in
    cut_pieces c.args.form old c.args.i s.at s.behind s.end h at is c.splice.new.node c.splice.ensures can.fits

pub returns-clause-ok : goal.returns-clause-ok
returns-clause-ok c =
    let s = c.span_of-span.result in
    let h = c.span_of-span.ensures in
    let old = c.args.node.now in
    let new = c.splice.new.node in
    let at = c.last_span_of-last.result.at in
    let is = (c.last_span_of-last.ensures _ h.said).is_at ∙ ap (entry_place old (first_entry old)) (count_said c.args.form old c.args.i
    s.at s.behind s.end h _ h.said) in
    let can = can_cut c.args.form old c.args.i s.at s.behind s.end h at is in
    let keeps = cut_keeps c.args.form old c.args.i s.at s.behind s.end h at is new c.splice.ensures can.fits in
    record {
      node = cut_node c.args.form old c.args.i s.at s.behind s.end h at is new c.splice.ensures can.fits;
      short = cut_short c.args.form old c.args.i s.at s.behind s.end h at is new c.splice.ensures can.fits;
      header = keeps;
      children = cut_children c.args.form old c.args.i s.at s.behind s.end h at is new c.splice.ensures can.fits;
      opened = kept_opened old new keeps;
    }
