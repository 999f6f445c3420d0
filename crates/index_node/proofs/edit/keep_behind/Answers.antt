use Rattle.std.proofs.Common.{refl}
use Rattle.index_node.proofs.LenLaws.{right_len}
use Rattle.index_node.proofs.SpliceLaws.{kept_opened, right_ok, right_short, right_keeps, right_children}
use Rattle.index_node.proofs.SpanLaws.{can_keep, first_is, inner_in}
use Rattle.index_node.proofs.edit.keep_behind.Goals as goal

pub splice-requires : goal.splice-requires
splice-requires c =
    let f = c.span_of-first.result in
    let s = c.span_of-span.result in
    can_keep c.args.form c.args.node.now c.args.i s.at s.behind s.end c.span_of-span.ensures f.at
    (first_is c.args.form c.args.node.now 0 f.at f.behind f.end c.span_of-first.ensures refl)

pub returns-clause-ok : goal.returns-clause-ok
returns-clause-ok c =
    let f = c.span_of-first.result in
    let s = c.span_of-span.result in
    let h = c.span_of-span.ensures in
    let old = c.args.node.now in
    let is = first_is c.args.form old 0 f.at f.behind f.end c.span_of-first.ensures refl in
    let can = can_keep c.args.form old c.args.i s.at s.behind s.end h f.at is in
    let inner = inner_in c.args.form old c.args.i s.at s.behind s.end h c.requires in
    record {
      node = right_ok c.args.form old c.args.i s.at s.behind s.end h c.splice.new.node f.at is c.splice.ensures can.fits inner;
      short = right_short c.args.form old c.args.i s.at s.behind s.end h c.splice.new.node f.at is c.splice.ensures can.fits inner;
      header = right_keeps c.args.form old c.args.i s.at s.behind s.end h c.splice.new.node f.at is c.splice.ensures can.fits inner;
      opened = kept_opened old c.splice.new.node (right_keeps c.args.form old c.args.i s.at s.behind s.end h c.splice.new.node f.at is
          c.splice.ensures can.fits inner);
      children = right_children c.args.form old c.args.i s.at s.behind s.end h c.splice.new.node f.at is c.splice.ensures can.fits inner;
    }

pub returns-clause-len : goal.returns-clause-len
returns-clause-len c said is =
    let f = c.span_of-first.result in
    let s = c.span_of-span.result in
    let h = c.span_of-span.ensures in
    let old = c.args.node.now in
    let at_first = first_is c.args.form old 0 f.at f.behind f.end c.span_of-first.ensures refl in
    let can = can_keep c.args.form old c.args.i s.at s.behind s.end h f.at at_first in
    let inner = inner_in c.args.form old c.args.i s.at s.behind s.end h c.requires in
    let keeps = right_keeps c.args.form old c.args.i s.at s.behind s.end h c.splice.new.node f.at at_first c.splice.ensures can.fits
    inner in
    right_len c.args.form old c.args.i s.at s.behind s.end h c.splice.new.node f.at at_first c.splice.ensures can.fits inner keeps said is
