use Rattle.std.proofs.Common.{arith}
use Rattle.index_node.proofs.SpliceLaws.{kept_opened, removed_ok, removed_short, removed_keeps, removed_children, removed_pieces}
use Rattle.index_node.proofs.SpanLaws.{can_remove, inner_in}
use Rattle.index_node.proofs.edit.remove_at.Goals as goal

pub span_of-span-requires : goal.span_of-span-requires
span_of-span-requires c = let w = c.requires.within in record { said = c.requires.said; is = c.requires.is; within = omega arith }

pub splice-requires : goal.splice-requires
splice-requires c =
    let s = c.span_of-span.result in
    can_remove c.args.form c.args.node.now c.args.i s.at s.behind s.end c.span_of-span.ensures

pub returns-clause-pieces : goal.returns-clause-pieces
returns-clause-pieces c =
    let s = c.span_of-span.result in
    let h = c.span_of-span.ensures in
    let old = c.args.node.now in
    let can = can_remove c.args.form old c.args.i s.at s.behind s.end h in
    let inner = inner_in c.args.form old c.args.i s.at s.behind s.end h c.requires in
    removed_pieces c.args.form old c.args.i s.at s.behind s.end h c.splice.new.node c.splice.ensures can.fits inner

pub returns-clause-ok : goal.returns-clause-ok
returns-clause-ok c =
    let s = c.span_of-span.result in
    let h = c.span_of-span.ensures in
    let old = c.args.node.now in
    let can = can_remove c.args.form old c.args.i s.at s.behind s.end h in
    let inner = inner_in c.args.form old c.args.i s.at s.behind s.end h c.requires in
    record {
      node = removed_ok c.args.form old c.args.i s.at s.behind s.end h c.splice.new.node c.splice.ensures can.fits inner;
      short = removed_short c.args.form old c.args.i s.at s.behind s.end h c.splice.new.node c.splice.ensures can.fits inner;
      header = removed_keeps c.args.form old c.args.i s.at s.behind s.end h c.splice.new.node c.splice.ensures can.fits inner;
      opened = kept_opened old c.splice.new.node (removed_keeps c.args.form old c.args.i s.at s.behind s.end h c.splice.new.node
          c.splice.ensures can.fits inner);
      children = removed_children c.args.form old c.args.i s.at s.behind s.end h c.splice.new.node c.splice.ensures can.fits inner;
    }
