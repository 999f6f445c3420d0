use Rattle.std.proofs.Common.{arith}
use Rattle.index_node.proofs.ReplaceLaws.{can_replace, replaced_children, replaced_keeps, replaced_node, replaced_pieces, replaced_short}
use Rattle.index_node.proofs.SpliceLaws.{kept_opened}
use Rattle.index_node.proofs.edit.replace_at.Goals as goal

pub span_of-span-requires : goal.span_of-span-requires
span_of-span-requires c = let has = c.requires.entry in let w = has.within in record { said = has.said; is = has.is; within = omega arith }

pub splice-requires : goal.splice-requires
splice-requires c =
    let s = c.span_of-span.result in
    can_replace c.args.form c.args.node.now c.args.i s.at s.behind s.end c.span_of-span.ensures c.args.entry.now c.requires.one
    c.requires.entry c.requires.alike

pub returns-clause-pieces : goal.returns-clause-pieces
returns-clause-pieces c =
    let s = c.span_of-span.result in
    let r = c.requires in
    replaced_pieces c.args.form c.args.node.now c.args.i s.at s.behind s.end c.span_of-span.ensures c.args.entry.now r.one r.entry r.alike
    c.splice.new.node c.splice.ensures

pub returns-clause-ok : goal.returns-clause-ok
returns-clause-ok c =
    let s = c.span_of-span.result in
    let h = c.span_of-span.ensures in
    let r = c.requires in
    let old = c.args.node.now in
    let new = c.splice.new.node in
    let keeps = replaced_keeps c.args.form old c.args.i s.at s.behind s.end h c.args.entry.now r.one r.entry r.alike new c.splice.ensures in
    record {
      node = replaced_node c.args.form old c.args.i s.at s.behind s.end h c.args.entry.now r.one r.entry r.alike new c.splice.ensures;
      short = replaced_short c.args.form old c.args.i s.at s.behind s.end h c.args.entry.now r.one r.entry r.alike new c.splice.ensures;
      header = keeps;
      children = replaced_children c.args.form old c.args.i s.at s.behind s.end h c.args.entry.now r.one r.entry r.alike new
          c.splice.ensures;
      opened = kept_opened old new keeps;
    }
