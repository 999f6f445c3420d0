use Rattle.std.proofs.Common.{◌≡◌, ◌+◌, ◌-◌, arith}
use Rattle.index_node.proofs.ChildLaws.{lead_children, lead_keeps, lead_node, lead_pieces, lead_short}
use Rattle.index_node.proofs.SpanLaws.{behind_far, behind_within}
use Rattle.index_node.proofs.SpliceLaws.{kept_opened}
use Rattle.index_node.proofs.parts.set_child.Goals as goal

pub overflow_sub-span : goal.overflow_sub-span
overflow_sub-span c =
    let s = c.span_of-span.result in
    let b = behind_far c.args.form c.args.node.now c.args.i s.at s.behind s.end c.span_of-span.ensures in
    omega arith

pub put_u64-requires : goal.put_u64-requires
put_u64-requires c =
    let s = c.span_of-span.result in
    let a = behind_within c.args.form c.args.node.now c.args.i s.at s.behind s.end c.span_of-span.ensures in
    let b = behind_far c.args.form c.args.node.now c.args.i s.at s.behind s.end c.span_of-span.ensures in
    omega arith

pub returns-clause-pieces : goal.returns-clause-pieces
returns-clause-pieces c =
    let s = c.span_of-span.result in
    let h = c.span_of-span.ensures in
    let old = c.args.node.now in
    let place : s.behind - 8 + 8 ≡ s.behind = (let b = behind_far c.args.form old c.args.i s.at s.behind s.end h in omega arith) in
    lead_pieces c.args.form old c.put_u64.new.bytes c.args.i s.at s.behind s.end h c.requires.children (s.behind - 8) c.args.vcn place
    c.put_u64.ensures.rest c.put_u64.ensures.value

pub returns-clause-ok : goal.returns-clause-ok
returns-clause-ok c =
    let s = c.span_of-span.result in
    let h = c.span_of-span.ensures in
    let old = c.args.node.now in
    let new = c.put_u64.new.bytes in
    let put = c.put_u64.ensures in
    let place : s.behind - 8 + 8 ≡ s.behind = (let b = behind_far c.args.form old c.args.i s.at s.behind s.end h in omega arith) in
    let keeps = lead_keeps c.args.form old new c.args.i s.at s.behind s.end h c.requires.children (s.behind - 8) c.args.vcn place
    put.rest put.value in
    record {
      node = lead_node c.args.form old new c.args.i s.at s.behind s.end h c.requires.children (s.behind - 8) c.args.vcn place put.rest
          put.value;
      short = lead_short c.args.form old new c.args.i s.at s.behind s.end h c.requires.children (s.behind - 8) c.args.vcn place
          put.rest put.value;
      header = keeps;
      children = lead_children c.args.form old new c.args.i s.at s.behind s.end h c.requires.children (s.behind - 8) c.args.vcn place
          put.rest put.value;
      opened = kept_opened old new keeps;
    }
