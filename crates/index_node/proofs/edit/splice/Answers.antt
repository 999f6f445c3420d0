use Rattle.std.proofs.Common.{◌+◌, ◌-◌, Bool, length, subst, ◌∙◌, arith}
use Rattle.index_node.specs.LayOut.{SetsHeader}
use Rattle.index_node.proofs.SpliceLaws.{begins}
use Rattle.index_node.proofs.edit.splice.Goals as goal

pub returns : goal.returns
returns c =
    let old = c.args.node.now in
    let mid = c.put_header.new.node in
    let b = begins old c.requires.right in
    let low = c.requires.low in
    let order = c.requires.order in
    let inside = c.requires.inside in
    record {
      mid = mid;
      sets = subst (λ (x : Bool). SetsHeader old mid x (c.args.at + length c.args.bytes.now + (c.args.end - c.args.from)))
          c.has_children-children.ensures c.put_header.ensures;
      rest = record {
        len = c.put_entry.ensures.rest.len ∙ c.move_bytes.ensures.rest.len;
        below = λ k lt. c.put_entry.ensures.rest.below k lt ∙ c.move_bytes.ensures.rest.below k (omega arith);
        above = λ k le. c.put_entry.ensures.rest.above k (omega arith) ∙ c.move_bytes.ensures.rest.above k le;
      };
      put = c.put_entry.ensures.holds.0;
      moved = λ j k from to e.
          c.put_entry.ensures.rest.above j (omega arith)
          ∙ c.move_bytes.ensures.moved j k from to e
          ∙ c.put_header.ensures.behind k (omega arith);
    }
