use Rattle.std.proofs.Common.{◌+◌, length, slice_index, ap, sym, ◌∙◌, arith}
use Rattle.list_laws.proofs.PieceLaws.{index_within}
use Rattle.index_node.proofs.parts.begin_with.Goals as goal

pub returns : goal.returns
returns c = record {
  len = c.put_u64.ensures.rest.len ∙ c.put_entry.ensures.rest.len;
  own = c.put_u64.ensures.value;
  low = λ k lt.
      let n = c.told-start in
      c.put_u64.ensures.rest.below k lt
      ∙ ap (λ x. slice_index c.put_entry.new.node x) {x = k} {y = 0 + k} (omega arith)
      ∙ sym (index_within c.put_entry.new.node 0 (length c.args.start.now) k (omega (arith, n, lt)))
      ∙ ap (λ xs. slice_index xs k) c.put_entry.ensures.holds.0;
  high = λ k from to.
      let n = c.told-start in
      c.put_u64.ensures.rest.above k (omega (arith, from))
      ∙ ap (λ x. slice_index c.put_entry.new.node x) {x = k} {y = 0 + k} (omega arith)
      ∙ sym (index_within c.put_entry.new.node 0 (length c.args.start.now) k (omega (arith, n, to)))
      ∙ ap (λ xs. slice_index xs k) c.put_entry.ensures.holds.0;
}
