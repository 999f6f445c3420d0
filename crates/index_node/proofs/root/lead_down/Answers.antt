use Rattle.std.proofs.Common.{◌+◌, slice_index, refl, ap, sym, ◌∙◌, arith}
use Rattle.list_laws.proofs.PieceLaws.{index_within}
use Rattle.index_node.specs.declared.root.TheConstants.{DOWN}
use Rattle.index_node.proofs.RootLaws.{down_by}
use Rattle.index_node.proofs.root.lead_down.Goals as goal

pub returns : goal.returns
returns c =
    down_by c.put_u64.new.bytes DOWN c.args.vcn (c.put_u64.ensures.rest.len ∙ c.put_entry.ensures.rest.len ∙ c.requires)
    c.put_u64.ensures.value
    (λ k lt.
    c.put_u64.ensures.rest.below (16 + k) (omega arith)
    ∙ sym (index_within c.put_entry.new.node 16 40 k (omega arith))
    ∙ ap (λ xs. slice_index xs k) c.put_entry.ensures.holds.0)
    refl refl refl refl refl refl refl
