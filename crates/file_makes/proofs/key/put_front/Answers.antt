use Rattle.std.proofs.Common.{◌∙◌, arith}
use Rattle.std.proofs.lemmas.List.{get_or-set_other}
use Rattle.file_makes.proofs.key.put_front.Goals as goal

pub returns-clause-sizes : goal.returns-clause-sizes
returns-clause-sizes c k low high =
    get_or-set_other c.put_u32.new.bytes 0x40 k c.args.units 0 (λ e. absurd (omega (arith, e, high)))
    ∙ c.put_u32.ensures.rest.below k (omega (arith, high))
    ∙ c.put_moment.ensures.rest.above k (omega (arith, low))
    ∙ c.put_u64.ensures.rest.above k (omega (arith, low))

pub returns-clause-last : goal.returns-clause-last
returns-clause-last c k low high =
    get_or-set_other c.put_u32.new.bytes 0x40 k c.args.units 0 (λ e. absurd (omega (arith, e, high)))
    ∙ c.put_u32.ensures.rest.above k (omega (arith, low))
    ∙ c.put_moment.ensures.rest.above k (omega (arith, low))
    ∙ c.put_u64.ensures.rest.above k (omega (arith, low))

pub returns-clause-space : goal.returns-clause-space
returns-clause-space c =
    get_or-set_other c.put_u32.new.bytes 0x40 0x41 c.args.units 0 (λ e. absurd (omega (arith, e)))
    ∙ c.put_u32.ensures.rest.above 0x41 (omega arith)
    ∙ c.put_moment.ensures.rest.above 0x41 (omega arith)
    ∙ c.put_u64.ensures.rest.above 0x41 (omega arith)
