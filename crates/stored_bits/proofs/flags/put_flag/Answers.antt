use Rattle.std.proofs.Common.{inl, inr, ap, sym, ◌∙◌, arith}
use Rattle.cluster_bitmap.specs.Words.{bit_for}
use Rattle.stored_bits.proofs.FlagBits.{cleared-here, cleared-other, raised-here, raised-other}
use Rattle.stored_bits.proofs.flags.put_flag.Goals as goal

pub returns-then-value-clause-here : goal.returns-then-value-clause-here
returns-then-value-clause-here c = raised-here c.args.bytes.now c.args.flag c.requires ∙ ap bit_for (sym c.if-value.true)

pub returns-then-value-clause-others : goal.returns-then-value-clause-others
returns-then-value-clause-others c = λ k beside. raised-other c.args.bytes.now c.args.flag k c.requires (λ same. elim beside [
  | inl below ↦ omega (arith, below, same)
  | inr above ↦ omega (arith, above, same)
])

pub returns-clause-here : goal.returns-clause-here
returns-clause-here c = cleared-here c.args.bytes.now c.args.flag c.requires ∙ ap bit_for (sym c.if-value.false)

pub returns-clause-others : goal.returns-clause-others
returns-clause-others c = λ k beside. cleared-other c.args.bytes.now c.args.flag k c.requires (λ same. elim beside [
  | inl below ↦ omega (arith, below, same)
  | inr above ↦ omega (arith, above, same)
])
