use Rattle.list_laws.proofs.MaskLaws.{mask-above, mask-below, mask-inside}
use Rattle.record_notes.proofs.bits.mask.Goals as goal

pub returns-clause-inside : goal.returns-clause-inside
returns-clause-inside c = λ i from to. mask-inside 8 c.args.low c.args.high i c.requires.order c.requires.byte from to

pub returns-clause-below : goal.returns-clause-below
returns-clause-below c = λ i h. mask-below 8 c.args.low c.args.high i c.requires.order c.requires.byte h

pub returns-clause-above : goal.returns-clause-above
returns-clause-above c = λ i h. mask-above 8 c.args.low c.args.high i c.requires.order c.requires.byte h
