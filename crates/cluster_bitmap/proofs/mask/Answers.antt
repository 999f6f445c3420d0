use Rattle.list_laws.proofs.MaskLaws.{mask-above, mask-below, mask-inside}
use Rattle.cluster_bitmap.proofs.mask.Goals as goal

pub returns-clause-inside : goal.returns-clause-inside
returns-clause-inside c = λ i from to. mask-inside 64 c.args.low c.args.high i c.requires.order c.requires.word from to

pub returns-clause-below : goal.returns-clause-below
returns-clause-below c = λ i h. mask-below 64 c.args.low c.args.high i c.requires.order c.requires.word h

pub returns-clause-above : goal.returns-clause-above
returns-clause-above c = λ i h. mask-above 64 c.args.low c.args.high i c.requires.order c.requires.word h
