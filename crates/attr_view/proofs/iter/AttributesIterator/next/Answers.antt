use Rattle.std.proofs.Common.{arith}
use Rattle.attr_view.proofs.LeftLaws.{left-fewer, left-more, left-none}
use Rattle.attr_view.proofs.iter.AttributesIterator.next.Goals as goal

pub returns-then-self-clause-steps : goal.returns-then-self-clause-steps
returns-then-self-clause-steps c =
    let it = c.args.self.now in
    let none = left-none it.block.now it.count it.next it.shape c.if-self.true in (none, none)

pub returns-clause-steps : goal.returns-clause-steps
returns-clause-steps c =
    let it = c.args.self.now in
    left-more it.block.now it.count it.next it.at it.shape (omega (arith, it.within, c.if-self.false)) it.place

pub returns-clause-goes : goal.returns-clause-goes
returns-clause-goes c =
    let it = c.args.self.now in
    let fewer = left-fewer it.block.now it.count it.next it.shape (omega (arith, it.within, c.if-self.false)) in
    record { on = λ _. (tt, tt, fewer); keeps = tt; rests = λ _. tt }
