use Rattle.std.proofs.Common.{◌+◌, arith, ap, sym, ◌∙◌, ◌∷◌, drop}
use Rattle.attr_list.proofs.LeftLaws.{left-fewer, left-more, left-none}
use Rattle.ntfs_def.specs.Record.{reference_in}
use Rattle.attr_list.specs.View.{holders_in}
use Rattle.attr_list.proofs.iter.HoldersIterator.next.Goals as goal

pub returns-then-self-clause-steps : goal.returns-then-self-clause-steps
returns-then-self-clause-steps c =
    let it = c.args.self.now in
    let none = left-none it.bytes.now it.count it.next it.shape c.if-self.true in (none, none)

pub returns-clause-steps : goal.returns-clause-steps
returns-clause-steps c =
    let it = c.args.self.now in
    left-more it.bytes.now it.count it.next it.at it.shape (omega (arith, it.within, c.if-self.false)) it.place
    ∙ ap (λ holder. reference_in holder ∷ drop (it.next + 1) (holders_in it.bytes.now)) (sym c.u64_at-holder.ensures)

pub returns-clause-goes : goal.returns-clause-goes
returns-clause-goes c =
    let it = c.args.self.now in
    let fewer = left-fewer it.bytes.now it.count it.next it.shape (omega (arith, it.within, c.if-self.false)) in
    record { on = λ _. (tt, tt, fewer); keeps = tt; rests = λ _. tt }
