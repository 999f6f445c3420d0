use Rattle.std.proofs.Common.{◌+◌, arith, ap, sym, ◌∙◌, ◌∷◌, drop}
use Rattle.attr_list.proofs.LeftLaws.{entries_left-fewer, entries_left-more, entries_left-none}
use Rattle.ntfs_def.specs.AttributeList.{list_entries}
use Rattle.attr_list.proofs.listed.EntriesIterator.next.Goals as goal

pub returns-then-self-clause-steps : goal.returns-then-self-clause-steps
returns-then-self-clause-steps c =
    let it = c.args.self.now in
    let none = entries_left-none it.bytes.now it.count it.next it.shape c.if-self.true in (none, none)

pub returns-clause-steps : goal.returns-clause-steps
returns-clause-steps c =
    let it = c.args.self.now in
    entries_left-more it.bytes.now it.count it.next it.at it.shape (omega (arith, it.within, c.if-self.false)) it.place
    ∙ ap (λ entry. entry ∷ drop (it.next + 1) (list_entries it.bytes.now)) (sym c.entry_view-entry.ensures)

pub returns-clause-goes : goal.returns-clause-goes
returns-clause-goes c =
    let it = c.args.self.now in
    let fewer = entries_left-fewer it.bytes.now it.count it.next it.shape (omega (arith, it.within, c.if-self.false)) in
    record { on = λ _. (tt, tt, fewer); keeps = tt; rests = λ _. tt }
