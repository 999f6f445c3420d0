use Rattle.std.proofs.Common.{[], ◌∷◌, ◌++◌, sym, ap, subst, ◌∙◌}
use Rattle.mft_table.specs.declared.changes.Change.TheVariants.{GaveRecord}
use Rattle.mft_table.specs.Changes.{ShowAll, before_all, with_record_given}
use Rattle.mft_table.proofs.ChangeLaws.{ShowAll-push, before_all-push, record_given-back, record_given-shown}
use Rattle.mft_table.proofs.changes.give_record_noted.Goals as goal

pub returns-clause-shown : goal.returns-clause-shown
returns-clause-shown c =
    let old = c.args.mounted.now in
    let change = GaveRecord c.args.number in
    let items = ap (λ l. l ++ change ∷ []) c.reserve.ensures.items in
    let back = record_given-back old c.args.number c.requires.taken in
    let rest = subst (λ tables. ShowAll tables c.args.changes.now.items) (sym back) c.requires.shown in
    rw (c.give.ensures.flags, c.push_reserved.ensures.items, items)
    (ShowAll-push c.args.changes.now.items change (with_record_given old c.args.number)
    (record_given-shown old c.args.number c.requires.taken) rest)

pub returns-clause-before : goal.returns-clause-before
returns-clause-before c =
    let old = c.args.mounted.now in
    let change = GaveRecord c.args.number in
    let items = ap (λ l. l ++ change ∷ []) c.reserve.ensures.items in
    rw (c.give.ensures.flags, c.push_reserved.ensures.items, items)
    (before_all-push c.args.changes.now.items change (with_record_given old c.args.number)
    ∙ ap (before_all c.args.changes.now.items) (record_given-back old c.args.number c.requires.taken))
