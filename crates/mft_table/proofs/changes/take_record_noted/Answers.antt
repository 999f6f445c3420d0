use Rattle.std.proofs.Common.{[], ◌∷◌, ◌++◌, sym, ap, subst, ◌∙◌}
use Rattle.mft_table.specs.declared.changes.Change.TheVariants.{TookRecord}
use Rattle.mft_table.specs.Changes.{ShowAll, before_all, with_record_taken}
use Rattle.mft_table.proofs.ChangeLaws.{ShowAll-push, before_all-push, record_taken-back, record_taken-shown}
use Rattle.mft_table.proofs.changes.take_record_noted.Goals as goal

pub returns-clause-shown : goal.returns-clause-shown
returns-clause-shown c =
    let old = c.args.mounted.now in
    let change = TookRecord c.args.number in
    let items = ap (λ l. l ++ change ∷ []) c.reserve.ensures.items in
    let back = record_taken-back old c.args.number c.requires.free in
    let rest = subst (λ tables. ShowAll tables c.args.changes.now.items) (sym back) c.requires.shown in
    rw (c.take.ensures.flags, c.push_reserved.ensures.items, items)
    (ShowAll-push c.args.changes.now.items change (with_record_taken old c.args.number)
    (record_taken-shown old c.args.number c.requires.free) rest)

pub returns-clause-before : goal.returns-clause-before
returns-clause-before c =
    let old = c.args.mounted.now in
    let change = TookRecord c.args.number in
    let items = ap (λ l. l ++ change ∷ []) c.reserve.ensures.items in
    rw (c.take.ensures.flags, c.push_reserved.ensures.items, items)
    (before_all-push c.args.changes.now.items change (with_record_taken old c.args.number)
    ∙ ap (before_all c.args.changes.now.items) (record_taken-back old c.args.number c.requires.free))
