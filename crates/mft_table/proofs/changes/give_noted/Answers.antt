use Rattle.std.proofs.Common.{[], ◌∷◌, ◌++◌, sym, ap, subst, ◌∙◌}
use Rattle.mft_table.specs.declared.changes.Change.TheVariants.{Gave}
use Rattle.mft_table.specs.Changes.{ShowAll, before_all, with_clusters_given}
use Rattle.mft_table.proofs.ChangeLaws.{ShowAll-push, before_all-push, given-back, given-shown}
use Rattle.mft_table.proofs.changes.give_noted.Goals as goal

pub returns-clause-shown : goal.returns-clause-shown
returns-clause-shown c =
    let old = c.args.mounted.now in
    let change = Gave c.args.at c.args.len in
    let items = ap (λ l. l ++ change ∷ []) c.reserve.ensures.items in
    let back = given-back old c.args.at c.args.len c.requires.taken in
    let rest = subst (λ tables. ShowAll tables c.args.changes.now.items) (sym back) c.requires.shown in
    rw (c.give.ensures.flags, c.push_reserved.ensures.items, items)
    (ShowAll-push c.args.changes.now.items change (with_clusters_given old c.args.at c.args.len)
    (given-shown old c.args.at c.args.len c.requires.taken) rest)

pub returns-clause-before : goal.returns-clause-before
returns-clause-before c =
    let old = c.args.mounted.now in
    let change = Gave c.args.at c.args.len in
    let items = ap (λ l. l ++ change ∷ []) c.reserve.ensures.items in
    rw (c.give.ensures.flags, c.push_reserved.ensures.items, items)
    (before_all-push c.args.changes.now.items change (with_clusters_given old c.args.at c.args.len)
    ∙ ap (before_all c.args.changes.now.items) (given-back old c.args.at c.args.len c.requires.taken))
