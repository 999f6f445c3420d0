use Rattle.std.proofs.Common.{[], ◌++◌, ◌-◌, take, sym, ap, subst, ◌∙◌}
use Rattle.mft_table.specs.Changes.{ShowAll, before_all}
use Rattle.mft_table.proofs.ChangeLaws.{ShowAll-last, before_all-none, before_all-push}
use Rattle.mft_table.proofs.changes.undo_all.Goals as goal

pub undo-requires : goal.undo-requires
undo-requires c =
    let all = subst (ShowAll c.changes.mounted) c.in-Some.ensures.items c.changes.invariant.shown in
    (ShowAll-last c.pop.new.self.items c.in-Some.change c.changes.mounted all).0

pub changes-preserved : goal.changes-preserved
changes-preserved c =
    let all = subst (ShowAll c.changes.mounted) c.in-Some.ensures.items c.changes.invariant.shown in
    record {
      shown = rw c.undo.ensures (ShowAll-last c.pop.new.self.items c.in-Some.change c.changes.mounted all).1;
      same = ap (before_all c.pop.new.self.items) c.undo.ensures
          ∙ sym (before_all-push c.pop.new.self.items c.in-Some.change c.changes.mounted)
          ∙ sym (ap (λ l. before_all l c.changes.mounted) c.in-Some.ensures.items) ∙ c.changes.invariant.same;
    }

pub returns-clause-undone : goal.returns-clause-undone
returns-clause-undone c =
    let empty = c.in_default.ensures in
    let left = empty.rest ∙ ap (λ n. take (n - 1) c.changes.changes.items) empty.cases.0 in
    let none = empty.items ∙ ap (λ l. l ++ []) left in
    sym (before_all-none c.changes.changes.items c.changes.mounted none) ∙ c.changes.invariant.same
