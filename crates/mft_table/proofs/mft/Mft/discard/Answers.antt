use Rattle.std.proofs.Common.{sym, subst, ◌∙◌}
use Rattle.mft_table.specs.Mounted.{StandsOn}
use Rattle.mft_table.proofs.ChangeLaws.{ShowAll-none, StandsOn-before_all, before_all-none}
use Rattle.mft_table.proofs.mft.Mft.discard.Goals as goal

pub invariant_of-self : goal.invariant_of-self
invariant_of-self g c =
    let old = c.args.self.now in
    let stands = subst (λ size. StandsOn size old.mounted) (sym c.discard.ensures.goes_on.size) old.stands in
    record {
      stands = rw c.undo_all.ensures.undone (StandsOn-before_all _ old.changes.items old.mounted old.shown stands);
      shown = ShowAll-none _ _ c.undo_all.ensures.none;
    }

pub returns-clause-committed : goal.returns-clause-committed
returns-clause-committed g c = before_all-none _ _ c.undo_all.ensures.none ∙ c.undo_all.ensures.undone
