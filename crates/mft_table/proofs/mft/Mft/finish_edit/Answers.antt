use Rattle.std.proofs.Common.{sym, subst}
use Rattle.mft_table.specs.Mounted.{StandsOn}
use Rattle.mft_table.proofs.ChangeLaws.{ShowAll-none, before_all-none}
use Rattle.mft_table.proofs.mft.Mft.finish_edit.Goals as goal

pub invariant_of-self-2 : goal.invariant_of-self-2
invariant_of-self-2 g c = record {
  stands = subst (λ size. StandsOn size c.args.self.now.mounted) (sym c.finish_edit.ensures.goes_on.size) c.args.self.now.stands;
  shown = ShowAll-none _ _ c.clear.ensures.items;
}

pub returns-clause-committed : goal.returns-clause-committed
returns-clause-committed g c = before_all-none _ _ c.clear.ensures.items
