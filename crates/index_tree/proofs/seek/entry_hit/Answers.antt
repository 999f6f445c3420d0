use Rattle.std.proofs.Common.{[], None, ap, sym, ◌∙◌, subst}
use Rattle.std.specs.Prelude.{IsTrue}
use Rattle.ntfs_def.specs.Node.{Item, Entry, IsOwnEntry, item_in}
use Rattle.index_node.specs.View.{form_of_view, view_of}
use Rattle.index_tree.proofs.OwnEntries.{one_own}
use Rattle.index_tree.proofs.seek.entry_hit.Goals as goal

bare : Entry
bare = record { item = record { head = []; key = []; rest = [] }; child = None }

pub returns-in_ok-copy-clause-keyed : goal.returns-in_ok-copy-clause-keyed
returns-in_ok-copy-clause-keyed g c =
    let valid = g.C.Collation.valid c.args._order.now in
    let form = form_of_view (view_of c.args.place.now) in
    record {
      own = subst (IsOwnEntry form) (sym c.in_ok-copy.ensures) (one_own form _ c.entry.result.now c.entry.ensures.own);
      key = subst (λ (x : Item). IsTrue (valid x.key)) (sym (ap item_in c.in_ok-copy.ensures
          ∙ c.entry.ensures.item bare)) (c.requires.key c.if-hit.true bare);
    }
