use Rattle.std.proofs.Common.{◌≡◌, ◌%◌, ℕ, Bool, false, ap, refl, sym, subst, ◌∙◌}
use Rattle.std.specs.Prelude.{IsTrue}
use Rattle.ntfs_def.specs.Node.{Item, entry_flags, has_children, is_one_entry, item_in}
use Rattle.index_node.specs.Edit.{entry_in}
use Rattle.index_node.specs.View.{bytes_of, form_of_view}
use Rattle.index_tree.proofs.OwnEntries.{own_whole}
use Rattle.index_tests.proofs.EntryLaws.{leaf_of}
use Rattle.index_tests.proofs.edits.entry_to_put.Goals as goal

pub returns-clause-short : goal.returns-clause-short
returns-clause-short g c =
    let entry = c.entry-entry.result.now in
    let children = has_children (bytes_of c.in-Ok.view) in
    let whole = own_whole (form_of_view c.in-Ok.view) children entry c.entry-entry.ensures.own in
    let leaf : children ≡ false = leaf_of children (entry_flags entry 0 % 2) whole.flag
    (λ e. c.if-u16_at-eq1.false (ap (λ n. n % 2) c.u16_at.ensures ∙ e)) in
    record {
      one = subst (λ b. IsTrue (is_one_entry c.args.form b entry)) leaf
          (subst (λ form. IsTrue (is_one_entry form children entry)) c.in-Ok.ensures.form c.entry-entry.ensures.own);
      short = c.if-entry-gt632.false;
    }

pub returns-clause-key : goal.returns-clause-key
returns-clause-key g c =
    let entry = c.entry-entry.result.now in
    let same : c.key.result.now ≡ (item_in entry).key =
    c.key.ensures (entry_in entry) ∙ sym (ap (λ (x : Item). x.key) (c.entry-entry.ensures.item (entry_in entry))) in
    subst (λ key. IsTrue (g.C.Collation.valid c.args.order.now key)) same
    (subst (λ b. IsTrue b) (sym c.if-not-valid.false ∙ c.is_valid-valid.ensures) refl)
