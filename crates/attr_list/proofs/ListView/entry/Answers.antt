use Rattle.std.proofs.Common.{arith, Option, Some, IfSome, ap, ◌∙◌, sym, subst}
use Rattle.ntfs_def.specs.AttributeList.{IsListEntry, ListEntry, list_entry_at}
use Rattle.attr_list.proofs.ListEntryLaws.{length-list_entries, slice_get-list_entries}
use Rattle.attr_list.specs.View.{IsEntryOf}
use Rattle.attr_list.proofs.ListView.entry.Goals as goal

pub entry_place-requires : goal.entry_place-requires
entry_place-requires c =
    let view = c.args.self.now in
    let all = length-list_entries view.bytes.now view.count view.shape in λ k lt. view.shape.each k (omega (arith, c.requires))

pub entry_at-requires : goal.entry_at-requires
entry_at-requires c =
    let view = c.args.self.now in
    let all = length-list_entries view.bytes.now view.count view.shape in
    subst (IsListEntry view.bytes.now) (sym c.entry_place.ensures) (view.shape.each c.args.i (omega (arith, c.requires)))

pub returns-clause-entry : goal.returns-clause-entry
returns-clause-entry c =
    let view = c.args.self.now in
    let all = length-list_entries view.bytes.now view.count view.shape in
    let here =
    slice_get-list_entries view.bytes.now view.count c.args.i view.shape (omega (arith, c.requires))
    ∙ ap (λ at. Some (list_entry_at view.bytes.now at)) (sym c.entry_place.ensures) in
    subst (λ (found : Option ListEntry). IfSome found (λ listed. IsEntryOf listed c.in_ok-entry.entry)) (sym here) c.in_ok-entry.ensures
