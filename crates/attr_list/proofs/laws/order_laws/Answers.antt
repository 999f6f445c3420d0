use Rattle.std.proofs.Common.{sym, subst}
use Rattle.ntfs_def.specs.AttributeList.{list_entries, list_entry_at}
use Rattle.ntfs_def.specs.ListOrder.{AreInOrder}
use Rattle.attr_list.proofs.PlaceLaws.{AreInOrder-inserted, AreInOrder-removed}
use Rattle.attr_list.proofs.laws.order_laws.Goals as goal

pub returns-clause-inserted : goal.returns-clause-inserted
returns-clause-inserted c fold entry old new put ordered =
    subst (AreInOrder fold) (sym put.entries)
    (AreInOrder-inserted fold (list_entries old) ordered (list_entry_at put.made 0) put.i put.place)

pub returns-clause-removed : goal.returns-clause-removed
returns-clause-removed c fold i old new inside cut ordered =
    subst (AreInOrder fold) (sym cut.entries) (AreInOrder-removed fold (list_entries old) ordered i inside)
