use Rattle.std.proofs.Common.{subst, sym}
use Rattle.ntfs_def.specs.AttributeList.{HasListShape}
use Rattle.attr_list.proofs.ListEntryLaws.{length-list_entries}
use Rattle.attr_list.proofs.ListView.new.Goals as goal

pub returns-clause-shape : goal.returns-clause-shape
returns-clause-shape c =
    let value = c.args.bytes.now in
    let shape = c.in_ok-count.ensures.ok in
    subst (HasListShape value) (sym (length-list_entries value c.in_ok-count.count shape)) shape
