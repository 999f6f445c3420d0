use Rattle.std.proofs.Common.{sym}
use Rattle.attr_list.proofs.ListEntryLaws.{length-list_entries}
use Rattle.attr_list.proofs.ListView.count.Goals as goal

pub returns : goal.returns
returns c = sym (length-list_entries c.args.self.now.bytes.now c.args.self.now.count c.args.self.now.shape)
