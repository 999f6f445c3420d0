use Rattle.attr_view.proofs.HeaderLaws.{SetsHeader-put}
use Rattle.attr_view.proofs.record_mut.set_header_in.Goals as goal

pub returns : goal.returns
returns c = SetsHeader-put c.args.block.now _ _ c.args.header c.requires c.put_header.ensures
