use Rattle.std.proofs.Common.{◌-◌, ap, min}
use Rattle.volume_def.specs.Values.{pieces_touched}
use Rattle.mft_table.specs.Mft.{view}
use Rattle.tree_model.specs.declared.reply.Answer.TheVariants as a
use Rattle.tree_read.proofs.GivesLaws.{unread}
use Rattle.tree_read.proofs.StreamLaws.{range-read}
use Rattle.tree_read.proofs.data.data.Goals as goal

pub returns-in-Ok : goal.returns-in-Ok
returns-in-Ok g c = record {
  found = record {
    reads = pieces_touched c.args.at (min c.args.len (c.args.found.now.size - c.args.at));
    only = c.in-Ok.ensures.reads;
    counts = c.in-Ok.ensures.faults;
    is = λ told name is. ap a.Data (range-read (view g.D.Disk c.args.mft.now) c.args.held.now (c.requires.held told) name c.args.found.now
        c.args.at c.args.len c.in-Ok.bytes is (c.in-Ok.ensures.read told));
  };
}

pub returns-in-Err : goal.returns-in-Err
returns-in-Err g c = record {
  found = unread _ c.in-Err.no c.in-Err.ensures.reads c.in-Err.ensures.err c.in-Err.ensures.faults c.from.ensures;
}
