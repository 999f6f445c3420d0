use Rattle.std.proofs.Common.{refl, subst}
use Rattle.mft_table.specs.Mft.{view}
use Rattle.tree_read.specs.Nodes.{number_of}
use Rattle.tree_ops.specs.Edits.{EditsSo}
use Rattle.tree_ops.proofs.streams.stage_stream.Goals as goal

pub returns-in-Ok-clause-edits : goal.returns-in-Ok-clause-edits
returns-in-Ok-clause-edits g c = λ told name w.
    let v = view g.D.Disk c.args.mft.now in
    let new = view g.D.Disk c.put_stream.new.mft in
    let found = c.args.found.now in
    record {
      found = found;
      file_is = refl;
      can = w;
      edits =
          subst (λ times. EditsSo c.args.what found.way v new (number_of found.held) w.stream.is.part.name w.stream.bytes times found.flags)
          c.times_at-touched.ensures (c.in-Ok.ensures.edits told name w);
    }
