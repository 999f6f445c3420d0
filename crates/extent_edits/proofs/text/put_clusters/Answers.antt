use Rattle.std.proofs.Common.{◌+◌, ◌-◌, length, take, drop, arith}
use Rattle.extent_edits.proofs.RunBytes.{run_length-put}
use Rattle.extent_edits.proofs.text.put_clusters.Goals as goal

pub returns-clause-clusters : goal.returns-clause-clusters
returns-clause-clusters c =
    let text = c.args.text.now in
    let at = c.args.at in
    let rest = drop c.length_width-width.result (take (length text - (at + 1)) (drop (at + 1) text)) in
    let wide = c.length_width-width.ensures in
    let some = c.requires.inside in
    run_length-put text c.write_uint.new.buf rest at (length text - (at + 1)) c.length_width-width.result c.args.clusters (omega arith)
    wide c.write_uint.ensures (rw wide c.requires.fits)
