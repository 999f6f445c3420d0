use Rattle.tree_edit.proofs.FoundOver.{image-of, mounted-as}
use Rattle.mft_table.specs.Mft.{view}
use Rattle.tree_edit.proofs.write.find_to_write_through.Goals as goal

pub returns-in-Ok-clause-can : goal.returns-in-Ok-clause-can
returns-in-Ok-clause-can g c = λ told.
    let old = c.args.mft.now in
    let bytes = image-of g.D.Disk old c.requires.image told in
    let found = c.in_ok-held.ensures.found in
    (c.in-Ok.ensures.decides (view g.D.Disk old) (mounted-as g.D.Disk old c.load_node.new.mft c.requires.volume c.mounted.result.now
    c.mounted.ensures c.cluster_bytes-size.result c.cluster_bytes-size.ensures found.reads found.only told) (c.requires.volume told).sound
    (found.is told)).2 bytes.0 bytes.1
