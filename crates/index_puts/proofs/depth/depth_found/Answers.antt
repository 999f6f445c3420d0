use Rattle.mft_table.specs.Mft.{view}
use Rattle.entry_edits.specs.Index.{index_held}
use Rattle.entry_edits.specs.IndexBlocks.{records_found}
use Rattle.entry_edits.proofs.ToldLaws.{records-told}
use Rattle.index_puts.proofs.depth.depth_found.Goals as goal

pub returns-in-Ok-clause-depth : goal.returns-in-Ok-clause-depth
returns-in-Ok-clause-depth g c = λ told.
    let volume = view g.D.Disk c.args.mft.now in
    let index = c.args.index in
    c.in-Ok.ensures.depth (records_found volume c.args.file.now index)
    (records-told volume (index_held c.args.file.now index.name.now) told)
