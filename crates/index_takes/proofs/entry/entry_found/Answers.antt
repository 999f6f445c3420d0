use Rattle.std.proofs.Common.{rules, arith}
use Rattle.std.proofs.lemmas.Grind.{common_steps}
use Rattle.mft_table.specs.Mft.{view}
use Rattle.entry_edits.specs.Index.{index_held}
use Rattle.entry_edits.specs.IndexBlocks.{records_found}
use Rattle.entry_edits.proofs.ToldLaws.{records-told}
use Rattle.index_takes.proofs.entry.entry_found.Goals as goal

pub returns-in-Ok-clause-entry : goal.returns-in-Ok-clause-entry
returns-in-Ok-clause-entry g c = λ told.
    let volume = view g.D.Disk c.args.mft.now in
    let index = c.args.index in
    c.in-Ok.ensures.entry (records_found volume c.args.file.now index)
    (records-told volume (index_held c.args.file.now index.name.now) told)

pub returns-in-Ok-clause-fetched : goal.returns-in-Ok-clause-fetched
returns-in-Ok-clause-fetched g c = λ told node says depth s sorted.
    let volume = view g.D.Disk c.args.mft.now in
    let index = c.args.index in
    let costs = c.in-Ok.ensures.fetched (records_found volume c.args.file.now index)
    (records-told volume (index_held c.args.file.now index.name.now) told) node says depth s sorted in
    search (rules, arith)

pub returns-clause-fetched : goal.returns-clause-fetched
returns-clause-fetched g c = λ told node says depth s sorted.
    let volume = view g.D.Disk c.args.mft.now in
    let index = c.args.index in
    let costs = c.in-Err.ensures.fetched (records_found volume c.args.file.now index)
    (records-told volume (index_held c.args.file.now index.name.now) told) node says depth s sorted in
    grind (arith, common_steps)
