use Rattle.mft_table.specs.Mft.{view}
use Rattle.view_index.proofs.IdLaws.{no-ids}
use Rattle.view_index.proofs.ids.find_entry.Goals as goal

pub returns-in_default-clause-found : goal.returns-in_default-clause-found
returns-in_default-clause-found g c told =
    no-ids (view g.D.Disk c.args.mft.now) c.args.file.now (c.requires.held told) c.in_default.ensures.none c.args.id
