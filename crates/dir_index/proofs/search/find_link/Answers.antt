use Rattle.index_store.specs.Mft.{view}
use Rattle.dir_index.proofs.HeldDirectory.{has-index}
use Rattle.dir_index.proofs.search.find_link.Goals as goal

pub returns-in_default-clause-found : goal.returns-in_default-clause-found
returns-in_default-clause-found g c told =
    absurd (has-index (view g.D.Disk c.args.mft.now) c.args.file.now c.args.upcase.now (c.requires.held told) c.in_default.ensures.none)
