use Rattle.std.proofs.Common.{sym, subst}
use Rattle.volume_def.specs.ExtentsClause.{MeetsExtents}
use Rattle.volume_def.specs.Files.{records_of}
use Rattle.list_laws.specs.Least.{IsLeastFailing}
use Rattle.record_notes.proofs.UnlistedLaws.{first-of-all, first-of-volume}
use Rattle.record_notes.proofs.unlisted.UnlistedFiles.first_wrong_file.Goals as goal

pub returns-clause-volume : goal.returns-clause-volume
returns-clause-volume c = λ view meets note least.
    let files = c.args.self.now in
    subst (IsLeastFailing (MeetsExtents (records_of view) files.cluster_bytes)) (sym c.least_of.ensures)
    (first-of-volume view files.cluster_bytes files.first_wrong c.args.listed meets note least)

pub returns-clause-records : goal.returns-clause-records
returns-clause-records c = λ records past note alone least.
    let files = c.args.self.now in
    subst (IsLeastFailing (MeetsExtents records files.cluster_bytes)) (sym c.least_of.ensures)
    (first-of-all records files.cluster_bytes files.first_wrong c.args.listed past note alone least)
