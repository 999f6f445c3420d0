use Rattle.std.proofs.Common.{◌∙◌}
use Rattle.ntfs_boot.specs.Geometry.{number_of}
use Rattle.std.proofs.Common.{Some}
use Rattle.mft_table.proofs.FoundLaws.{failing-read, found-err, found-ok}
use Rattle.mft_table.proofs.find.find_table.Goals as goal

pub returns-in-Ok-clause-ok : goal.returns-in-Ok-clause-ok
returns-in-Ok-clause-ok g c =
    let boot = c.in_ok-boot.ensures in
    found-ok _ _ c.in_ok-boot.boot c.sectors.result c.in-Ok.geometry boot.reads.only_reads.image c.sectors.ensures.length boot.sector
    c.in-Ok.ensures.ok.0 c.in-Ok.ensures.ok.1 c.find_at.result c.find_at.ensures.geometry c.find_at.ensures.ok

pub returns-in-Ok-clause-err : goal.returns-in-Ok-clause-err
returns-in-Ok-clause-err g c =
    let boot = c.in_ok-boot.ensures in
    found-err _ _ c.in_ok-boot.boot c.sectors.result c.in-Ok.geometry boot.reads.only_reads.image c.sectors.ensures.length boot.sector
    c.in-Ok.ensures.ok.0 c.in-Ok.ensures.ok.1 c.find_at.result c.find_at.ensures.err

pub returns-in-Err-clause-err : goal.returns-in-Err-clause-err
returns-in-Err-clause-err g c image told =
    let boot = c.in_ok-boot.ensures in
    failing-read _ image c.in_ok-boot.boot c.sectors.result (Some (number_of c.in-Err.fault)) c.sectors.ensures.length
    (boot.reads.only_reads.image ∙ told) (boot.sector image told) c.in-Err.ensures.err
