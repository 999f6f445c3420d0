use Rattle.ntfs_def.specs.declared.records.TheConstants.{MFT_MIRROR}
use Rattle.mft_table.specs.Mft.{view}
use Rattle.mount_check.proofs.PlaceLaws.{parts-loaded}
use Rattle.mount_check.proofs.mirror_place.load_mirror.Goals as goal

pub returns-in-Ok-clause-parts : goal.returns-in-Ok-clause-parts
returns-in-Ok-clause-parts g c = λ told come.
    parts-loaded (view g.D.Disk c.args.mft.now) MFT_MIRROR c.in-Ok.file come.before c.in-Ok.ensures.number
    (c.in-Ok.ensures.own told) (c.in-Ok.ensures.parts told)

pub returns-in-Err-clause-faults : goal.returns-in-Err-clause-faults
returns-in-Err-clause-faults g c = c.mount_no_of.ensures.counts _ _ c.in-Err.ensures.err c.in-Err.ensures.faults
