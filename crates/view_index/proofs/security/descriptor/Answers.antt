use Rattle.std.proofs.Common.{◌+◌, subst, arith}
use Rattle.std.specs.Prelude.{IfNone}
use Rattle.volume_def.specs.Readable.{IsFile}
use Rattle.ntfs_def.specs.declared.records.TheConstants.{SECURE}
use Rattle.mft_table.specs.Mft.{view}
use Rattle.mft_table.proofs.StreamReads.{MftReads-then}
use Rattle.view_index.proofs.SoundLaws.{no-descriptors}
use Rattle.view_index.proofs.security.descriptor.Goals as goal

pub returns-in_default-clause-told : goal.returns-in_default-clause-told
returns-in_default-clause-told g c told =
    let volume = view g.D.Disk c.args.mft.now in
    let known = c.requires.readable told in
    no-descriptors volume known c.args.id
    (subst (λ o. IfNone o (¬ (IsFile volume SECURE))) c.in_default.is (c.in_ok-base.ensures.other told known.readable))

pub returns-clause-reads : goal.returns-clause-reads
returns-clause-reads g c =
    let b = c.descriptor_in.ensures.reads in
    (20678 + b.0, MftReads-then g.D.Disk _ _ _ 20678 b.0 (20678 + b.0) c.in_ok-base.ensures.reads b.1 (omega arith))
