use Rattle.std.proofs.Common.{ap, ◌∙◌}
use Rattle.vol_bytes.specs.Field.{u16_at}
use Rattle.ntfs_def.specs.Fixup.{next_number}
use Rattle.ntfs_fixup.proofs.BareEdits.{bare_of-sealed}
use Rattle.ntfs_fixup.proofs.SealLaws.{Seals-marked}
use Rattle.ntfs_fixup.proofs.seal.Goals as goal

pub returns-clause-seals : goal.returns-clause-seals
returns-clause-seals c =
    let read = c.u16_at.ensures ∙ ap (u16_at c.args.block.now) c.u16_at-place.ensures in
    let next = c.next_number-number.ensures ∙ ap next_number read in
    Seals-marked c.args.block.now c.mark.new.block c.next_number-number.result c.requires c.mark.ensures next

pub returns-clause-bare : goal.returns-clause-bare
returns-clause-bare c = bare_of-sealed c.args.block.now c.mark.new.block c.requires (returns-clause-seals c)
