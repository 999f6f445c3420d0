use Rattle.std.proofs.Common.{◌≡◌, refl, sym, ap, ◌∙◌, subst}
use Rattle.std.proofs.lemmas.Bool.{false≢true}
use Rattle.vol_disk.specs.Contents.{sector_in}
use Rattle.vol_stage.specs.Staged.{image}
use Rattle.ntfs_def.specs.Fixup.{IsSealed, opened_of}
use Rattle.volume_def.specs.Table.{two_sectors}
use Rattle.mft_table.specs.Mft.{stage_of, view}
use Rattle.mount_check.proofs.MirrorLaws.{copy-sectors, short-not_sealed}
use Rattle.mount_check.proofs.mirror.read_copy.Goals as goal

pub returns-in_default-clause-sealed : goal.returns-in_default-clause-sealed
returns-in_default-clause-sealed g c = λ told sealed three.
    absurd (short-not_sealed ((view g.D.Disk c.args.mft.now).copy c.args.n) (c.in_default.ensures.none told) sealed three)

pub returns-in-Ok-clause-opened : goal.returns-in-Ok-clause-opened
returns-in-Ok-clause-opened g c = λ told opens.
    let v = view g.D.Disk c.args.mft.now in
    let disk = sector_in (image g.D.Disk (stage_of g.D.Disk c.args.mft.now)) in
    let is : c.read_two.new.into ≡ v.copy c.args.n =
    c.in_ok-read_two.ensures.read told ∙ ap (two_sectors disk) c.in-Some.ensures.some.0 ∙ sym (copy-sectors disk v.layout c.args.n) in
    (subst IsSealed is (c.in-Ok.ensures.sealed.0 refl), c.in-Ok.ensures.opened ∙ ap opened_of is)

pub returns-in-Err-clause-sealed : goal.returns-in-Err-clause-sealed
returns-in-Err-clause-sealed g c = λ told sealed three.
    let v = view g.D.Disk c.args.mft.now in
    let disk = sector_in (image g.D.Disk (stage_of g.D.Disk c.args.mft.now)) in
    let is : c.read_two.new.into ≡ v.copy c.args.n =
    c.in_ok-read_two.ensures.read told ∙ ap (two_sectors disk) c.in-Some.ensures.some.0 ∙ sym (copy-sectors disk v.layout c.args.n) in
    absurd (false≢true (c.in-Err.ensures.sealed.1 (subst IsSealed (sym is) sealed)))
