use Rattle.std.proofs.Common.{◌≡◌, ◌*◌, ap, ◌∙◌, arith}
use Rattle.vol_stage.specs.Staged.{image}
use Rattle.volume_def.specs.Blocks.{mirror_sector}
use Rattle.mft_table.specs.declared.mounted.Mounted.{Mounted}
use Rattle.mft_table.specs.Mft.{stage_of, view}
use Rattle.mount_check.proofs.MirrorLaws.{copy-told}
use Rattle.mount_check.proofs.mirror.copy_sector.Goals as goal

pub returns-then-sector-from-clause-none : goal.returns-then-sector-from-clause-none
returns-then-sector-from-clause-none g c = λ told.
    let layout = (view g.D.Disk c.args.mft.now).layout in
    let place : c.from-mirror.result ≡ layout.mirror = c.from-mirror.ensures ∙ ap (λ (m : Mounted). m.geometry.mirror) c.mounted.ensures in
    let wide : c.from.result ≡ layout.cluster_sectors = c.from.ensures ∙ c.cluster_sectors.ensures.sectors in
    let first : c.from-mirror.result * c.from.result ≡ mirror_sector layout =
    ap (λ x. x * c.from.result) place ∙ ap (λ x. layout.mirror * x) wide in
    copy-told (image g.D.Disk (stage_of g.D.Disk c.args.mft.now)) c.sectors.result layout c.args.n told c.sectors.ensures.length
    (omega (arith, first, c.from-2.ensures, c.from-3.ensures, c.if-sector-from.true))
