use Rattle.std.proofs.Common.{ℕ, ◌+◌, ◌*◌, ◌≤◌, List, subst}
use Rattle.ntfs_def.specs.Fixup.{Seals}
use Rattle.volume_def.specs.Coverage.{IsApart}
use Rattle.volume_def.specs.View.{ReplacesBlock}
use Rattle.mft_table.specs.Mft.{MftStages, view}
use Rattle.mft_table.specs.Mounted.{mounted_layout}
use Rattle.mft_table.specs.Staging.{record_places}
use Rattle.mft_table.proofs.StagedRecord.{MftStages-reserved, view-reserved}
use Rattle.mft_table.proofs.mft.Mft.write_record.Goals as goal

pub returns-clause-replaces : goal.returns-clause-replaces
returns-clause-replaces g c =
    subst (λ before. IsApart before.layout → 1024 * c.args.number + 1024 ≤ before.layout.initialized
    → (stored : List ℕ) × Seals c.args.block.now stored × ReplacesBlock before (view g.D.Disk c.stage_record.new.self) c.args.number stored)
    (view-reserved g.D.Disk _ _ c.reserve.ensures.keeps) c.stage_record.ensures.replaces

pub returns-clause-stages : goal.returns-clause-stages
returns-clause-stages g c =
    let first = c.reserve.ensures.keeps in
    subst (λ tables. MftStages g.D.Disk (record_places (mounted_layout tables) c.args.number) 4 c.args.self.now c.stage_record.new.self)
    first.mounted (MftStages-reserved g.D.Disk _ _ first c.stage_record.new.self _ 4 c.stage_record.ensures.stages)
