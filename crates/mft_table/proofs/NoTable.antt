-- No layout by the opened record 0 is none by the stored one.
use Rattle.std.proofs.Common.{◌≡◌, ℕ, List, Option, None, Some, Result, Ok, Err, sym, subst}
use Rattle.std.specs.Prelude.{IfNone, IfOk}
use Rattle.ntfs_def.specs.Fixup.{opened_of}
use Rattle.ntfs_boot.specs.declared.Geometry.{Geometry}
use Rattle.volume_def.specs.Table.{TableLayout}
use Rattle.mft_table.specs.declared.find.table.Table.{Table}
use Rattle.mft_table.specs.Tables.{BlockTells, RecordTells}

pub none-stored : {E : Type 0} (found : Result (Option Table) E) (geometry : Geometry) (stored opened : List ℕ)
    → opened ≡ opened_of stored
    → IfOk found (λ table. IfNone table ((layout : TableLayout) → ¬ (RecordTells geometry opened layout)))
    → IfOk found (λ table. IfNone table ((layout : TableLayout) → ¬ (BlockTells geometry stored layout)))
none-stored (Ok None) geometry stored opened is none =
    λ layout has. none layout (subst (λ (r : List ℕ). RecordTells geometry r layout) (sym is) has.tells)
none-stored (Ok (Some table)) geometry stored opened is none = tt
none-stored (Err e) geometry stored opened is none = tt
