-- The records of an index, where they are told.
use Rattle.std.proofs.Common.{◌≡◌, ℕ, List, Option, Some, None, Bool, true, false, cond, refl, ap}
use Rattle.std.specs.Prelude.{IsTrue}
use Rattle.volume_def.specs.IndexesClause.{IndexParts}
use Rattle.volume_def.specs.View.{VolumeView}
use Rattle.index_store.specs.IndexBlocks.{told_records}
use Rattle.index_store.specs.IndexRecords.{index_record_on}

module _ (view : VolumeView) (index : IndexParts) where
  -- they are those of the index,
  pub records-told : IsTrue view.told → told_records view index ≡ Some (index_record_on view index)
  records-told told = ap (λ b. cond b (Some (index_record_on view index)) None) told

  -- and nothing else is told
  pub told-records : (records : ℕ → Option (List ℕ)) → told_records view index ≡ Some records
      → IsTrue view.told × (index_record_on view index ≡ records)
  told-records records e = by view.told e
    where
      by : (b : Bool) → cond b (Some (index_record_on view index)) None ≡ Some records
          → IsTrue b × (index_record_on view index ≡ records)
      by true e = (refl, cc)
      by false e = absurd (cc)
