-- WHAT AN EDIT STAGES, as a file that can be edited allows it.
use Rattle.std.proofs.Common.{◌+◌, ◌*◌, ℕ, List, length, inl, inr, arith}
use Rattle.vol_disk.specs.declared.Disk.{Ghosts}
use Rattle.ntfs_def.specs.FileName.{FileName}
use Rattle.mft_table.specs.declared.mft.Mft.{Mft}
use Rattle.mft_table.specs.Mft.{view}
use Rattle.volume_def.specs.View.{VolumeView}
use Rattle.stream_changes.specs.Below.{IsOfEdit, IsOfValue, StagesAttributes, StagesFew, StagesValue}
use Rattle.stream_changes.specs.Staged.{IsOfGiving, StagesGiving}
use Rattle.tree_ops.specs.Edits.{most_giving}

module _ {D : Type 0} (g : Ghosts D) (f : ℕ) (names : List FileName) (old new : Mft D g) where
  -- sectors of records of the file, and of its entries
  file-staged : (most : ℕ) → StagesFew g most (IsOfValue (view g old) f names) old new
      → StagesFew g most (IsOfEdit (view g old) f names) old new
  file-staged most x = record {
    few = x.few;
    only = λ sector has. elim (x.only sector has) [ inl before ↦ inl before | inr is ↦ inr (inr is) ];
  }

  -- the attributes of the file
  pub attributes-staged : StagesAttributes g f names old new
      → StagesFew g (4 + 12 * length names) (IsOfEdit (view g old) f names) old new
  attributes-staged x = file-staged (4 + 12 * length names) x

  -- bytes of a value too
  pub value-staged : StagesValue g f names old new → StagesFew g (8 + 12 * length names) (IsOfEdit (view g old) f names) old new
  value-staged x = file-staged (8 + 12 * length names) x

-- Clusters that are given back, or taken, are told by the volumes.
pub giving-staged : {D : Type 0} (g : Ghosts D) (most f : ℕ) (before : VolumeView) (old new : Mft D g)
    → StagesGiving g most f before old new → StagesFew g (most_giving most before (view g new) f) (IsOfGiving before f) old new
giving-staged g most f before old new x = record {
  few =
      let few = x.stages.few in
      let freed = x.freed in
      let owned = x.owned in
      omega (arith, few, freed, owned);
  only = x.stages.only;
}
