-- A volume is clean where its dirty flag is 0.
use Rattle.std.proofs.Common.{◌≡◌, ◌↔◌, ℕ, List, Option, Some, None, ap}
use Rattle.std.specs.Prelude.{IsSomeAnd, option_map}
use Rattle.ntfs_def.specs.Attribute.{attributes, first_value}
use Rattle.ntfs_def.specs.Fixup.{opened_of}
use Rattle.ntfs_def.specs.VolumeInformation.{dirty_bit}
use Rattle.ntfs_def.specs.declared.kinds.TheConstants.{VOLUME_INFORMATION}
use Rattle.ntfs_def.specs.declared.records.TheConstants.{VOLUME}
use Rattle.volume_def.specs.VersionClause.{IsClean}
use Rattle.volume_def.specs.View.{VolumeView}
use Rattle.session_def.specs.State.{dirty_flag}

pub clean-flag : (view : VolumeView) → IsClean view ↔ (dirty_flag view ≡ Some 0)
clean-flag view = by (first_value VOLUME_INFORMATION (attributes (opened_of (view.block VOLUME))))
  where
    by : (o : Option (List ℕ)) → IsSomeAnd o (λ value. dirty_bit value ≡ 0) ↔ (option_map dirty_bit o ≡ Some 0)
    by None = (λ e. absurd e, λ e. cc)
    by (Some value) = (λ e. ap Some e, λ e. cc)
