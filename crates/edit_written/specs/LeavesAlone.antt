-- WHAT AN EDIT LEAVES ALONE, whatever it writes beside: where the volume and its table lie, its flag, and its log. It is all that is to be
-- known of an edit whose bytes are staged and written behind the mark.
use Rattle.std.specs.Prelude.{◌≡◌}
use Rattle.ntfs_def.specs.declared.records.TheConstants.{MFT, VOLUME}
use Rattle.volume_def.specs.Values.{KeepsClusters}
use Rattle.volume_def.specs.View.{VolumeView}
use Rattle.session_def.specs.Cost.{log_bytes, log_parts}

-- The first record tells where the table lies, the record of `$Volume` has the flag, and cluster 0 begins with the boot sector. Of the log
-- its parts stay, as many bytes of it are emptied, and its clusters hold what they held.
pub record LeavesAlone (old new : VolumeView) : Type 0 where
  pub layout : new.layout ≡ old.layout
  pub table : new.block MFT ≡ old.block MFT
  pub volume : new.block VOLUME ≡ old.block VOLUME
  pub boot : new.cluster 0 ≡ old.cluster 0
  pub log : log_parts new ≡ log_parts old
  pub emptied : log_bytes new ≡ log_bytes old
  pub log_clusters : KeepsClusters old new (log_parts old)
