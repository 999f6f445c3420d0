-- Where a run stands, and where it begins.
use Rattle.std.specs.Prelude.{◌≡◌, ℕ, List, [], Option, Some, option_map}
use Rattle.ntfs_def.specs.Attribute.{attributes, first_value}
use Rattle.ntfs_def.specs.Fixup.{opened_of}
use Rattle.ntfs_def.specs.VolumeInformation.{dirty_bit}
use Rattle.ntfs_def.specs.declared.kinds.TheConstants.{VOLUME_INFORMATION}
use Rattle.ntfs_def.specs.declared.records.TheConstants.{VOLUME}
use Rattle.volume_def.specs.Sound.{IsSound}
use Rattle.volume_def.specs.VersionClause.{IsClean}
use Rattle.volume_def.specs.View.{VolumeView}
use Rattle.tree_model.specs.Facts.{IsVolumeOf}
use Rattle.tree_model.specs.Reading.{read}
use Rattle.tree_model.specs.Subjects.{Machine}

-- the settled image, its volume, the machine, and how many sectors were written until then
pub record State : Type 0 where
  pub image : List ℕ
  pub view : VolumeView
  pub machine : Machine
  pub written : ℕ

-- The image is sound, and reads as the machine's tree.
pub record Stands (state : State) : Type 0 where
  pub volume : IsVolumeOf state.image state.view
  pub sound : IsSound state.view
  pub reading : read state.view ≡ state.machine.tree

-- A run begins on a clean volume, without opens, at the moment 0.
pub record Begins (state : State) : Type 0 where
  pub stands : Stands state
  pub clean : IsClean state.view
  pub machine : state.machine ≡ record { tree = read state.view; opens = []; now = 0 }

-- The dirty flag: it says that the volume was not closed. It is 0 where the volume is clean, by a law.
abbrev pub dirty_flag : VolumeView → Option ℕ
dirty_flag view =
    option_map dirty_bit (first_value VOLUME_INFORMATION (attributes (opened_of (view.block VOLUME))))

abbrev pub IsDirty : VolumeView → Type 0
IsDirty view = dirty_flag view ≡ Some 1
