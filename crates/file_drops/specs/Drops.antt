-- A FILE MAY GO with its one name: what is asked of the volume before.
use Rattle.std.specs.Prelude.{ℕ}
use Rattle.ntfs_def.specs.FileName.{FileName}
use Rattle.volume_def.specs.View.{VolumeView}
use Rattle.tree_model.specs.declared.tree.Node.{Node}
use Rattle.dir_index.specs.Standard.{IsInitialized}
use Rattle.file_makes.specs.Under.{HasRecordRoom}
use Rattle.gone_edits.specs.Goes.{CanGo}
use Rattle.file_drops.specs.Exits.{HasExit}

-- The file is one that can go, and its entry can go out of the index of its directory; the flag of its record has a place in the stored
-- bitmap, and its block was written, as were those of the directory.
pub record MayDrop (view : VolumeView) (n dir : ℕ) : Type 0 where
  pub file : Node
  pub parent : Node
  pub name : FileName
  pub can : CanGo view n dir file parent name
  pub entry : HasExit view dir name.units
  pub record_bit : HasRecordRoom view n
  pub written : IsInitialized view dir
