-- A volume in use: it was mounted, and its contents are those of the volume definition still.
use Rattle.std.specs.Prelude.{IsTrue}
use Rattle.vol_disk.specs.declared.Disk.{Ghosts}
use Rattle.volume_def.specs.Sound.{IsSound}
use Rattle.volume_def.specs.View.{VolumeView}
use Rattle.mft_table.specs.declared.mft.Mft.{Mft}
use Rattle.mft_table.specs.declared.mounted.Mounted.{Mounted}
use Rattle.mft_table.specs.HeldTables.{AreStored}
use Rattle.mft_table.specs.Mft.{mounted_of, view}

-- The volume meets all clauses, and the bits and the table of case that are kept of it are those that it stores.
pub record IsSoundVolume (view : VolumeView) (mounted : Mounted) : Type 0 where
  pub sound : IsSound view
  pub stored : AreStored view mounted.clusters mounted.records mounted.upcase

-- .. where the contents are told
abbrev pub IsInUse : {D : Type 0} (g : Ghosts D) → Mft D g → Type 0
IsInUse g mft = IsTrue (view g mft).told → IsSoundVolume (view g mft) (mounted_of g mft)
