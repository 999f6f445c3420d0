-- WHERE SECTORS ARE STAGED where a file is made under a name and its directory set, and how many.
use Rattle.std.specs.Prelude.{◌⊎◌, ◌+◌, ◌*◌, ◌<◌, ◌≤◌, ℕ, Contains, length}
use Rattle.vol_disk.specs.declared.Disk.{Ghosts}
use Rattle.ntfs_def.specs.declared.records.TheConstants.{FIRST_ORDINARY}
use Rattle.volume_def.specs.FileNames.{names_of}
use Rattle.volume_def.specs.Files.{records_of}
use Rattle.volume_def.specs.View.{VolumeView}
use Rattle.mft_table.specs.declared.mft.Mft.{Mft}
use Rattle.mft_table.specs.Mft.{view}
use Rattle.mft_table.specs.Staging.{record_places}
use Rattle.make_places.specs.HeldRecordBits.{IsOfRecordBits}
use Rattle.make_places.specs.MadeOwed.{made_sectors}
use Rattle.make_places.specs.Staged.{IsOfFile, IsOfIndex, IsOfNames, StagesFew}

-- the sector is one of a record of the table that an ordinary file may have, as the one that was free ..
abbrev pub IsOfOrdinaryRecord : VolumeView → ℕ → Type 0
IsOfOrdinaryRecord view sector =
    (n : ℕ) × (FIRST_ORDINARY ≤ n) × (n < view.layout.count) × Contains (record_places view.layout n) sector

-- .. or of the stored bitmap of records, of the index of the directory, of its own records, or of the directories in which it has names
abbrev pub IsOfMaking : VolumeView → ℕ → ℕ → Type 0
IsOfMaking view dir sector =
    IsOfRecordBits view sector
    ⊎ (IsOfOrdinaryRecord view sector
    ⊎ (IsOfIndex view dir sector ⊎ (IsOfFile view dir sector ⊎ IsOfNames view (names_of (records_of view) dir) sector)))

-- Of the volume before, at most those for the file are staged more, four of records of the directory, and twelve for each of its names.
abbrev pub StagesMaking : {D : Type 0} (g : Ghosts D) → ℕ → Mft D g → Mft D g → Type 0
StagesMaking g dir old new =
    StagesFew g (made_sectors + 4 + 12 * length (names_of (records_of (view g old)) dir)) (IsOfMaking (view g old) dir) old new
