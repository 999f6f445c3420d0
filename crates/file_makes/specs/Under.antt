-- THE NAME OF A NEW FILE in its directory, and the whole of it: a file made under one name.
-- Layout: Linux-NTFS documentation, attribute $FILE_NAME, "Index Entry"; Carrier, File System Forensic Analysis, chapter 13.
use Rattle.std.specs.Prelude.{◌≡◌, ◌⊎◌, ◌+◌, ◌*◌, ◌≤◌, ℕ, Bool, Contains, List, length, true}
use Rattle.std.specs.List.{flat_map}
use Rattle.vol_disk.specs.declared.Disk.{Ghosts}
use Rattle.vol_stage.specs.Staged.{places}
use Rattle.volume_def.specs.Values.{spot_at}
use Rattle.volume_def.specs.View.{VolumeView}
use Rattle.volume_edits.specs.Clusters.{record_sectors}
use Rattle.mft_table.specs.declared.mft.Mft.{Mft}
use Rattle.mft_table.specs.Mft.{stage_of}
use Rattle.mft_table.specs.Staging.{record_places}
use Rattle.tree_model.specs.declared.tree.Node.{Node}
use Rattle.tree_model.specs.LeafRoom.{names_of_directory}
use Rattle.tree_model.specs.Ways.{has_name_room, has_record_bit}
use Rattle.made_edits.specs.Standard.{IsInitialized}
use Rattle.made_edits.specs.HeldRecordBits.{IsOfRecordBits}
use Rattle.made_edits.specs.Comes.{CanMake, IsNewKey}

-- A record whose flag has a place in the stored bitmap, and whose block lies in what was written of the table.
pub record HasRecordRoom (view : VolumeView) (n : ℕ) : Type 0 where
  pub flag : has_record_bit view n ≡ true
  pub block : 1024 * n + 1024 ≤ view.layout.initialized

-- The directory has room for the entry of a new name, in a record of its index or in a root without records.
abbrev pub HasNameRoom : VolumeView → ℕ → List ℕ → Type 0
HasNameRoom view dir units = has_name_room view dir units ≡ true

-- THE VOLUME BEFORE, and the value of a name, of a file or of a directory, that may come into this directory, with room for its entry. The
-- records of that directory lie in what was written of the table.
pub record MayMake (directory : Bool) (view : VolumeView) (dir : ℕ) (key : List ℕ) : Type 0 where
  pub node : Node
  pub units : List ℕ
  pub can : CanMake view dir node units
  pub moment : ℕ
  pub new_key : IsNewKey view directory dir units moment key
  pub room : HasNameRoom view dir units
  pub written : IsInitialized view dir

-- Of the sectors that are staged now each was so before, or is of the stored bitmap of records, of the record, or of what holds the entry:
-- one record of the index of the directory, or the record of the directory itself. They are one, two, and eight or two of these.
pub record StagesMade {D : Type 0} (g : Ghosts D) (view : VolumeView) (n dir : ℕ) (old new : Mft D g) : Type 0 where
  pub vcns : List ℕ
  pub few : length vcns ≤ 1
  pub count : length (places g (stage_of g new)) ≤ length (places g (stage_of g old)) + 11
  pub places : (sector : ℕ) → Contains (places g (stage_of g new)) sector → Contains (places g (stage_of g old)) sector
      ⊎ (IsOfRecordBits view sector ⊎ (Contains (record_places view.layout n) sector
      ⊎ (Contains (flat_map (record_sectors view.layout (spot_at (names_of_directory view dir).records)) vcns) sector
      ⊎ Contains (record_places view.layout dir) sector)))
