-- A VALUE THAT CAN MOVE INTO CLUSTERS, by its name and the number of its file: the file can be edited and has no attribute list, the value
-- does not stay in its record, and can leave that for a run of as many clusters as its bytes then need. Where the bits of clusters lie is
-- not asked here.
-- Layout: Linux-NTFS documentation, "Attribute Headers" and concept "Data Runs"; Carrier, File System Forensic Analysis, chapter 13.
use Rattle.std.specs.Prelude.{◌+◌, ◌==◌, ◌&&◌, ℕ, nat_le, not, Bool, false, List, length}
use Rattle.std.specs.Option.{option_map_or}
use Rattle.ntfs_def.specs.Attribute.{Attribute, value_of}
use Rattle.ntfs_def.specs.Rounded.{clusters_for}
use Rattle.volume_def.specs.Table.{cluster_bytes}
use Rattle.volume_def.specs.View.{VolumeView}
use Rattle.tree_model.specs.StreamRoom.{new_clusters, stream_value_len}
use Rattle.tree_model.specs.Ways.{has_run_if_room}
use Rattle.tree_edit.specs.Alone.{can_move, can_move_to, parts_there}
use Rattle.tree_edit.specs.Writable.{IsFoundToEdit}
use Rattle.tree_edit.specs.declared.writable.Writable.{Writable}

-- by bytes that go over those of the value, or right behind them, ..
abbrev pub can_move_there : VolumeView → List ℕ → ℕ → ℕ → ℕ → Bool
can_move_there view name from len file =
    nat_le from (stream_value_len (parts_there view name file))
    && can_move view name (from + len) (new_clusters (cluster_bytes view.layout) (parts_there view name file) from len) file

-- THE STREAM THAT WAS FOUND is such a value.
abbrev pub IsMovable : VolumeView → Writable → List ℕ → ℕ → ℕ → Type 0
IsMovable view found name from len = IsFoundToEdit view found name (λ file. can_move_there view name from len file)

abbrev pub IsMovableTo : VolumeView → Writable → List ℕ → ℕ → Type 0
IsMovableTo view found name size = IsFoundToEdit view found name (λ file. can_move_to view name size file)

-- BY ITS ATTRIBUTE, beside which so many bytes are free: it is a value that has the bytes of an extent of one run in its place, ..
abbrev pub fits_as_extent_by : Attribute → ℕ → Bool
fits_as_extent_by attribute free =
    option_map_or (λ (value : List ℕ). nat_le (72 + length attribute.name) (length value + free)) (value_of attribute.body) false

-- .. has no flags, and some clusters, as many as so many bytes need, are free one behind the other.
abbrev pub can_leave_by : VolumeView → ℕ → Attribute → ℕ → ℕ → ℕ → Bool
can_leave_by view cluster attribute free size count =
    not (count == 0)
    && ((clusters_for size cluster == count)
    && ((attribute.flags == 0) && (fits_as_extent_by attribute free && has_run_if_room view count)))
