-- ROOM FOR AN ENTRY in the root of the index of a directory, where that leads to no record: then the root is the leaf of every key. An
-- index is said to be without records so, though it may have some that are free.
-- Layout: Linux-NTFS documentation, attribute $INDEX_ROOT, concept "B*Trees"; Carrier, File System Forensic Analysis, chapter 13.
use Rattle.std.specs.Prelude.{ℕ, ◌&&◌, nat_le, not, Bool, false, is_some}
use Rattle.std.specs.List.{list_any}
use Rattle.std.specs.Option.{option_map_or}
use Rattle.ntfs_def.specs.Node.{Node}
use Rattle.volume_def.specs.Files.{Part, parts, records_of}
use Rattle.volume_def.specs.ListsClause.{is_list}
use Rattle.volume_def.specs.Room.{free_bytes}
use Rattle.volume_def.specs.Values.{first_part}
use Rattle.volume_def.specs.View.{VolumeView}
use Rattle.tree_model.specs.IndexRoom.{directory_index, root_of}
use Rattle.tree_model.specs.LeafRoom.{names_of_directory}

-- a root that leads to no record
abbrev pub is_root_leaf : VolumeView → ℕ → Bool
is_root_leaf view dir = option_map_or (λ (said : Node). not (is_some said.last)) (root_of view (directory_index dir)) false

abbrev pub has_list : VolumeView → ℕ → Bool
has_list view f = list_any is_list (parts (records_of view) f)

-- so many bytes are free in the record that holds the root
abbrev pub is_free_beside_root : VolumeView → ℕ → ℕ → Bool
is_free_beside_root view dir len =
    option_map_or (λ (part : Part). nat_le len (free_bytes view part.holder)) (first_part (names_of_directory view dir).root) false

-- THE ROOM: the root has no children, the directory has no attribute list, and the record that holds the root has so many bytes.
unfoldable pub has_root_room : VolumeView → ℕ → ℕ → Bool
has_root_room view dir len = is_root_leaf view dir && not (has_list view dir) && is_free_beside_root view dir len
