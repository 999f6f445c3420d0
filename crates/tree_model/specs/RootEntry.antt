-- AN ENTRY OF A NAME in the root of the index of a directory, where that leads to no record: then the root is the leaf of every key. It can
-- go out where the directory has no attribute list, as one that comes in asks it too; a root may be left without an entry.
-- Layout: Linux-NTFS documentation, attribute $INDEX_ROOT, concept "B*Trees"; Carrier, File System Forensic Analysis, chapter 13.
use Rattle.std.specs.Prelude.{ℕ, ◌&&◌, not, Bool, false, List}
use Rattle.std.specs.Option.{option_map_or}
use Rattle.ntfs_def.specs.Node.{Node}
use Rattle.volume_def.specs.View.{VolumeView}
use Rattle.tree_model.specs.IndexRoom.{directory_index, root_of}
use Rattle.tree_model.specs.LeafRoom.{name_side}
use Rattle.tree_model.specs.RootRoom.{has_list, is_root_leaf}
use Rattle.tree_model.specs.LeafEntry.{hits_on}

-- the root has an entry of the name
abbrev pub is_in_root : VolumeView → ℕ → List ℕ → Bool
is_in_root view dir units =
    option_map_or (λ (said : Node). hits_on (name_side view units) said.entries) (root_of view (directory_index dir)) false

-- THE INDEX HAS NO RECORDS, the directory no attribute list, and the root an entry of the name.
unfoldable pub has_root_entry : VolumeView → ℕ → List ℕ → Bool
has_root_entry view dir units = is_root_leaf view dir && not (has_list view dir) && is_in_root view dir units
