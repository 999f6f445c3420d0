-- A FILE THAT CAN GO with the name under which it is found: its only one, a DOS name counted. All of its attributes are values, in its one
-- record, so no cluster goes with it. The entry of the name can go out of the index of its directory: of a record of the index that has
-- another one, or of a root that leads to no record. The directory has no name in a record that $MFTMirr copies, since its own entries tell
-- its times.
-- Source: Linux-NTFS documentation, attribute $FILE_NAME, concept "B*Trees"; Carrier, File System Forensic Analysis, chapters 11 and 13.
use Rattle.std.specs.Prelude.{ℕ, ◌==◌, ◌&&◌, ◌||◌, not, Bool, false, List, Option, is_some, length}
use Rattle.std.specs.List.{list_all}
use Rattle.std.specs.Option.{option_map_or}
use Rattle.volume_def.specs.FileNames.{names_of}
use Rattle.volume_def.specs.Files.{Part, content_value, parts, records_of}
use Rattle.volume_def.specs.View.{VolumeView}
use Rattle.tree_model.specs.LeafEntry.{has_leaf_entry}
use Rattle.tree_model.specs.RootEntry.{has_root_entry}
use Rattle.tree_model.specs.Tree.{Tree}
use Rattle.tree_model.specs.Ways.{has_copied_name, has_no_list}
use Rattle.tree_model.specs.declared.tree.Link.{Link}

abbrev pub has_values_alone : VolumeView → ℕ → Bool
has_values_alone view f = list_all (λ (part : Part). is_some (content_value part.content)) (parts (records_of view) f)

abbrev pub has_one_name : VolumeView → ℕ → Bool
has_one_name view f = length (names_of (records_of view) f) == 1

-- the file has no part that its going would leave behind
abbrev pub stands_alone : VolumeView → ℕ → Bool
stands_alone view f = has_no_list view f && (has_values_alone view f && has_one_name view f)

-- THE INDEX HAS AN ENTRY of the name that can go out.
abbrev pub has_exit : VolumeView → ℕ → List ℕ → Bool
has_exit view dir units = has_leaf_entry view dir units || has_root_entry view dir units

abbrev pub goes_under : VolumeView → Tree → Link → Bool
goes_under view tree link =
    not (has_copied_name tree link.parent) && (stands_alone view link.child && has_exit view link.parent link.name)

abbrev pub can_go : VolumeView → Tree → Option Link → Bool
can_go view tree link = option_map_or (goes_under view tree) link false
