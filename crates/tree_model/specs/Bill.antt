-- THE BILL of each command: which files it touches, which entries of indexes count, and how many clusters it may come to own. All
-- is read from the image before the command. What is on it is this project's choice.
use Rattle.std.specs.Prelude.{ℕ, ◌+◌, ◌==◌, ◌&&◌, ◌||◌, not, nat_lt, max, Bool, true, false, List, [], ◌∷◌, ◌++◌, codes}
use Rattle.std.specs.Prelude.{filter, length, map, Option, Some, None, is_some, option_and_then, option_map, if◌then◌else◌}
use Rattle.std.specs.List.{list_any, range_with_len}
use Rattle.std.specs.Option.{option_map_or, option_to_list}
use Rattle.ntfs_def.specs.FileName.{link_of}
use Rattle.ntfs_def.specs.Node.{Item}
use Rattle.volume_def.specs.Files.{Part, parts, records_of}
use Rattle.volume_def.specs.Table.{cluster_bytes}
use Rattle.volume_def.specs.View.{VolumeView}
use Rattle.tree_model.specs.Answers.{object_id}
use Rattle.tree_model.specs.Cases.{makes_stream, size_of}
use Rattle.tree_model.specs.Drops.{goes_with, is_last_link, is_link}
use Rattle.tree_model.specs.IndexRoom.{Index, directory_index, has_entry, has_inner_entry, index_depth, is_object_id_item}
use Rattle.tree_model.specs.IndexRoom.{is_point_item, object_id_index, point_index}
use Rattle.tree_model.specs.Need.{Bill, Counted, Touched}
use Rattle.ntfs_def.specs.Rounded.{clusters_for}
use Rattle.tree_model.specs.Reading.{link_by, standard_of}
use Rattle.volume_def.specs.Room.{list_len_of, longest_name}
use Rattle.tree_model.specs.StreamRoom.{is_in_place, new_clusters, stream_parts, stream_value}
use Rattle.tree_model.specs.Subjects.{Located, NameIn, NewName}
use Rattle.tree_model.specs.Tree.{Tree, is_in}
use Rattle.tree_model.specs.declared.command.Command.{Command}
use Rattle.tree_model.specs.declared.command.Command.TheVariants as c
use Rattle.tree_model.specs.declared.tree.Content.{Content}
use Rattle.tree_model.specs.declared.tree.Link.{Link}

-- WHAT A COMMAND DOES TO INDEXES.

-- An index, the entries that the command adds to it, and those that it drops from it.
pub record Change : Type 0 where
  pub index : Index
  pub added : ℕ
  pub dropped : List (Item → Bool)

-- The dropped ones count where one of them stands in a node with children.
abbrev pub counted_drops : VolumeView → Change → ℕ
counted_drops view change =
    if list_any (has_inner_entry view change.index) change.dropped then length change.dropped else 0

abbrev pub counted_in : VolumeView → Change → Counted
counted_in view change = record {
  file = change.index.file;
  depth = index_depth view change.index;
  entries = change.added + counted_drops view change;
}

-- Directories: the new name's, and that of the links that go.
abbrev pub links_with : Tree → Link → List Link
links_with tree link = filter (goes_with tree link) tree.links

abbrev pub dropped_links : Tree → Command → Located → List Link
dropped_links tree (c.Rm path) at = option_map_or (links_with tree) at.link []
dropped_links tree (c.Rmdir path) at = option_map_or (links_with tree) at.link []
dropped_links tree (c.Mv old new) at = option_map_or (links_with tree) at.link []
dropped_links tree other at = []

abbrev pub new_names_in : ℕ → NewName → ℕ
new_names_in dir (NameIn parent name) = if parent == dir then 1 else 0
new_names_in dir other = 0

-- the entry of a link in its directory
abbrev pub is_entry_of : Link → Item → Bool
is_entry_of link item = is_link link (link_by (link_of item))

abbrev pub directory_change : Tree → Command → Located → ℕ → Change
directory_change tree command at dir = record {
  index = directory_index dir;
  added = new_names_in dir at.new;
  dropped = map is_entry_of (filter (is_in dir) (dropped_links tree command at));
}

-- The file goes: with its last name that is no DOS name.
abbrev pub removes_file : Tree → Command → Located → Bool
removes_file tree (c.Rm path) at = is_last_link tree at.link
removes_file tree (c.Rmdir path) at = is_last_link tree at.link
removes_file tree other at = false

-- $R: the key of a point goes with its file, and where the point is taken away or gets another tag. A point has its key.
abbrev pub tag_of : Located → Option ℕ
tag_of at = option_map (λ point. point.tag) (option_and_then (λ node. node.point) at.node)

abbrev pub tags_dropped : Tree → Command → Located → List ℕ
tags_dropped tree (c.Mkreparse path tag bytes) at = filter (λ old. not (old == tag)) (option_to_list (tag_of at))
tags_dropped tree (c.Rmreparse path) at = option_to_list (tag_of at)
tags_dropped tree other at = if removes_file tree other at then option_to_list (tag_of at) else []

abbrev pub tags_added : Command → List ℕ
tags_added (c.Mkreparse path tag bytes) = tag ∷ []
tags_added other = []

abbrev pub point_change : VolumeView → Tree → Command → Located → Index → Change
point_change view tree command at index = record {
  index = index;
  added = length (filter (λ tag. not (has_entry view index (is_point_item view at.file tag))) (tags_added command));
  dropped = map (is_point_item view at.file) (tags_dropped tree command at);
}

-- $O: the key of an object id goes with its file.
abbrev pub ids_dropped : Tree → Command → Located → List (List ℕ)
ids_dropped tree command at =
    if removes_file tree command at then filter (λ id. length id == 16) (map object_id (option_to_list at.node)) else []

abbrev pub object_id_change : Tree → Command → Located → Index → Change
object_id_change tree command at index = record { index = index; added = 0; dropped = map is_object_id_item (ids_dropped tree command at) }

-- ALL CHANGES of indexes: of directories by number, of $R and of $O.
unfoldable pub changes_of : VolumeView → Tree → Command → Located → List Change
changes_of view tree command at =
    map (directory_change tree command at) (range_with_len 0 view.layout.count)
    ++ map (point_change view tree command at) (option_to_list (point_index view))
    ++ map (object_id_change tree command at) (option_to_list (object_id_index view))

-- THE COUNTED ENTRIES, an index each.
unfoldable pub counted_of : VolumeView → Tree → Command → Located → List Counted
counted_of view tree command at =
    filter (λ counted. nat_lt 0 counted.entries) (map (counted_in view) (changes_of view tree command at))

-- THE CLUSTERS that a stream, or a reparse point, may come to own.

-- A stream grows by `truncate` where it is shorter, or missing.
abbrev pub grows : ℕ → Option Content → Bool
grows size None = true
grows size (Some content) = nat_lt (size_of content) size

-- A reparse point has 8 bytes before its data.
unfoldable pub clusters_of : ℕ → VolumeView → Tree → Command → Located → ℕ
clusters_of size view tree (c.Write path stream from bytes) at = new_clusters size (stream_parts view tree at) from (length bytes)
clusters_of size view tree (c.Hwrite handle from bytes) at = new_clusters size (stream_parts view tree at) from (length bytes)
clusters_of size view tree (c.Truncate path stream end) at =
    if grows end at.content then new_clusters size (stream_parts view tree at) 0 0 else 0
clusters_of size view tree (c.Mkreparse path tag bytes) at = clusters_for (length bytes + 8) size
clusters_of size view tree other at = 0

-- THE TOUCHED FILES: the file itself by these commands, each that holds an index with counted entries, and a new one.

-- $STANDARD_INFORMATION has no place for the id of a security descriptor below 72 bytes, and is lengthened then
abbrev pub has_short_standard : VolumeView → ℕ → Bool
has_short_standard view f = nat_lt (length (standard_of (parts (records_of view) f))) 72

unfoldable pub touches_file : ℕ → VolumeView → Tree → Command → Located → Bool
touches_file size view tree (c.Ln old new) at = true
touches_file size view tree (c.Mv old new) at = true
touches_file size view tree (c.Write path stream from bytes) at =
    not (is_in_place size (stream_parts view tree at) from (length bytes))
touches_file size view tree (c.Hwrite handle from bytes) at = not (is_in_place size (stream_parts view tree at) from (length bytes))
touches_file size view tree (c.Truncate path stream end) at = grows end at.content
touches_file size view tree (c.Punch path stream from len) at = not (is_some (stream_value (stream_parts view tree at)))
touches_file size view tree (c.Setsec path id) at = has_short_standard view at.file
touches_file size view tree (c.Mkreparse path tag bytes) at = true
touches_file size view tree other at = false

-- the units of the name of a stream that the command makes
abbrev pub new_name_units : Command → Located → ℕ
new_name_units command at = if makes_stream command && not (is_some at.content) then length at.stream else 0

abbrev pub touched_file : VolumeView → Command → Located → ℕ → Touched
touched_file view command at f = record {
  file = Some f;
  list_len = list_len_of view f;
  name_units = max (longest_name (parts (records_of view) f)) (new_name_units command at);
}

-- a new file has three attributes; of these the index of a directory has a name
abbrev pub new_file : ℕ → Touched
new_file name_units = record { file = None; list_len = 96; name_units = name_units }

abbrev pub new_files : Command → List Touched
new_files (c.Create path) = new_file 0 ∷ []
new_files (c.Mkdir path) = new_file (length (codes "$I30")) ∷ []
new_files other = []

abbrev pub is_touched : Bool → ℕ → List Counted → ℕ → Bool
is_touched itself file counted f = (itself && (f == file)) || list_any (λ index. index.file == f) counted

-- by their numbers
abbrev pub touched_files : ℕ → VolumeView → Tree → Command → Located → List Counted → List ℕ
touched_files size view tree command at counted =
    filter (is_touched (touches_file size view tree command at) at.file counted) (range_with_len 0 view.layout.count)

-- THE BILL.
abbrev pub bill_with : ℕ → VolumeView → Tree → Command → Located → List Counted → Bill
bill_with size view tree command at counted = record {
  new_files = length (new_files command);
  clusters = clusters_of size view tree command at;
  touched = map (touched_file view command at) (touched_files size view tree command at counted) ++ new_files command;
  counted = counted;
}

unfoldable pub bill_of : VolumeView → Tree → Command → Located → Bill
bill_of view tree command at = bill_with (cluster_bytes view.layout) view tree command at (counted_of view tree command at)
