-- The tree that a volume reads as: by a scan of its records and the clusters of their values alone; no index is looked at.
-- Layout: Linux-NTFS documentation, attributes $STANDARD_INFORMATION, $FILE_NAME, $DATA, $REPARSE_POINT and $OBJECT_ID; Carrier,
-- File System Forensic Analysis, chapters 11 to 13.
use Rattle.std.specs.Prelude.{ℕ, ◌-◌, ◌==◌, ◌&&◌, ◌||◌, not, Bool, List, [], ◌++◌, bit_and, codes}
use Rattle.std.specs.Prelude.{filter, find}
use Rattle.std.specs.Prelude.{false, length, map, replicate, Option, Some, None, option_and_then, option_map, unwrap_or}
use Rattle.std.specs.Prelude.{if◌then◌else◌}
use Rattle.std.specs.FinMap as finmap
use Rattle.std.specs.List.{filter_map, range_with_len}
use Rattle.std.specs.Option.{option_map_or}
use Rattle.std.specs.Ordering.{is_gt, nat_cmp, ordering_then}
use Rattle.ntfs_def.specs.FileName as names
use Rattle.ntfs_def.specs.Flags.{is_packed}
use Rattle.ntfs_def.specs.KeyOrder.{compare_units}
use Rattle.ntfs_def.specs.Units.{units_in, wide}
use Rattle.ntfs_def.specs.declared.kinds.TheConstants.{ATTRIBUTE_LIST, BITMAP, DATA, FILE_NAME, INDEX_ALLOCATION, INDEX_ROOT}
use Rattle.ntfs_def.specs.declared.kinds.TheConstants.{REPARSE_POINT, STANDARD_INFORMATION}
use Rattle.ntfs_def.specs.declared.records.TheConstants.{ROOT}
use Rattle.volume_def.specs.Values.{first_part}
use Rattle.volume_def.specs.CaseClause.{volume_fold}
use Rattle.volume_def.specs.FileNames.{links, names_of}
use Rattle.volume_def.specs.Files.{Part, Record, content_value, is_base, is_directory, is_of, parts, parts_like, record_on, records_of}
use Rattle.volume_def.specs.StreamSize.{told_size}
use Rattle.volume_def.specs.Values.{is_first, value_on}
use Rattle.volume_def.specs.View.{VolumeView}
use Rattle.tree_model.specs.Hidden.{is_hidden}
use Rattle.list_laws.specs.Ordered.{in_order}
use Rattle.tree_model.specs.Streams.{stream_above}
use Rattle.tree_model.specs.Tree.{Tree, is_in, link_above}
use Rattle.tree_model.specs.declared.tree.Content.{Content}
use Rattle.tree_model.specs.declared.tree.Content.TheVariants.{Packed, Plain}
use Rattle.tree_model.specs.declared.tree.Link.{Link}
use Rattle.tree_model.specs.declared.tree.Node.{Node}
use Rattle.tree_model.specs.declared.tree.Point.{Point}
use Rattle.tree_model.specs.declared.tree.RawAttr.{RawAttr}
use Rattle.tree_model.specs.declared.tree.Stream.{Stream}
use Rattle.tree_model.specs.declared.tree.TheConstants.{SHOWN_FLAGS}
use Rattle.ntfs_def.specs.StandardInformation.{dos_flags, standard_security, standard_times}
use Rattle.ntfs_def.specs.ReparsePoint.{reparse_data, reparse_tag}

-- What an attribute holds, by its parts: its real size alone where the first of them is packed.
abbrev pub is_packed_part : Part → Bool
is_packed_part part = is_packed part.kind part.flags

abbrev pub shown_content : VolumeView → List Part → Content
shown_content view extents =
    if option_map_or is_packed_part (first_part extents) false then Packed (told_size (first_part extents))
    else Plain (value_on view extents)

-- the attribute that this part is of, among all parts of its file
abbrev pub content_at : VolumeView → List Part → Part → Content
content_at view all part = shown_content view (parts_like part all)

-- The streams: the $DATA attributes, in name order.
abbrev pub begins_stream : Part → Bool
begins_stream part = (part.kind == DATA) && is_first part

abbrev pub stream_at : VolumeView → List Part → Part → Stream
stream_at view all part = record { name = units_in part.name; content = content_at view all part }

unfoldable pub streams_of : VolumeView → List Part → List Stream
streams_of view all = in_order (stream_above (volume_fold view)) (map (stream_at view all) (filter begins_stream all))

-- the value of $STANDARD_INFORMATION, and the DOS flags that are shown of it
abbrev pub standard_of : List Part → List ℕ
standard_of all = unwrap_or (option_and_then (λ part. content_value part.content) (find (is_of STANDARD_INFORMATION []) all)) []

abbrev pub standard_flags : List ℕ → ℕ
standard_flags standard = bit_and (dos_flags standard) SHOWN_FLAGS

-- The reparse point, the unnamed $REPARSE_POINT. A value below 8 bytes is read as padded with zeros.
abbrev pub padded : List ℕ → List ℕ
padded value = value ++ replicate (8 - length value) 0

abbrev pub point_in : List ℕ → Point
point_in value = record { tag = reparse_tag value; bytes = reparse_data value }

abbrev pub point_by : Content → Point
point_by (Plain value) = point_in (padded value)
point_by (Packed size) = record { tag = 0; bytes = [] }

unfoldable pub point_of : VolumeView → List Part → Option Point
point_of view all =
    option_map (λ part. point_by (content_at view all part)) (find (is_of REPARSE_POINT []) all)

-- All other attributes, by type and name: those of types that nothing above shows, and what is no part of the directory's index.
abbrev pub is_of_index : Part → Bool
is_of_index part =
    is_of INDEX_ROOT (wide (codes "$I30")) part || is_of INDEX_ALLOCATION (wide (codes "$I30")) part
    || is_of BITMAP (wide (codes "$I30")) part

abbrev pub is_told_elsewhere : Part → Bool
is_told_elsewhere part =
    (part.kind == STANDARD_INFORMATION) || (part.kind == ATTRIBUTE_LIST) || (part.kind == FILE_NAME) || (part.kind == DATA)
    || is_of REPARSE_POINT [] part || is_of_index part

abbrev pub begins_other : Part → Bool
begins_other part = is_first part && not (is_told_elsewhere part)

abbrev pub other_at : VolumeView → List Part → Part → RawAttr
other_at view all part = record { kind = part.kind; name = units_in part.name; value = content_at view all part }

abbrev pub other_above : (ℕ → ℕ) → RawAttr → RawAttr → Bool
other_above fold x y = is_gt (ordering_then (nat_cmp x.kind y.kind) (compare_units fold x.name y.name))

unfoldable pub others_of : VolumeView → List Part → List RawAttr
others_of view all = in_order (other_above (volume_fold view)) (map (other_at view all) (filter begins_other all))

-- A file, by its base record and all its parts.
unfoldable pub node_by : VolumeView → Record → List Part → Node
node_by view base all = record {
  dir = is_directory base;
  times = standard_times (standard_of all);
  flags = standard_flags (standard_of all);
  security = standard_security (standard_of all);
  streams = streams_of view all;
  point = point_of view all;
  others = others_of view all;
}

-- A base record in use that is not hidden is a node.
abbrev pub node_on : VolumeView → ℕ → Record → Option Node
node_on view f r =
    if is_base r && not (is_hidden (records_of view) f) then Some (node_by view r (parts (records_of view) f)) else None

unfoldable pub node_at : VolumeView → ℕ → Option Node
node_at view f = option_and_then (node_on view f) (record_on view f)

unfoldable pub tree_nodes : VolumeView → finmap.FinMap nat_cmp Node
tree_nodes view =
    finmap.from_entries (filter_map (λ f. option_map (λ node. (f, node)) (node_at view f)) (range_with_len 0 view.layout.count))

-- The names of all files as links. One to a hidden file is hidden, and so is every link to the root.
abbrev pub link_for : ℕ → names.FileName → Link
link_for file name = record { parent = name.parent.number; name = name.units; space = name.namespace; child = file }

abbrev pub link_by : names.Link → Link
link_by link = link_for link.file.number link.name

-- the names of one file as links
abbrev pub links_to : VolumeView → ℕ → List Link
links_to view file = map (link_for file) (names_of (records_of view) file)

abbrev pub is_hidden_link : VolumeView → Link → Bool
is_hidden_link view link = (link.child == ROOT) || is_hidden (records_of view) link.child

unfoldable pub all_links : VolumeView → List Link
all_links view = map link_by (links (records_of view))

-- the links of one directory, in order, hidden ones too
unfoldable pub directory_links : VolumeView → ℕ → List Link
directory_links view dir = in_order (link_above (volume_fold view)) (filter (is_in dir) (all_links view))

-- such links of a volume, in order
abbrev pub links_that : VolumeView → (Link → Bool) → List Link
links_that view test = in_order (link_above (volume_fold view)) (filter test (all_links view))

-- THE READING of a volume.
unfoldable pub read : VolumeView → Tree
read view = record {
  fold = volume_fold view;
  nodes = tree_nodes view;
  links = links_that view (λ link. not (is_hidden_link view link));
  hidden = links_that view (is_hidden_link view);
}
