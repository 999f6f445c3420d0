-- An index as room is asked of it: how deep it is, and where in it an entry stands.
-- Layout: Linux-NTFS documentation, concept "B*Trees", attributes $INDEX_ROOT and $INDEX_ALLOCATION, files $ObjId and $Reparse;
-- Carrier, File System Forensic Analysis, chapters 12 and 13.
use Rattle.std.specs.Prelude.{ℕ, zero, suc, ◌+◌, ◌*◌, ◌^◌, ◌==◌, ◌&&◌, nat_le, Bool, List, [], ◌∷◌, ◌++◌, codes, filter_map}
use Rattle.std.specs.Prelude.{find, flat_map, length, Option, Some, None, is_some, option_and_then, if◌then◌else◌}
use Rattle.std.specs.List.{list_any, range_with_len}
use Rattle.std.specs.Option.{option_map_or, option_to_list}
use Rattle.std.specs.Str.{bytes_eq}
use Rattle.vol_bytes.specs.Field.{u32_at, u64_at}
use Rattle.ntfs_def.specs.IndexTree.{Nodes, most_depth}
use Rattle.ntfs_def.specs.Node.{Item, Node, short_node}
use Rattle.ntfs_def.specs.Units.{wide}
use Rattle.ntfs_def.specs.declared.index.NodeForm.{NodeForm}
use Rattle.ntfs_def.specs.declared.index.NodeForm.TheVariants.{Names, View}
use Rattle.ntfs_def.specs.declared.records.TheConstants.{FIRST_ORDINARY}
use Rattle.volume_def.specs.FileNames.{names_of}
use Rattle.volume_def.specs.Files.{content_value, record_on, records_of}
use Rattle.volume_def.specs.IndexesClause.{index_nodes, index_parts, is_in_extend}
use Rattle.volume_def.specs.ListsClause.{sequence_in}
use Rattle.volume_def.specs.Values.{first_part}
use Rattle.volume_def.specs.View.{VolumeView}

-- An index: the file that holds it, what its entries are, and its name in bytes.
pub record Index : Type 0 where
  pub file : ℕ
  pub form : NodeForm
  pub name : List ℕ

abbrev pub directory_index : ℕ → Index
directory_index dir = record { file = dir; form = Names; name = wide (codes "$I30") }

-- its root node, `None` where it has none
abbrev pub root_of : VolumeView → Index → Option Node
root_of view index =
    option_and_then (λ part. option_and_then (short_node index.form) (content_value part.content))
    (first_part (index_parts view index.file index.name).root)

-- its other nodes by their numbers
abbrev pub other_nodes : VolumeView → Index → Nodes
other_nodes view index = index_nodes index.form view (index_parts view index.file index.name)

-- The depth: the nodes on the way from the root to a leaf, both counted. All leaves have one depth, so the way goes by the last
-- child of each node. It has at most so many nodes below the root.
abbrev pub levels_below : ℕ → Nodes → Option ℕ → ℕ
levels_below zero nodes child = 0
levels_below (suc most) nodes None = 0
levels_below (suc most) nodes (Some vcn) = suc (levels_below most nodes (option_and_then (λ node. node.last) (nodes vcn)))

unfoldable pub index_depth : VolumeView → Index → ℕ
index_depth view index = option_map_or (λ root. suc (levels_below most_depth (other_nodes view index) root.last)) (root_of view index) 0

-- a node, and those below it in at most so many levels
abbrev pub children_in : Node → List ℕ
children_in node = filter_map (λ entry. entry.child) node.entries ++ option_to_list node.last

abbrev pub nodes_under : ℕ → Nodes → Node → List Node
nodes_under zero nodes node = node ∷ []
nodes_under (suc levels) nodes node =
    node ∷ flat_map (λ vcn. option_map_or (nodes_under levels nodes) (nodes vcn) []) (children_in node)

-- all nodes of an index, the root first
unfoldable pub all_nodes : VolumeView → Index → List Node
all_nodes view index = option_map_or (nodes_under most_depth (other_nodes view index)) (root_of view index) []

-- such an entry stands in the node, in the index, and in a node of it with children
abbrev pub holds_entry : (Item → Bool) → Node → Bool
holds_entry test node = list_any (λ entry. test entry.item) node.entries

abbrev pub has_entry : VolumeView → Index → (Item → Bool) → Bool
has_entry view index test = list_any (holds_entry test) (all_nodes view index)

abbrev pub has_inner_entry : VolumeView → Index → (Item → Bool) → Bool
has_inner_entry view index test = list_any (λ node. is_some node.last && holds_entry test node) (all_nodes view index)

-- The view indexes of $Extend: $R of the file $Reparse, by reparse points, and $O of the file $ObjId, by object ids. Each may be
-- missing, and so may its file.
abbrev pub extend_file : VolumeView → List ℕ → Option ℕ
extend_file view units =
    find (λ f. nat_le FIRST_ORDINARY f && list_any (is_in_extend units) (names_of (records_of view) f))
    (range_with_len 0 view.layout.count)

abbrev pub if_there : VolumeView → Index → Option Index
if_there view index = if is_some (root_of view index) then Some index else None

abbrev pub extend_index : VolumeView → List ℕ → List ℕ → Option Index
extend_index view units name =
    option_and_then (λ f. if_there view (record { file = f; form = View; name = wide name })) (extend_file view units)

abbrev pub point_index : VolumeView → Option Index
point_index view = extend_index view (codes "$Reparse") (codes "$R")

abbrev pub object_id_index : VolumeView → Option Index
object_id_index view = extend_index view (codes "$ObjId") (codes "$O")

-- A key of $R has 0x00 the tag of a point and 0x04 the reference of its file. A key of $O is the object id.
abbrev pub file_reference : VolumeView → ℕ → ℕ
file_reference view f = sequence_in (record_on view f) * 2 ^ 48 + f

abbrev pub is_point_item : VolumeView → ℕ → ℕ → Item → Bool
is_point_item view f tag item = (length item.key == 12) && (u32_at item.key 0 == tag) && (u64_at item.key 4 == file_reference view f)

abbrev pub is_object_id_item : List ℕ → Item → Bool
is_object_id_item id item = bytes_eq item.key id
