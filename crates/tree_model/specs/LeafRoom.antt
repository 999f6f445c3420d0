-- ROOM FOR A NAME in the index of a directory: in the record of it in which the search for the name ends.
-- Layout: Linux-NTFS documentation, concept "B*Trees", "Index Header"; Carrier, File System Forensic Analysis, chapter 13.
use Rattle.std.specs.Prelude.{ℕ, zero, suc, ◌-◌, nat_le, Bool, false, List, [], ◌∷◌, codes, length, Option, Some, None}
use Rattle.std.specs.Option.{option_and_then, option_map_or}
use Rattle.std.specs.declared.cmp.Ordering.{Ordering}
use Rattle.std.specs.declared.cmp.Ordering.TheVariants.{Equal, Greater, Less}
use Rattle.ntfs_def.specs.FileName.{key_units}
use Rattle.ntfs_def.specs.Fixup.{opened_of}
use Rattle.ntfs_def.specs.IndexTree.{Nodes, most_depth}
use Rattle.ntfs_def.specs.KeyOrder.{compare_units}
use Rattle.ntfs_def.specs.Node.{Entry, Node, entry_place, first_entry, room_end, short_node}
use Rattle.ntfs_def.specs.Units.{wide}
use Rattle.ntfs_def.specs.declared.index.NodeForm.TheVariants.{Names}
use Rattle.volume_def.specs.CaseClause.{volume_fold}
use Rattle.volume_def.specs.IndexesClause.{IndexParts, index_parts, stored_index_record}
use Rattle.volume_def.specs.View.{VolumeView}
use Rattle.tree_model.specs.IndexRoom.{directory_index, other_nodes, root_of}

-- THE LEAF. `side x` says on which side of the key that is sought the key x stands.

-- which child is met first at an entry that stands on this side of a key; `behind` is met behind the entry
abbrev pub child_beside : Ordering → Option ℕ → Option ℕ → Option ℕ
child_beside Less here behind = behind
child_beside Equal here behind = here
child_beside Greater here behind = here

-- what the first entry leads to that does not come before a key, and behind all the last one
abbrev pub child_on : (List ℕ → Ordering) → List Entry → Option ℕ → Option ℕ
child_on side [] last = last
child_on side (entry ∷ entries) last = child_beside (side entry.item.key) entry.child (child_on side entries last)

-- the record in which the search ends, from this one on, at most so many levels down
unfoldable pub leaf_under : (List ℕ → Ordering) → Nodes → ℕ → ℕ → Option ℕ
leaf_under side nodes zero vcn = None
leaf_under side nodes (suc levels) vcn =
    option_and_then (λ said. option_map_or (leaf_under side nodes levels) (child_on side said.entries said.last) (Some vcn)) (nodes vcn)

-- the same from the root on; `None` where the root has no children
abbrev pub leaf_of : (List ℕ → Ordering) → Nodes → Option Node → Option ℕ
leaf_of side nodes root =
    option_and_then (leaf_under side nodes most_depth) (option_and_then (λ said. child_on side said.entries said.last) root)

-- THE ROOM.

-- the bytes of a node behind its last entry
abbrev pub node_room : List ℕ → Node → ℕ
node_room node said = room_end node - entry_place node (first_entry node) (suc (length said.entries))

abbrev pub has_room : ℕ → List ℕ → Bool
has_room len node = option_map_or (λ said. nat_le len (node_room node said)) (short_node Names node) false

-- In the index of a directory.

abbrev pub names_of_directory : VolumeView → ℕ → IndexParts
names_of_directory view dir = index_parts view dir (wide (codes "$I30"))

-- the index record at a number, opened
abbrev pub record_at : VolumeView → ℕ → ℕ → List ℕ
record_at view dir vcn = opened_of (stored_index_record view (names_of_directory view dir) vcn)

-- on which side of a name a key stands
abbrev pub name_side : VolumeView → List ℕ → List ℕ → Ordering
name_side view units key = compare_units (volume_fold view) (key_units key) units

abbrev pub leaf_for : VolumeView → ℕ → List ℕ → Option ℕ
leaf_for view dir units =
    leaf_of (name_side view units) (other_nodes view (directory_index dir)) (root_of view (directory_index dir))

-- THE INDEX HAS RECORDS, and that one has so many bytes behind its last entry.
unfoldable pub has_leaf_room : VolumeView → ℕ → List ℕ → ℕ → Bool
has_leaf_room view dir units len = option_map_or (λ vcn. has_room len (record_at view dir vcn)) (leaf_for view dir units) false
