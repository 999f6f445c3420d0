-- AN ENTRY OF A NAME in the index of a directory that stands in a record of it: the search for the name ends there, and the record has
-- another entry with a key beside it, so it is not empty without that.
-- Layout: Linux-NTFS documentation, concept "B*Trees", "Index Header"; Carrier, File System Forensic Analysis, chapter 13.
use Rattle.std.specs.Prelude.{ℕ, ◌&&◌, nat_le, Bool, true, false, List, [], ◌∷◌, length}
use Rattle.std.specs.Option.{option_map_or}
use Rattle.std.specs.declared.cmp.Ordering.{Ordering}
use Rattle.std.specs.declared.cmp.Ordering.TheVariants.{Equal, Greater, Less}
use Rattle.ntfs_def.specs.Node.{Entry, short_node}
use Rattle.ntfs_def.specs.declared.index.NodeForm.TheVariants.{Names}
use Rattle.volume_def.specs.View.{VolumeView}
use Rattle.tree_model.specs.LeafRoom.{leaf_for, name_side, record_at}

-- `side x` says on which side of the key that is sought the key x stands.

-- whether a search ends with that key at an entry that stands on this side of it; `behind` says so of what stands behind the entry
abbrev pub hit_beside : Ordering → Bool → Bool
hit_beside Less behind = behind
hit_beside Equal behind = true
hit_beside Greater behind = false

-- whether the first entry that does not come before the key has it
abbrev pub hits_on : (List ℕ → Ordering) → List Entry → Bool
hits_on side [] = false
hits_on side (entry ∷ entries) = hit_beside (side entry.item.key) (hits_on side entries)

-- the node has it, and another entry with a key
abbrev pub has_entry_beside : (List ℕ → Ordering) → List ℕ → Bool
has_entry_beside side node =
    option_map_or (λ said. hits_on side said.entries && nat_le 2 (length said.entries)) (short_node Names node) false

-- THE INDEX HAS RECORDS, and the one in which the search for a name ends has an entry of it beside another one.
unfoldable pub has_leaf_entry : VolumeView → ℕ → List ℕ → Bool
has_leaf_entry view dir units =
    option_map_or (λ vcn. has_entry_beside (name_side view units) (record_at view dir vcn)) (leaf_for view dir units) false
