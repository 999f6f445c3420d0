-- What the root nodes of a new volume's indexes say, byte for byte.
use Rattle.std.proofs.Common.{◌≡◌, [], ◌++◌, Some, refl}
use Rattle.std.specs.Prelude.{false}
use Rattle.ntfs_def.specs.declared.index.NodeForm.TheVariants.{Names, View}
use Rattle.ntfs_def.specs.Node.{are_short, child_at, is_entry, is_last_entry, item_at, node_header, scan_node, short_node}
use Rattle.index_node.specs.LayOut.{node_listed}
use Rattle.volume_format.specs.Plan.{Plan, descriptor_hash, descriptor_header, descriptor_id, extend_entries, root_value}
use Rattle.record_bytes.specs.Entries.{last_above, last_entry, view_entry}
use Rattle.volume_format.specs.RootIndex.{root_entries}
use Rattle.volume_format.specs.IndexItems.{extend_items, hash_items, id_items, root_items}
use Rattle.volume_format.proofs.Leaves.{above, leaf}

-- the root: its $INDEX_ROOT, and what its index record is laid out from
pub root-says : (p : Plan) → short_node Names (root_value p 0x30 1 1 last_above) ≡ Some above
unfolding scan_node node_header is_entry is_last_entry item_at child_at are_short
root-says p = refl

pub root-record : node_listed false root_entries ≡ leaf root_items
unfolding item_at child_at
root-record = refl

pub extend-says : (p : Plan) → short_node Names (root_value p 0x30 1 0 extend_entries) ≡ Some (leaf extend_items)
unfolding scan_node node_header is_entry is_last_entry item_at child_at are_short
extend-says p = refl

pub ids-say : (p : Plan)
    → short_node View (root_value p 0 0x10 0 (view_entry descriptor_id descriptor_header ++ last_entry)) ≡ Some (leaf id_items)
unfolding scan_node node_header is_entry is_last_entry item_at child_at are_short
ids-say p = refl

pub hashes-say : (p : Plan)
    → short_node View (root_value p 0 0x12 0 (view_entry (descriptor_hash ++ descriptor_id) descriptor_header ++ last_entry))
    ≡ Some (leaf hash_items)
unfolding scan_node node_header is_entry is_last_entry item_at child_at are_short
hashes-say p = refl

-- an empty index by words
pub words-say : (p : Plan) → short_node View (root_value p 0 0x13 0 last_entry) ≡ Some (leaf [])
unfolding scan_node node_header is_entry is_last_entry item_at child_at are_short
words-say p = refl
