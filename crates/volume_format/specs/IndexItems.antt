-- The items of a new volume's indexes.
use Rattle.std.specs.Prelude.{ℕ, List, [], ◌∷◌, ◌++◌, length, map}
use Rattle.ntfs_def.specs.Node.{Item}
use Rattle.volume_format.specs.Plan.{descriptor_hash, descriptor_header, descriptor_id, name_value}
use Rattle.record_bytes.specs.AttributeBytes.{fill_to_8}
use Rattle.record_bytes.specs.Entries.{reference_bytes, two_bytes, four_bytes}
use Rattle.volume_format.specs.RootIndex.{SystemName, extend_names, root_names}

-- a directory's entry of a name
abbrev pub name_item : ℕ → ℕ → List ℕ → Item
name_item number sequence name = record { head = reference_bytes number sequence; key = name; rest = fill_to_8 (length name) }

-- the item of a name in the root
abbrev pub root_item : SystemName → Item
root_item name = name_item name.number name.sequence (name_value 5 name.directory name.letters)

abbrev pub root_items : List Item
root_items = map root_item root_names

-- the item of a name in $Extend
abbrev pub extend_item : SystemName → Item
extend_item name = name_item name.number name.sequence (name_value 11 name.directory name.letters)

abbrev pub extend_items : List Item
extend_items = map extend_item extend_names

-- The only security descriptor, by its id, and by its hash and its id. In front stands where the data is, and how long it is.
abbrev pub id_items : List Item
id_items = record {
  head = two_bytes 20 ++ two_bytes 20 ++ four_bytes 0;
  key = descriptor_id;
  rest = descriptor_header;
} ∷ []

abbrev pub hash_items : List Item
hash_items = record {
  head = two_bytes 24 ++ two_bytes 20 ++ four_bytes 0;
  key = descriptor_hash ++ descriptor_id;
  rest = descriptor_header ++ fill_to_8 28;
} ∷ []
