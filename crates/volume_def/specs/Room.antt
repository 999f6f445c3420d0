-- What an image tells of room: what is free in it, and how long the attribute list of a file would be.
-- Layout: Linux-NTFS documentation, "File Record" and attribute $ATTRIBUTE_LIST; Carrier, File System Forensic Analysis, chapter 13.
use Rattle.std.specs.Prelude.{ℕ, ◌+◌, ◌-◌, ◌/◌, ◌==◌, max, List, count_by, fold, is_none, length, sum_by}
use Rattle.std.specs.List.{range_with_len}
use Rattle.ntfs_def.specs.Fixup.{opened_of}
use Rattle.ntfs_def.specs.Record.{used_size}
use Rattle.ntfs_def.specs.declared.lengths.TheConstants.{RECORD}
use Rattle.ntfs_def.specs.declared.records.TheConstants.{FIRST_ORDINARY}
use Rattle.volume_def.specs.Files.{Part, parts, record_on, records_of}
use Rattle.volume_def.specs.ListsClause.{listed_parts}
use Rattle.volume_def.specs.OwnersClause.{times_owned}
use Rattle.volume_def.specs.View.{VolumeView}
use Rattle.ntfs_def.specs.Rounded.{up_to_8}

-- clusters without an owner, and records from 24 on that are not in use
unfoldable pub unowned_clusters : VolumeView → ℕ
unowned_clusters view = count_by (λ cluster. times_owned (records_of view) cluster == 0) (range_with_len 0 view.layout.clusters)

unfoldable pub unused_records : VolumeView → ℕ
unused_records view =
    count_by (λ n. is_none (record_on view n)) (range_with_len FIRST_ORDINARY (view.layout.count - FIRST_ORDINARY))

-- the bytes of a record behind those in use
abbrev pub free_bytes : VolumeView → ℕ → ℕ
free_bytes view n = RECORD - used_size (opened_of (view.block n))

-- An entry of an attribute list, as this project writes it: 26 bytes and the name, up to a multiple of 8.
abbrev pub list_entry_len : Part → ℕ
list_entry_len part = up_to_8 (26 + length part.name)

-- The bytes of an attribute list that names all parts of a file, whether it has a list or not. A list does not name itself.
unfoldable pub list_len_of : VolumeView → ℕ → ℕ
list_len_of view f = sum_by list_entry_len (listed_parts (parts (records_of view) f))

-- the units of the longest attribute name among these
abbrev pub longest_name : List Part → ℕ
longest_name all = fold (λ longest part. max longest (length part.name / 2)) 0 all
