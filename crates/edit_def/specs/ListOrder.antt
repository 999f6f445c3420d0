-- A LIST STAYS IN ORDER: the attribute list of a file, while the file is edited.
use Rattle.std.specs.Prelude.{ℕ, List, filter}
use Rattle.ntfs_def.specs.AttributeList.{ListEntry, list_entries}
use Rattle.ntfs_def.specs.ListOrder.{AreInOrder}
use Rattle.volume_def.specs.CaseClause.{volume_fold}
use Rattle.volume_def.specs.Files.{parts, records_of}
use Rattle.volume_def.specs.ListsClause.{is_list}
use Rattle.volume_def.specs.Values.{value_on}
use Rattle.volume_def.specs.View.{VolumeView}

-- the entries of the list of file f; none where it has no list
abbrev pub entries_of : VolumeView → ℕ → List ListEntry
entries_of view f = list_entries (value_on view (filter is_list (parts (records_of view) f)))

-- A list that was in order is, and so is one that comes.
abbrev pub KeepsListOrder : VolumeView → VolumeView → ℕ → Type 0
KeepsListOrder old new f = AreInOrder (volume_fold old) (entries_of old f) → AreInOrder (volume_fold old) (entries_of new f)
