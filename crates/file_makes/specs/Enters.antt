-- THE ENTRY OF A NEW NAME comes into the index of its directory: into a record of the index, or into the root of one without records.
-- Layout: Linux-NTFS documentation, attribute $FILE_NAME, "Index Entry", concept "B*Trees"; Carrier, File System Forensic Analysis, chapter
-- 13.
use Rattle.std.specs.Prelude.{◌≡◌, ◌⊎◌, ◌+◌, ◌||◌, ℕ, List, length, true}
use Rattle.vol_disk.specs.declared.Disk.{Ghosts}
use Rattle.vol_stage.specs.Staged.{StagesOnly}
use Rattle.ntfs_def.specs.FileName.{key_units, link_of}
use Rattle.ntfs_def.specs.KeyOrder.{name_order}
use Rattle.ntfs_def.specs.Node.{Item, item_in}
use Rattle.ntfs_def.specs.Record.{reference_in}
use Rattle.ntfs_def.specs.Rounded.{up_to_8}
use Rattle.volume_def.specs.CaseClause.{case_parts, volume_fold}
use Rattle.volume_def.specs.Readable.{IsFile}
use Rattle.volume_def.specs.Values.{value_on}
use Rattle.volume_def.specs.View.{VolumeView}
use Rattle.index_tree.specs.Edit.{IsAbsent}
use Rattle.mft_table.specs.declared.mft.Mft.{Mft}
use Rattle.mft_table.specs.Mft.{stage_of, view}
use Rattle.mft_table.specs.Staging.{record_places}
use Rattle.file_record.specs.declared.parts.FileParts.{FileParts}
use Rattle.file_record.specs.Held.{file_number}
use Rattle.file_record.specs.Written.{IsWholeFile}
use Rattle.tree_model.specs.LeafRoom.{has_leaf_room, names_of_directory}
use Rattle.tree_model.specs.RootRoom.{has_root_room}
use Rattle.edit_def.specs.Items.{HasItems}
use Rattle.edit_def.specs.Marks.{Marks}
use Rattle.made_edits.specs.Comes.{EntersIndex}
use Rattle.made_edits.specs.Held.{LacksKey}
use Rattle.made_edits.specs.RecordEditsBetween.{IsReady, MayBeEdited}
use Rattle.made_edits.specs.Replaced.{StagesRecords}
use Rattle.made_edits.specs.Standard.{IsInitialized}

-- the bytes of the entry of a key
abbrev pub entry_bytes : List ℕ → ℕ
entry_bytes key = up_to_8 (16 + length key)

-- THERE IS ROOM for an entry of so many bytes, of a name of these units: in the record of the index in which the search for the name ends,
-- or in the root of an index without records.
abbrev pub HasEntryRoom : VolumeView → ℕ → List ℕ → ℕ → Type 0
HasEntryRoom view dir units len = (has_leaf_room view dir units len || has_root_room view dir len) ≡ true

-- WHERE AN ENTRY MAY COME: the volume stands as between two calls, and the file may be edited; its records lie in what was written of the
-- table.
pub record IsReadyFor (view : VolumeView) (marks : Marks) (dir : ℕ) : Type 0 where
  pub ready : IsReady view marks
  pub is_file : IsFile view dir
  pub may : MayBeEdited dir
  pub written : IsInitialized view dir

-- This entry may come into the index of a directory that is held whole: it lacks the key, and has room for it.
pub record CanEnter (view : VolumeView) (marks : Marks) (file : FileParts) (table entry : List ℕ) : Type 0 where
  pub ready_for : IsReadyFor view marks (file_number file)
  pub lacks : LacksKey view file table (item_in entry).key
  pub whole : IsWholeFile view file
  pub room : HasEntryRoom view (file_number file) (key_units (item_in entry).key) (length entry)

-- AN ENTRY OF THIS KEY MAY COME into the index of a directory, under this table of case: none of its items has the key, and there is room.
pub record MayEnter (view : VolumeView) (marks : Marks) (dir : ℕ) (table key : List ℕ) : Type 0 where
  pub ready_for : IsReadyFor view marks dir
  pub items : List Item
  pub has : HasItems view dir items
  pub case : table ≡ value_on view (case_parts view)
  pub absent : IsAbsent (name_order (volume_fold view)) key items
  pub room : HasEntryRoom view dir (key_units key) (entry_bytes key)

-- THE ENTRY CAME, of this key and for the file of this reference.
pub record EntersName (old new : VolumeView) (dir file : ℕ) (key : List ℕ) : Type 0 where
  pub item : Item
  pub key_is : item.key ≡ key
  pub file_is : (link_of item).file ≡ reference_in file
  pub puts : EntersIndex old new dir item

-- The sectors of one record of the index are staged, at most, or those of the record of the directory.
abbrev pub StagesEntry : {D : Type 0} (g : Ghosts D) → ℕ → Mft D g → Mft D g → Type 0
StagesEntry g dir old new =
    StagesRecords g 1 (names_of_directory (view g old) dir).records old new
    ⊎ StagesOnly g (record_places (view g old).layout dir) (stage_of g old) (stage_of g new)
