-- An entry of a directory that tells anew what it repeats of its file.
-- Layout: Linux-NTFS documentation, attribute $FILE_NAME; Carrier, File System Forensic Analysis, chapter 13.
use Rattle.std.specs.Prelude.{◌≡◌, ◌⊎◌, ◌<◌, ◌≤◌, ◌*◌, ◌/◌, ◌++◌, ◌∷◌, [], ℕ, Bool, true, false, List, Option, None, Some}
use Rattle.std.specs.Prelude.{All, Contains, IfSome, IsSomeAnd, IsTrue, bit_and, bit_or, length, map, slice_index, take}
use Rattle.std.specs.List.{flat_map}
use Rattle.vol_bytes.specs.Field.{u16_at, u32_at, u64_at}
use Rattle.vol_disk.specs.declared.Disk.{Ghosts}
use Rattle.vol_stage.specs.Staged.{StagesOnly}
use Rattle.ntfs_def.specs.FileName.{is_name_key, link_of}
use Rattle.ntfs_def.specs.KeyOrder.{fold_of, name_order}
use Rattle.ntfs_def.specs.Node.{Item, item_in}
use Rattle.ntfs_def.specs.declared.index.NodeForm.TheVariants.{Names}
use Rattle.volume_def.specs.Coverage.{IsApart}
use Rattle.volume_def.specs.Files.{Part, content_value}
use Rattle.volume_def.specs.IndexesClause.{IsDirectoryIndex}
use Rattle.volume_def.specs.Values.{spot_at}
use Rattle.volume_def.specs.View.{VolumeView}
use Rattle.index_store.specs.Owners.{HasOwners}
use Rattle.index_store.specs.Clusters.{ChangesStream, record_sectors}
use Rattle.index_node.specs.Edit.{IsShortEntry, item_len}
use Rattle.tree_model.specs.Reading.{directory_links}
use Rattle.tree_model.specs.declared.tree.Link.{Link}
use Rattle.index_store.specs.MftType.{Mft}
use Rattle.index_store.specs.Mft.{stage_of, view}
use Rattle.index_store.specs.Staging.{record_places}
use Rattle.index_store.specs.FileParts.{FileParts}
use Rattle.index_store.specs.Held.{file_number}
use Rattle.index_store.specs.Records.{IsRecordOf}
use Rattle.index_store.specs.FileRecordWritten.{IsWholeFile, WritesBytes}
use Rattle.index_store.specs.IndexRecords.{index_record_on}
use Rattle.dir_index.specs.declared.entry.DuplicatedInformation.{DuplicatedInformation}
use Rattle.dir_index.specs.Held.{IsHeldDirectory, IsReadableDirectory}
use Rattle.dir_index.specs.Links.{IsHeldIndex, names_index}
use Rattle.dir_index.specs.Replaced.{ReplacesItem}
use Rattle.dir_index.specs.Standard.{IsInitialized, hidden_flags}

-- THE KEY TELLS THIS of its file, and all else of it is as it was: 0x08 the four times, 0x28 the allocated and 0x30 the real size of the
-- unnamed stream, 0x38 the DOS flags, those that are not shown as they were.
pub record TellsFile (told : DuplicatedInformation) (was now : List ℕ) : Type 0 where
  pub long : length now ≡ length was
  pub times_are : u64_at now 0x08 ∷ u64_at now 0x10 ∷ u64_at now 0x18 ∷ u64_at now 0x20 ∷ [] ≡ told.times
  pub allocated_is : u64_at now 0x28 ≡ told.allocated
  pub real_is : u64_at now 0x30 ≡ told.real
  pub flags_are : u32_at now 0x38 ≡ bit_or (bit_and (u32_at was 0x38) hidden_flags) told.flags
  pub others : (k : ℕ) → (k < 0x08) ⊎ (0x3C ≤ k) → slice_index now k ≡ slice_index was k

-- The item is of the same name of the same file, as long, and its key tells this.
pub record RefreshesItem (told : DuplicatedInformation) (was now : Item) : Type 0 where
  pub link : link_of now ≡ link_of was
  pub long : item_len now ≡ item_len was
  pub key : TellsFile told was.key now.key

-- AN ENTRY WAS REFRESHED: that of the index $I30 of the directory whose name has these units. It was put in the place of the one of
-- before, in a record of the index or in the value of its root, of which the fields in front of the node stayed.
pub record RefreshesEntry (old new : VolumeView) (dir : ℕ) (units : List ℕ) (told : DuplicatedInformation) : Type 0 where
  pub table : List ℕ
  pub root : List ℕ
  pub root' : List ℕ
  pub held : IsHeldIndex old dir table root (index_record_on old (names_index old dir))
  pub was : Item
  pub now : Item
  pub units_are : (link_of was).name.units ≡ units
  pub at : (has : IsDirectoryIndex old dir) → Contains has.items was
  pub refreshes : RefreshesItem told was now
  pub mid : VolumeView
  pub replaces : ReplacesItem (name_order (fold_of table)) is_name_key old mid (names_index old dir) root root' now
  pub changes : ChangesStream old mid (spot_at (names_index old dir).records)
  pub head : take 16 root' ≡ take 16 root
  pub long : length root' ≡ length root
  pub writes : ((new ≡ mid) × (root' ≡ root))
      ⊎ ((part : Part) × Contains (names_index old dir).root part × WritesBytes mid new part 0 root')

-- THE CONDITION: the directory can be read, and of a volume whose clusters lie apart and have one owner at most its records lie in what
-- was written of the table.
pub record CanRefresh (view : VolumeView) (dir : ℕ) (table : List ℕ) : Type 0 where
  pub directory : IsReadableDirectory view dir table
  pub owners : HasOwners view
  pub apart : IsApart view.layout
  pub initialized : IsInitialized view dir

-- a link of the directory has exactly these units
abbrev pub HasUnits : VolumeView → ℕ → List ℕ → Type 0
HasUnits view dir units = (link : Link) × Contains (directory_links view dir) link × (link.name ≡ units)

-- The sectors of one record of the index at most are staged, and those of one record of the directory with its copy, and no others.
pub record StagesEntry {D : Type 0} (g : Ghosts D) (dir : ℕ) (old new : Mft D g) : Type 0 where
  pub vcns : List ℕ
  pub few : length vcns ≤ 1
  pub holders : List ℕ
  pub one : length holders ≤ 1
  pub own : IsTrue (view g old).told → All (IsRecordOf (view g old) dir) holders
  pub places : IsTrue (view g old).told → StagesOnly g
      (flat_map (record_sectors (view g old).layout (spot_at (names_index (view g old) dir).records)) vcns
      ++ flat_map (record_places (view g old).layout) holders) (stage_of g old) (stage_of g new)

-- In the steps of the call.

-- This item of a directory has the units, and is no longer than one may be.
pub record IsItemOf (items : List Item) (units : List ℕ) (item : Item) : Type 0 where
  pub among : Contains items item
  pub units_are : (link_of item).name.units ≡ units
  pub key : IsTrue (is_name_key item.key)
  pub short : item_len item ≤ 632

-- the bytes of the entry of exactly these units; none where no link has them
abbrev pub FoundExactly : VolumeView → ℕ → List ℕ → Option (List ℕ) → Type 0
FoundExactly view dir units None = ¬ (HasUnits view dir units)
FoundExactly view dir units (Some entry) = (has : IsDirectoryIndex view dir) → IsItemOf has.items units (item_in entry)

-- Bytes that were those of an entry before its child's number are one without a child.
pub record StandsAlone (old new : List ℕ) : Type 0 where
  pub len : length new ≡ length old
  pub size : u16_at new 0x08 ≡ length old
  pub key : u16_at new 0x0A ≡ u16_at old 0x0A
  pub flags : u16_at new 0x0C ≡ u16_at old 0x0C / 2 * 2
  pub front : (k : ℕ) → k < 0x08 → slice_index new k ≡ slice_index old k
  pub rest : (k : ℕ) → 0x10 ≤ k → slice_index new k ≡ slice_index old k

-- The bytes are an entry without a child, whose key is a name, and which refreshes this item.
pub record IsFreshEntry (told : DuplicatedInformation) (was : Item) (entry : List ℕ) : Type 0 where
  pub short : IsShortEntry Names false entry
  pub named : IsTrue (is_name_key (item_in entry).key)
  pub refreshes : RefreshesItem told was (item_in entry)

-- The root of an index was written, where it is another: a part of the file that is one of these.
abbrev pub WritesRoot : VolumeView → VolumeView → List Part → List ℕ → List ℕ → Type 0
WritesRoot old new parts was now =
    ((new ≡ old) × (now ≡ was)) ⊎ ((part : Part) × Contains parts part × WritesBytes old new part 0 now)

-- AN ITEM CAME IN THE PLACE of the one with an equal key in the index of a directory under this table of case: in the records, and in
-- what is the value of its root now.
pub record ReplacesRoot (old mid : VolumeView) (dir : ℕ) (table : List ℕ) (item : Item) (root' : List ℕ) : Type 0 where
  pub root : List ℕ
  pub is_root : map (λ part. content_value part.content) (names_index old dir).root ≡ Some root ∷ []
  pub replaces : ReplacesItem (name_order (fold_of table)) is_name_key old mid (names_index old dir) root root' item
  pub changes : ChangesStream old mid (spot_at (names_index old dir).records)
  pub head : take 16 root' ≡ take 16 root
  pub long : length root' ≡ length root

-- a directory that is told has an index, and so a root
abbrev pub GivesRoot : VolumeView → VolumeView → ℕ → List ℕ → Item → Option (List ℕ) → Type 0
GivesRoot old mid dir table item None = ⊥
GivesRoot old mid dir table item (Some root') = ReplacesRoot old mid dir table item root'

-- .. and the root was written.
pub record PutsEntry (old new : VolumeView) (dir : ℕ) (table : List ℕ) (item : Item) : Type 0 where
  pub mid : VolumeView
  pub root' : List ℕ
  pub index : ReplacesRoot old mid dir table item root'
  pub writes : WritesRoot mid new (names_index old dir).root index.root root'

-- The directory is held whole, as the call asks for.
pub record IsHeldWhole (view : VolumeView) (file : FileParts) (table : List ℕ) : Type 0 where
  pub directory : IsHeldDirectory view file table
  pub whole : IsWholeFile view file
  pub owners : HasOwners view
  pub apart : IsApart view.layout
  pub initialized : IsInitialized view (file_number file)

-- The value of a part is as long as these bytes, and is another where this says so; else it is no value as long, or has these bytes.
abbrev pub IsOtherValue : List ℕ → Bool → Part → Type 0
IsOtherValue bytes true part = IsSomeAnd (content_value part.content) (λ value. length bytes ≡ length value)
IsOtherValue bytes false part = IfSome (content_value part.content) (λ value. length bytes ≡ length value → value ≡ bytes)
