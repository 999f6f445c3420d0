-- AN EMPTY FILE, OR A DIRECTORY, COMES UNDER ONE NAME in a free record: what the calls of `create` and `mkdir` give, and on which volume.
-- Layout: Linux-NTFS documentation, attributes $STANDARD_INFORMATION, $FILE_NAME, $DATA and $INDEX_ROOT, "File Record"; Carrier, File
-- System Forensic Analysis, chapters 11 to 13.
use Rattle.std.specs.Prelude.{◌≡◌, ◌⊎◌, ℕ, ◌+◌, ◌*◌, ◌/◌, ◌≤◌, ◌<◌, All, Bool, IsTrue, List, [], ◌∷◌, codes, false, if◌then◌else◌, length}
use Rattle.std.specs.Prelude.{true}
use Rattle.vol_bytes.specs.Field.{u32_at, u64_at}
use Rattle.ntfs_def.specs.FileName.{is_name_key, link_of, name_in}
use Rattle.ntfs_def.specs.Node.{Item}
use Rattle.ntfs_def.specs.Record.{Reference}
use Rattle.ntfs_def.specs.Units.{wide}
use Rattle.ntfs_def.specs.declared.kinds.TheConstants.{DATA, FILE_NAME, INDEX_ROOT}
use Rattle.volume_def.specs.CaseClause.{volume_fold}
use Rattle.volume_def.specs.Freed.{sequence_at_first, stored_sequence}
use Rattle.volume_def.specs.Table.{cluster_bytes}
use Rattle.volume_def.specs.View.{VolumeView}
use Rattle.volume_edits.specs.Rewritten.{CountsLinks}
use Rattle.record_bytes.specs.AttributeBytes.{resident_bytes}
use Rattle.record_bytes.specs.Entries.{index_root, last_entry}
use Rattle.mft_table.specs.declared.mounted.Mounted.{Mounted}
use Rattle.mft_table.specs.Changes.{with_record_taken}
use Rattle.mft_table.specs.FreeRecords.{IsOrdinaryFree}
use Rattle.root_puts.specs.RecordCalls.{IsInOneRecord}
use Rattle.tree_model.specs.Reading.{directory_links}
use Rattle.tree_model.specs.Tree.{are_same}
use Rattle.tree_model.specs.declared.tree.Node.{Node}
use Rattle.root_puts.specs.FileRecordAttributes.{InsertsAttribute}
use Rattle.root_puts.specs.Extensions.{CreatesBase, reference_of}
use Rattle.in_place.specs.Unnamed.{CanSet}
use Rattle.record_bits.specs.StoredRecordBit.{StoresRecordBit}
use Rattle.root_puts.specs.PutsItem.{PutsItem}
use Rattle.root_puts.specs.PutsInRoot.{GrowsByItem}

-- THE VOLUME BEFORE, and a name that may come: in a directory that is shown, whose attributes can be set, and in which no name is the
-- same, in whichever case.
pub record CanMake (view : VolumeView) (dir : ℕ) (node : Node) (units : List ℕ) : Type 0 where
  pub told : IsTrue view.told
  pub parent : CanSet view dir node
  pub directory : node.dir ≡ true
  pub some : 1 ≤ length units
  pub few : length units ≤ 255
  pub units_are : All (λ unit. unit < 65536) units
  pub absent : All (λ other. are_same (volume_fold view) other.name units ≡ false) (directory_links view dir)

-- THE FLAGS OF THE NEW FILE, which may be a directory: its DOS flags, and those that its name tells, of a file these, of a directory that
-- it is one
abbrev pub first_flags : Bool → ℕ
first_flags directory = if directory then 0 else 0x20

abbrev pub name_flags : Bool → ℕ
name_flags directory = if directory then 0x10000000 else 0x20

-- THE VALUE OF A NEW NAME, which is the key of its entry too: in this directory, of these units, plain; four times this moment, no size,
-- the flags of a new file, and nothing behind its units.
pub record IsNewKey (view : VolumeView) (directory : Bool) (dir : ℕ) (units : List ℕ) (moment : ℕ) (key : List ℕ) : Type 0 where
  pub whole : IsTrue (is_name_key key)
  pub name : name_in key ≡ record { parent = reference_of view dir; namespace = 0; units = units }
  pub long : length key ≡ 0x42 + 2 * length units
  pub bytes : All (λ byte. byte < 256) key
  pub times : u64_at key 0x08 ∷ u64_at key 0x10 ∷ u64_at key 0x18 ∷ u64_at key 0x20 ∷ [] ≡ moment ∷ moment ∷ moment ∷ moment ∷ []
  pub allocated : u64_at key 0x28 ≡ 0
  pub real : u64_at key 0x30 ≡ 0
  pub flags : u32_at key 0x38 ≡ name_flags directory
  pub last : u32_at key 0x3C ≡ 0

-- AN ENTRY ENTERS THE INDEX OF A DIRECTORY: the root of the index; the directory has one record, which may be
-- edited ..
pub record EntersRoot (old new : VolumeView) (dir : ℕ) (item : Item) : Type 0 where
  pub grows : GrowsByItem old new dir item
  pub one : IsInOneRecord old dir

-- .. or a record of the index.
abbrev pub EntersIndex : VolumeView → VolumeView → ℕ → Item → Type 0
EntersIndex old new dir item = PutsItem old new dir item ⊎ EntersRoot old new dir item

-- the root of an empty index of names, on a volume with clusters of so many bytes, 4,096 at most
abbrev pub empty_root : ℕ → List ℕ
empty_root size = index_root FILE_NAME 1 (4096 / size) 0 last_entry

-- THE BODY of the new file: of a file its empty stream, of a directory the root of its index
abbrev pub body_kind : Bool → ℕ
body_kind directory = if directory then INDEX_ROOT else DATA

abbrev pub body_name : Bool → List ℕ
body_name directory = if directory then wide (codes "$I30") else []

abbrev pub body_value : Bool → ℕ → List ℕ
body_value directory size = if directory then empty_root size else []

abbrev pub body_bytes : Bool → ℕ → List ℕ
body_bytes directory size = resident_bytes (body_kind directory) (body_name directory) 1 (body_value directory size)

-- THE FILE COMES: the flag of its record is stored, and taken in memory; its base record comes, with its $STANDARD_INFORMATION; then its
-- body, its name in front of that, and the count of that name.
pub record ComesNamed (directory : Bool) (old new : VolumeView) (was now : Mounted) (n : ℕ) (standard key : List ℕ) : Type 0 where
  pub free : IsOrdinaryFree was.records n
  pub taken : now ≡ with_record_taken was n
  pub flagged : VolumeView
  pub stores : StoresRecordBit old flagged n
  pub based : VolumeView
  pub creates : CreatesBase flagged based n directory standard
  pub bodied : VolumeView
  pub body : InsertsAttribute based bodied n 1 (body_bytes directory (cluster_bytes old.layout))
  pub named : VolumeView
  pub name : InsertsAttribute bodied named n 1 (resident_bytes FILE_NAME [] 2 key)
  pub stored : List ℕ
  pub counts : CountsLinks named new n stored 1

-- the reference to a file that comes in record n
abbrev pub new_reference : VolumeView → ℕ → Reference
new_reference view n = record { number = n; sequence = sequence_at_first (stored_sequence (view.block n)) }

-- .. and its directory gets the entry of that name.
pub record ComesUnder (directory : Bool) (old new : VolumeView) (was now : Mounted) (n dir : ℕ) (standard key : List ℕ) : Type 0 where
  pub counted : VolumeView
  pub comes : ComesNamed directory old counted was now n standard key
  pub item : Item
  pub key_is : item.key ≡ key
  pub link : (link_of item).file ≡ new_reference old n
  pub puts : EntersIndex counted new dir item
