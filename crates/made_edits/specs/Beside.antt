-- WHAT ELSE STAYS where a file came in record n under a name of directory `dir`: streams gain no cluster, names their values, indexes their
-- headers, records and bits, and the keys of $R and $O are those that were there.
use Rattle.std.specs.Prelude.{◌≡◌, ◌≢◌, ℕ, Bool, List, [], ◌∷◌, None, IsSomeAnd, false, if◌then◌else◌, length, slice_index, true}
use Rattle.std.specs.Str.{bytes_eq}
use Rattle.volume_def.specs.Files.{Value, parts, parts_at, record_on, records_of}
use Rattle.volume_def.specs.Table.{cluster_bytes}
use Rattle.volume_def.specs.Values.{spot_at}
use Rattle.volume_def.specs.View.{VolumeView}
use Rattle.ntfs_def.specs.declared.kinds.TheConstants.{FILE_NAME, INDEX_ALLOCATION}
use Rattle.ntfs_def.specs.StandardInformation.{dos_flags}
use Rattle.record_bytes.specs.AttributeBytes.{part}
use Rattle.list_laws.specs.Replaces.{Replaces}
use Rattle.ntfs_def.specs.FileName.{link_of, name_in}
use Rattle.ntfs_def.specs.Node.{Item}
use Rattle.volume_def.specs.Freed.{sequence_at_first, stored_sequence}
use Rattle.edit_def.specs.Items.{HasItems, IsCurrent}
use Rattle.root_puts.specs.Calls.{link_with}
use Rattle.tree_model.specs.Bill.{Change}
use Rattle.tree_model.specs.IndexRoom.{Index, directory_index, object_id_index, point_index}
use Rattle.tree_model.specs.StreamRoom.{is_cluster}
use Rattle.tree_model.specs.declared.tree.Link.{Link}
use Rattle.edit_def.specs.Kept.{key_of, told_by, told_names}
use Rattle.in_place.specs.Indexes.{KeepsIndexIfThere}
use Rattle.in_place.specs.Kept.{KeepsKeys, KeepsNamesBut, is_shown_byte}
use Rattle.in_place.specs.Nodes.{IsNewFile, IsNewName}
use Rattle.made_edits.specs.Comes.{first_flags}
use Rattle.made_edits.specs.Between.{new_parts}
use Rattle.made_edits.specs.Left.{is_entry_key}

-- THE DIRECTORY HAS ONE ITEM MORE: its key is the value of the name, it leads to the new file, and it tells what the file does.
pub record HasNewItem (old new : VolumeView) (n dir : ℕ) (key : List ℕ) : Type 0 where
  pub item : Item
  pub key_is : item.key ≡ key
  pub link : link_of item ≡ link_with n (sequence_at_first (stored_sequence (old.block n))) (name_in key)
  pub current : IsCurrent new n item.key
  pub items : (was now : List Item) → HasItems old dir was → HasItems new dir now → Replaces was now [] (item ∷ [])

pub record KeepsRest (directory : Bool) (old new : VolumeView) (n dir : ℕ) (standard key : List ℕ) : Type 0 where
  pub layout : new.layout ≡ old.layout
  -- the new file: its record is a file's, or a directory's, counted once, and these are its parts
  pub base : IsSomeAnd (record_on new n) (λ r. (r.header.flags ≡ (if directory then 3 else 1)) × (r.header.links ≡ 1))
  pub own : parts (records_of new) n ≡ new_parts directory (cluster_bytes old.layout) n standard key
  pub none : parts (records_of old) n ≡ []
  -- streams: what lies in a cluster lay there
  pub spots : (f kind : ℕ) (name : List ℕ) (vcn : ℕ) → is_cluster (spot_at (parts_at new f kind name) vcn) ≡ true
      → spot_at (parts_at new f kind name) vcn ≡ spot_at (parts_at old f kind name) vcn
  -- names of other files
  pub names : (gone : List Link) (f : ℕ) → f ≢ n → KeepsNamesBut gone old new f
  -- indexes: of directories, and all others
  pub directories : (changes : List Change) (g : ℕ) → KeepsIndexIfThere old new changes (directory_index g)
  pub indexes : (changes : List Change) (index : Index) → bytes_eq [] index.name ≡ false
      → is_entry_key dir (key_of index.file INDEX_ALLOCATION index.name) ≡ false → KeepsIndexIfThere old new changes index
  pub entry : HasNewItem old new n dir key
  pub points : KeepsKeys old (point_index old) new (point_index new) [] None
  pub object_ids : KeepsKeys old (object_id_index old) new (object_id_index new) [] None

-- THE VALUE OF ITS $STANDARD_INFORMATION has no flag but that of a new file, a directory none, and zeros where the tree shows nothing.
pub record IsPlainStandard (directory : Bool) (standard : List ℕ) : Type 0 where
  pub long : length standard ≡ 72
  pub flags : dos_flags standard ≡ first_flags directory
  pub zeros : (k : ℕ) → is_shown_byte 72 k ≡ false → slice_index standard k ≡ 0

-- Then the file is a new one as it is to be, and its name too.
pub record IsFreshFile (directory : Bool) (view : VolumeView) (n : ℕ) (key : List ℕ) : Type 0 where
  pub file : IsNewFile view directory n
  pub name : IsNewName directory key
  pub told : told_names view n ≡ told_by (part n FILE_NAME [] 2 (Value key)) ∷ []
