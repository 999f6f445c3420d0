-- WHAT ELSE STAYS where the file in record n went, which had one name, in directory `dir`: streams gain no cluster, names their values,
-- indexes their headers, records and bits, and the keys of $R and $O are those that were there.
use Rattle.std.specs.Prelude.{◌≡◌, ◌≢◌, ℕ, List, [], ◌∷◌, None, false, true}
use Rattle.std.specs.Str.{bytes_eq}
use Rattle.list_laws.specs.Replaces.{Replaces}
use Rattle.ntfs_def.specs.FileName.{FileName, link_of}
use Rattle.ntfs_def.specs.Node.{Item}
use Rattle.ntfs_def.specs.declared.kinds.TheConstants.{INDEX_ALLOCATION}
use Rattle.volume_def.specs.Files.{parts, parts_at, records_of}
use Rattle.volume_def.specs.Freed.{stored_sequence}
use Rattle.volume_def.specs.Values.{spot_at}
use Rattle.volume_def.specs.View.{VolumeView}
use Rattle.tree_model.specs.Bill.{Change}
use Rattle.tree_model.specs.IndexRoom.{Index, directory_index, object_id_index, point_index}
use Rattle.tree_model.specs.StreamRoom.{is_cluster}
use Rattle.tree_model.specs.declared.tree.Link.{Link}
use Rattle.edit_def.specs.Items.{HasItems}
use Rattle.edit_def.specs.Kept.{key_of}
use Rattle.command_edits.specs.Calls.{link_with}
use Rattle.session_def.specs.Indexes.{KeepsIndexIfThere}
use Rattle.session_def.specs.Kept.{KeepsKeys, KeepsNamesBut}
use Rattle.made_edits.specs.Left.{is_entry_key}

-- THE DIRECTORY HAS ONE ITEM LESS: that of the file under its name.
pub record HasLostItem (old new : VolumeView) (n dir : ℕ) (called : FileName) : Type 0 where
  pub item : Item
  pub link : link_of item ≡ link_with n (stored_sequence (old.block n)) called
  pub items : (was now : List Item) → HasItems old dir was → HasItems new dir now → Replaces was now (item ∷ []) []

pub record KeepsRest (old new : VolumeView) (n dir : ℕ) (called : FileName) : Type 0 where
  pub layout : new.layout ≡ old.layout
  pub none : parts (records_of new) n ≡ []
  -- streams: what lies in a cluster lay there
  pub spots : (f kind : ℕ) (name : List ℕ) (vcn : ℕ) → is_cluster (spot_at (parts_at new f kind name) vcn) ≡ true
      → spot_at (parts_at new f kind name) vcn ≡ spot_at (parts_at old f kind name) vcn
  -- names of other files
  pub names : (gone : List Link) (f : ℕ) → f ≢ n → KeepsNamesBut gone old new f
  -- indexes: of directories, and all others
  pub directories : (changes : List Change) (g : ℕ) → KeepsIndexIfThere old new changes (directory_index g)
  pub indexes : (changes : List Change) (index : Index) → bytes_eq [] index.name ≡ false
      → is_entry_key dir (key_of index.file INDEX_ALLOCATION index.name) ≡ false → KeepsIndexIfThere old new changes index
  pub entry : HasLostItem old new n dir called
  pub points : KeepsKeys old (point_index old) new (point_index new) [] None
  pub object_ids : KeepsKeys old (object_id_index old) new (object_id_index new) [] None
