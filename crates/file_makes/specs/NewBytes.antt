-- THE BYTES OF A NEW FILE: the value of its $FILE_NAME, and the entry of its directory.
-- Layout: Linux-NTFS documentation, attribute $FILE_NAME, "Index Entry"; Carrier, File System Forensic Analysis, chapter 13.
use Rattle.std.specs.Prelude.{◌≡◌, ℕ, ◌+◌, ◌*◌, ◌<◌, All, Bool, IsTrue, List, [], ◌∷◌, false, length}
use Rattle.vol_bytes.specs.Field.{u32_at, u64_at}
use Rattle.ntfs_def.specs.FileName.{is_name_key, name_in}
use Rattle.ntfs_def.specs.Node.{item_in}
use Rattle.ntfs_def.specs.Record.{reference_in}
use Rattle.ntfs_def.specs.Rounded.{up_to_8}
use Rattle.ntfs_def.specs.declared.index.NodeForm.TheVariants.{Names}
use Rattle.index_node.specs.Edit.{IsShortEntry}
use Rattle.made_edits.specs.Comes.{name_flags}

-- THE VALUE OF A NEW NAME, of a file or of a directory: in the directory of this reference, of these units, plain; four times this moment,
-- no size, the flags of a new file, and nothing behind its units.
pub record IsPlainKey (directory : Bool) (parent : ℕ) (units : List ℕ) (moment : ℕ) (key : List ℕ) : Type 0 where
  pub whole : IsTrue (is_name_key key)
  pub name : name_in key ≡ record { parent = reference_in parent; namespace = 0; units = units }
  pub long : length key ≡ 0x42 + 2 * length units
  pub bytes : All (λ byte. byte < 256) key
  pub times : u64_at key 0x08 ∷ u64_at key 0x10 ∷ u64_at key 0x18 ∷ u64_at key 0x20 ∷ [] ≡ moment ∷ moment ∷ moment ∷ moment ∷ []
  pub allocated : u64_at key 0x28 ≡ 0
  pub real : u64_at key 0x30 ≡ 0
  pub flags : u32_at key 0x38 ≡ name_flags directory
  pub last : u32_at key 0x3C ≡ 0

-- THE ENTRY of this key, which leads to no child, for the file of this reference.
pub record IsPlainEntry (file : ℕ) (key entry : List ℕ) : Type 0 where
  pub short : IsShortEntry Names false entry
  pub long : length entry ≡ up_to_8 (16 + length key)
  pub key_is : (item_in entry).key ≡ key
  pub file_is : u64_at (item_in entry).head 0 ≡ file
