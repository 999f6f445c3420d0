-- The file of security descriptors, and the entries of its index of ids.
use Rattle.std.specs.Prelude.{Bool, true, false, ◌≡◌, ℕ, List, [], codes, Contains, Option, Some, None}
use Rattle.vol_bytes.specs.Field.{u32_at}
use Rattle.ntfs_def.specs.Node.{item_in}
use Rattle.ntfs_def.specs.Units.{wide}
use Rattle.ntfs_def.specs.declared.records.TheConstants.{SECURE}
use Rattle.volume_def.specs.Files.{parts_at}
use Rattle.volume_def.specs.IndexesClause.{IsViewIndex, MeetsViewIndex, id_rule, index_parts}
use Rattle.volume_def.specs.Readable.{IsFile, IsReadableVolume}
use Rattle.volume_def.specs.View.{VolumeView}
use Rattle.tree_model.specs.Facts.{HasDescriptor}
use Rattle.file_record.specs.declared.parts.FileParts.{FileParts}
use Rattle.file_record.specs.Held.{IsHeldFile, file_number}

-- THE CONDITION: the volume's files can be read, the index of ids is right where it is there, and where there is no such file none of
-- its parts are there.
pub record IsReadableSecurity (view : VolumeView) : Type 0 where
  pub readable : IsReadableVolume view
  pub ids : MeetsViewIndex view SECURE (codes "$SII") id_rule
  pub own : ¬ (IsFile view SECURE) → (kind : ℕ) (name : List ℕ) → parts_at view SECURE kind name ≡ []

-- The same of the file that is held.
pub record IsHeldSecurity (view : VolumeView) (file : FileParts) : Type 0 where
  pub held : IsHeldFile view file
  pub number : file_number file ≡ SECURE
  pub ids : MeetsViewIndex view SECURE (codes "$SII") id_rule

-- The index of ids has this entry for an id.
pub record IsEntryOf (view : VolumeView) (id : ℕ) (entry : List ℕ) : Type 0 where
  pub index : IsViewIndex view id_rule (index_parts view SECURE (wide (codes "$SII")))
  pub among : Contains index.items (item_in entry)
  pub key : u32_at (item_in entry).key 0 ≡ id

-- It has, or the id has no descriptor.
abbrev pub HasEntry : VolumeView → ℕ → Option (List ℕ) → Type 0
HasEntry view id None = (bytes : List ℕ) → ¬ (HasDescriptor view id bytes)
HasEntry view id (Some entry) = IsEntryOf view id entry

-- WHETHER THE ID HAS A DESCRIPTOR.
abbrev pub TellsWhether : VolumeView → ℕ → Bool → Type 0
TellsWhether view id true = (bytes : List ℕ) × HasDescriptor view id bytes
TellsWhether view id false = (bytes : List ℕ) → ¬ (HasDescriptor view id bytes)
