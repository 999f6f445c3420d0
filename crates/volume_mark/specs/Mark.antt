-- The mark of a volume that an edit was done on, and what a device fault leaves.
use Rattle.std.specs.Prelude.{◌≡◌, ◌⊎◌, ◌+◌, ◌*◌, ◌/◌, ◌%◌, ◌<◌, ℕ, List, Option, Some, length}
use Rattle.vol_disk.specs.Contents.{sector_in}
use Rattle.ntfs_def.specs.Attribute.{attribute_place, attributes, value_offset}
use Rattle.ntfs_def.specs.Fixup.{opened_of}
use Rattle.ntfs_def.specs.declared.records.TheConstants.{VOLUME}
use Rattle.volume_def.specs.Blocks.{mirror_sector, table_place}
use Rattle.volume_def.specs.Sound.{IsSound}
use Rattle.volume_def.specs.VersionClause.{IsClean, IsVersionAt}
use Rattle.volume_def.specs.View.{VolumeView}
use Rattle.tree_model.specs.Facts.{IsVolumeOf}
use Rattle.tree_model.specs.Reading.{read}
use Rattle.tree_model.specs.Tree.{Tree}
use Rattle.mark_write.specs.Flags.{ClearsTo, IsSet}
use Rattle.mark_write.specs.declared.flag.Flag.{Flag}

-- This is where the dirty flag of the volume lies: 0x0A of $VOLUME_INFORMATION. An edit never moves it, so the first image tells its
-- place.
-- Layout: Linux-NTFS documentation, attribute $VOLUME_INFORMATION; Carrier, File System Forensic Analysis, chapter 13.
pub record IsFlagOf (view : VolumeView) (flag : Flag) : Type 0 where
  pub i : ℕ
  pub inside : i < length (attributes (opened_of (view.block VOLUME)))
  pub place : ℕ
  pub place_is : place ≡ attribute_place (opened_of (view.block VOLUME)) i
  pub version : IsVersionAt (opened_of (view.block VOLUME)) place
  pub byte : ℕ
  pub byte_is : byte ≡ place + value_offset (opened_of (view.block VOLUME)) place + 0x0A
  pub home : table_place view.layout (2 * VOLUME + byte / 512) ≡ Some flag.home
  pub copy : flag.copy ≡ mirror_sector view.layout + 2 * VOLUME + byte / 512
  pub at : flag.at ≡ byte % 512

-- The bytes are those of the image with the bit cleared.
pub record IsCleared (first : VolumeView) (image bytes : List ℕ) : Type 0 where
  pub flag : Flag
  pub is : IsFlagOf first flag
  pub clears : ClearsTo flag image bytes

-- The bit is set.
pub record IsMarked (first : VolumeView) (bytes : List ℕ) : Type 0 where
  pub flag : Flag
  pub is : IsFlagOf first flag
  pub bit : IsSet flag (sector_in (Some bytes))

-- The bytes are an accepted volume, which reads as this tree.
pub record IsAcceptedAs (tree : Tree) (bytes : List ℕ) : Type 0 where
  pub view : VolumeView
  pub volume : IsVolumeOf bytes view
  pub sound : IsSound view
  pub clean : IsClean view
  pub reading : read view ≡ tree

-- The same of the bytes apart from the mark.
abbrev pub IsWhole : VolumeView → Tree → List ℕ → Type 0
IsWhole first tree bytes = IsAcceptedAs tree bytes ⊎ ((cleared : List ℕ) × IsCleared first bytes cleared × IsAcceptedAs tree cleared)

-- What a device fault leaves: a volume that is marked, or whole.
pub record IsHarmed (first : VolumeView) (tree : Tree) (now : Option (List ℕ)) : Type 0 where
  pub bytes : List ℕ
  pub are : now ≡ Some bytes
  pub state : IsMarked first bytes ⊎ IsWhole first tree bytes

-- Whatever closing leaves of these bytes is accepted and reads as the tree.
abbrev pub ClosesAs : Flag → Tree → List ℕ → Type 0
ClosesAs flag tree bytes = (cleared : List ℕ) → ClearsTo flag bytes cleared → IsAcceptedAs tree cleared
