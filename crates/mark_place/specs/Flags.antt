-- The byte of record 3 that holds the dirty flag.
use Rattle.std.specs.Prelude.{◌≡◌, ◌+◌, ◌*◌, ◌/◌, ◌%◌, ◌<◌, ℕ, List, Some, length}
use Rattle.ntfs_def.specs.Attribute.{attribute_place, attributes, value_offset}
use Rattle.ntfs_def.specs.declared.records.TheConstants.{VOLUME}
use Rattle.volume_def.specs.Blocks.{mirror_sector, table_place}
use Rattle.volume_def.specs.Table.{TableLayout}
use Rattle.volume_def.specs.VersionClause.{IsVersionAt}
use Rattle.mark_write.specs.declared.flag.Flag.{Flag}

-- The flags of the $VOLUME_INFORMATION of an opened record stand at this byte: 0x0A of its value.
-- Layout: Linux-NTFS documentation, attribute $VOLUME_INFORMATION.
pub record IsFlagByte (opened : List ℕ) (byte : ℕ) : Type 0 where
  pub i : ℕ
  pub inside : i < length (attributes opened)
  pub version : IsVersionAt opened (attribute_place opened i)
  pub is : byte ≡ attribute_place opened i + value_offset opened (attribute_place opened i) + 0x0A

-- The flag is that byte of record 3, where the table lies so, and of its copy.
pub record IsFlagIn (layout : TableLayout) (opened : List ℕ) (flag : Flag) : Type 0 where
  pub byte : ℕ
  pub is : IsFlagByte opened byte
  pub home : table_place layout (2 * VOLUME + byte / 512) ≡ Some flag.home
  pub copy : flag.copy ≡ mirror_sector layout + 2 * VOLUME + byte / 512
  pub at : flag.at ≡ byte % 512
