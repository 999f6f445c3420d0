-- What the word label prints of an image: the volume's name and version, or a clause that
-- refuses it: S1, S2, or of S3 and S14 what record 3 alone tells.
use Rattle.std.specs.Prelude.{◌≡◌, ◌⊎◌, ℕ, List, Option, Some, None, MatchOption}
use Rattle.vol_disk.specs.Contents.{sector_in}
use Rattle.ntfs_def.specs.Boot.{boot_sector, image_boot_failing}
use Rattle.ntfs_def.specs.Fixup.{opened_of}
use Rattle.ntfs_def.specs.declared.records.TheConstants.{VOLUME}
use Rattle.ntfs_def.specs.declared.kinds.TheConstants.{VOLUME_INFORMATION, VOLUME_NAME}
use Rattle.ntfs_def.specs.Attribute.{Attribute, attributes, first_value}
use Rattle.volume_def.specs.declared.version.Version.{Version}
use Rattle.volume_def.specs.Blocks.{block_of}
use Rattle.volume_def.specs.Table.{HasNoTable, IsRecord, MeetsTable, TableLayout}
use Rattle.volume_def.specs.VolumeRecord.{label_units, version_in}
use Rattle.shell.specs.Refusals.{boot_refusal, no_table, no_version, no_volume_record}
use Rattle.shell.specs.Report.{Report, says, refuses}
use Rattle.shell.specs.Text.{label_text}

-- by the attributes of record 3: its $VOLUME_NAME, and the version in its $VOLUME_INFORMATION
abbrev pub name_report : List Attribute → Option Version → Report
name_report attributes None = refuses no_version
name_report attributes (Some version) = says (label_text (label_units (first_value VOLUME_NAME attributes)) version)

abbrev pub volume_report : List Attribute → Report
volume_report attributes = name_report attributes (version_in (first_value VOLUME_INFORMATION attributes))

-- by record 3, as it is stored
abbrev pub RecordReports : List ℕ → Report → Type 0
RecordReports stored report =
    (IsRecord stored × (report ≡ volume_report (attributes (opened_of stored))))
    ⊎ ((¬ (IsRecord stored)) × (report ≡ refuses no_volume_record))

-- by the sectors of the disk, where the boot clause holds
abbrev pub TableReports : (ℕ → List ℕ) → List ℕ → Report → Type 0
TableReports disk boot report =
    ((layout : TableLayout) × MeetsTable disk boot layout × RecordReports (block_of disk layout VOLUME) report)
    ⊎ (HasNoTable disk boot × (report ≡ refuses no_table))

-- by the image
abbrev pub LabelReports : List ℕ → Report → Type 0
LabelReports image report = MatchOption (image_boot_failing image)
    (TableReports (sector_in (Some image)) (boot_sector image) report)
    (λ number. report ≡ refuses (boot_refusal number))
