-- The volume's name and version, in record 3.
-- Layout: Linux-NTFS documentation, attributes $VOLUME_NAME and $VOLUME_INFORMATION; Carrier, File
-- System Forensic Analysis, chapter 13.
use Rattle.std.specs.Prelude.{ℕ, nat_le, List, [], length, Option, Some, None, if◌then◌else◌}
use Rattle.ntfs_def.specs.Units.{units_in}
use Rattle.ntfs_def.specs.VolumeInformation.{major_version, minor_version}
use Rattle.volume_def.specs.declared.version.Version.{Version}

-- the units of the volume's name, none where it has no name
abbrev pub label_units : Option (List ℕ) → List ℕ
label_units None = []
label_units (Some value) = units_in value

-- the version in a $VOLUME_INFORMATION of 12 bytes at least
abbrev pub version_in : Option (List ℕ) → Option Version
version_in None = None
version_in (Some value) =
    if nat_le 12 (length value) then Some (record { major = major_version value; minor = minor_version value }) else None
