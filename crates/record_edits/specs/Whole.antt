-- ONE ATTRIBUTE MEETS THE CLAUSE ON EXTENTS, where it has a part at all. Of names the clause asks nothing.
use Rattle.std.specs.Prelude.{◌≡◌, ◌≢◌, ◌⊎◌, []}
use Rattle.ntfs_def.specs.declared.kinds.TheConstants.{FILE_NAME}
use Rattle.volume_def.specs.ExtentsClause.{AreAttribute}
use Rattle.volume_def.specs.Files.{parts_at}
use Rattle.volume_def.specs.Table.{cluster_bytes}
use Rattle.volume_def.specs.View.{VolumeView}
use Rattle.edit_def.specs.Kept.{Key}

abbrev pub IsWhole : VolumeView → Key → Type 0
IsWhole view key = key.kind ≢ FILE_NAME → (parts_at view key.file key.kind key.name ≡ [])
    ⊎ AreAttribute (cluster_bytes view.layout) key.file (parts_at view key.file key.kind key.name)
