-- WHAT STANDS BETWEEN TWO CALLS, whole: what an edit of one record needs, and leaves.
use Rattle.std.specs.Prelude.{◌≡◌, ◌⊎◌, ℕ, ◌<◌, ◌≤◌, []}
use Rattle.ntfs_def.specs.declared.records.TheConstants.{ROOT, SECURE}
use Rattle.volume_def.specs.Files.{records_of}
use Rattle.volume_def.specs.Sound.{Holds, Limits}
use Rattle.volume_def.specs.View.{VolumeView}
use Rattle.volume_edits.specs.Owners.{HasTablePart}
use Rattle.edit_def.specs.Marks.{IsEditable, Marks}
use Rattle.edit_def.specs.Names.{HasRightBases}

-- The files whose attributes calls edit: the root, and those from $Secure on. On the others rest the table of records, its mirror,
-- the bits, the boot sector and the version.
abbrev pub MayBeEdited : ℕ → Type 0
MayBeEdited f = (f ≡ ROOT) ⊎ (SECURE ≤ f)

-- The table of records lies where the unnamed $DATA of file 0 does, in clusters of some sectors.
pub record HasTableData (view : VolumeView) : Type 0 where
  pub table : HasTablePart view
  pub unnamed : table.part.name ≡ []
  pub some : 0 < view.layout.cluster_sectors

-- The clauses on records, clusters and sizes hold, but for the stored bitmaps; the bits in memory are right; extension records name their
-- base; and the table lies where file 0 says.
pub record IsReady (view : VolumeView) (marks : Marks) : Type 0 where
  pub editable : IsEditable view marks
  pub limits : Holds view Limits
  pub bases : HasRightBases (records_of view)
  pub table : HasTableData view
