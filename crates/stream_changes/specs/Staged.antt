-- WHERE SECTORS ARE STAGED by an edit that gives clusters back, or takes some, and how many.
use Rattle.std.specs.Prelude.{◌≡◌, ◌⊎◌, ◌+◌, ◌*◌, ◌<◌, ◌≤◌, ℕ, length}
use Rattle.vol_disk.specs.declared.Disk.{Ghosts}
use Rattle.volume_def.specs.FileNames.{names_of}
use Rattle.volume_def.specs.Files.{records_of}
use Rattle.volume_def.specs.OwnersClause.{times_owned}
use Rattle.volume_def.specs.View.{VolumeView}
use Rattle.session_def.specs.Cost.{given_back}
use Rattle.mft_table.specs.declared.mft.Mft.{Mft}
use Rattle.mft_table.specs.Mft.{view}
use Rattle.stored_bits.specs.Given.{IsOfBits}
use Rattle.tree_edit.specs.Staged.{IsOfEdit, StagesFew}

-- the sector lies in a cluster that has no owner
pub record IsOfFree (view : VolumeView) (sector : ℕ) : Type 0 where
  pub cluster : ℕ
  pub inside : cluster < view.layout.clusters
  pub unowned : times_owned (records_of view) cluster ≡ 0
  pub low : cluster * view.layout.cluster_sectors ≤ sector
  pub high : sector < cluster * view.layout.cluster_sectors + view.layout.cluster_sectors

abbrev pub IsOfGiving : VolumeView → ℕ → ℕ → Type 0
IsOfGiving before f sector =
    IsOfFree before sector ⊎ (IsOfBits before sector ⊎ IsOfEdit before f (names_of (records_of before) f) sector)

-- Of the volume before, those of an edit of file f, and those in which the flags of the clusters lie that are given back, or taken: two
-- more for each of these; and those of the clusters that are taken.
pub record StagesGiving {D : Type 0} (g : Ghosts D) (most f : ℕ) (before : VolumeView) (old new : Mft D g) : Type 0 where
  pub given : ℕ
  pub freed : given ≤ given_back before (view g new)
  pub taken : ℕ
  pub owned : taken ≤ given_back (view g new) before
  pub stages : StagesFew g (most + 12 * length (names_of (records_of before) f) + 2 * given + 2 * taken) (IsOfGiving before f) old new
