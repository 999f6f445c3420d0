-- The image below a stage, as a volume, and the facts that are noted of it.
use Rattle.std.specs.Prelude.{◌≡◌, ℕ, is_some}
use Rattle.vol_disk.specs.Contents.{sector_in}
use Rattle.vol_disk.specs.declared.Disk.{Ghosts}
use Rattle.vol_stage.specs.declared.stage.Stage.{Stage}
use Rattle.vol_stage.specs.Staged.{image}
use Rattle.volume_def.specs.Files.{records_of}
use Rattle.volume_def.specs.Sound.{HoldBelow}
use Rattle.volume_def.specs.Table.{TableLayout, cluster_bytes}
use Rattle.volume_def.specs.View.{VolumeView, view_of}
use Rattle.record_notes.specs.declared.facts.Facts.{Facts}
use Rattle.record_notes.specs.Facts.{FactsNote, records_known}
use Rattle.record_notes.specs.Owners.{clusters_noted}
use Rattle.record_notes.specs.Streams.{HasPlaces}
use Rattle.record_notes.specs.Unlisted.{bytes_noted}

-- with its table where the layout says
abbrev pub stage_view : {D : Type 0} (g : Ghosts D) → Stage D g → TableLayout → VolumeView
stage_view g stage layout = view_of (is_some (image g stage)) (sector_in (image g stage)) layout

-- The facts are noted for a volume with this layout.
pub record IsOfVolume (layout : TableLayout) (facts : Facts) : Type 0 where
  pub records : records_known facts ≡ layout.count
  pub clusters : clusters_noted facts.owners ≡ layout.clusters
  pub places : HasPlaces layout.clusters layout.count (cluster_bytes layout) facts.streams
  pub cluster_bytes : bytes_noted facts.unlisted ≡ cluster_bytes layout

-- The check has come to the clause of this rank: those before it hold, and the facts are those of the volume.
pub record HasComeWith (view : VolumeView) (rank : ℕ) (facts : Facts) : Type 0 where
  pub volume : IsOfVolume view.layout facts
  pub noted : FactsNote (records_of view) view.layout.count facts
  pub before : HoldBelow view rank
