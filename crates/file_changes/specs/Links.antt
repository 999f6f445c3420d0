-- THE NAMES OF A FILE told anew one after another, and where that can be done.
use Rattle.std.specs.Prelude.{◌≡◌, ◌≢◌, ◌+◌, ◌*◌, ◌<◌, ◌≤◌, ℕ, List, [], ◌∷◌, Contains, IsTrue, is_some, map}
use Rattle.ntfs_def.specs.FileName.{FileName}
use Rattle.ntfs_def.specs.declared.records.TheConstants.{VOLUME}
use Rattle.volume_def.specs.CaseClause.{case_parts}
use Rattle.volume_def.specs.Coverage.{IsApart}
use Rattle.volume_def.specs.FileNames.{names_of}
use Rattle.volume_def.specs.Files.{record_on, records_of}
use Rattle.volume_def.specs.Readable.{IsFile}
use Rattle.volume_def.specs.Sound.{IsSound}
use Rattle.volume_def.specs.Values.{value_on}
use Rattle.volume_def.specs.View.{VolumeView}
use Rattle.tree_model.specs.Reading.{link_for}
use Rattle.tree_model.specs.declared.tree.Link.{Link}
use Rattle.tree_model.specs.declared.tree.Node.{Node}
use Rattle.stream_overwrites.specs.Below.{CanSet, LiesApart}
use Rattle.dir_index.specs.declared.entry.DuplicatedInformation.{DuplicatedInformation}
use Rattle.dir_index.specs.Refreshed.{CanRefresh, HasUnits, RefreshesEntry}
use Rattle.attribute_edits.specs.Below.{IsToldOf, RefreshesNames}

-- Records can be written: the table lies apart from its mirror, and every record in use lies whole in what was written of the table.
pub record CanWrite (view : VolumeView) : Type 0 where
  pub apart : IsApart view.layout
  pub written : (n : ℕ) → IsTrue (is_some (record_on view n)) → 1024 * n + 1024 ≤ view.layout.initialized

-- THE NAME CAN BE TOLD ANEW: its directory is one of the table that can be edited, and has it.
pub record CanTell (view : VolumeView) (table : List ℕ) (link : Link) : Type 0 where
  pub inside : link.parent < view.layout.count
  pub can : CanRefresh view link.parent table
  pub named : HasUnits view link.parent link.name

-- A file of a sound volume whose clusters lie apart, of which this is the table of case; none of these names stands in the file of the
-- volume's version.
pub record CanTellNames (view : VolumeView) (table : List ℕ) (f : ℕ) (names : List FileName) : Type 0 where
  pub sound : IsSound view
  pub apart : LiesApart view
  pub file : IsFile view f
  pub elsewhere : (name : FileName) → Contains names name → name.parent.number ≢ VOLUME
  pub case : table ≡ value_on view (case_parts view)
  pub write : CanWrite view

-- THESE ARE NAMES OF ONE FILE that can be told anew, one after another.
pub record CanTellAll (view : VolumeView) (table : List ℕ) (links : List Link) : Type 0 where
  pub f : ℕ
  pub names : List FileName
  pub are : map (link_for f) names ≡ links
  pub own : (name : FileName) → Contains names name → Contains (names_of (records_of view) f) name
  pub can : CanTellNames view table f names

-- all names of a file can be told anew
abbrev pub CanTellFile : VolumeView → List ℕ → ℕ → Type 0
CanTellFile view table f = CanTellNames view table f (names_of (records_of view) f)

-- one link after another was told anew
abbrev pub RefreshesLinks : DuplicatedInformation → VolumeView → VolumeView → List Link → Type 0
RefreshesLinks told old new [] = new ≡ old
RefreshesLinks told old new (link ∷ links) =
    (mid : VolumeView) × RefreshesEntry old mid link.parent link.name told × RefreshesLinks told mid new links

-- THE NAMES OF THE FILE TELL what it shows.
pub record TellsNames (old new : VolumeView) (f : ℕ) : Type 0 where
  pub told : DuplicatedInformation
  pub shows : IsToldOf old f told
  pub refreshes : RefreshesNames told old new (names_of (records_of old) f)

-- THE ATTRIBUTES OF THE FILE CAN BE SET: it is shown, and records can be written.
pub record CanWriteFile (view : VolumeView) (f : ℕ) : Type 0 where
  pub node : Node
  pub can : CanSet view f node
  pub write : CanWrite view
