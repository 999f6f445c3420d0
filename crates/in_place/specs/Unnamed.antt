-- WHAT AN EDIT DOES NOT NAME, a volume whose clusters lie apart, and the files of it whose attributes can be set.
use Rattle.std.specs.Prelude.{◌≡◌, ◌≢◌, ℕ, ◌<◌, Bool, false, true, List, [], Contains, Some}
use Rattle.ntfs_def.specs.declared.records.TheConstants.{VOLUME}
use Rattle.ntfs_def.specs.FileName.{FileName}
use Rattle.volume_def.specs.FileNames.{names_of}
use Rattle.volume_def.specs.Files.{records_of}
use Rattle.volume_def.specs.Sound.{IsSound}
use Rattle.volume_def.specs.View.{VolumeView}
use Rattle.volume_edits.specs.Owners.{HasOwners}
use Rattle.session_def.specs.EditDefKept.{Key, key_of}
use Rattle.session_def.specs.Named.{is_index_kind}
use Rattle.session_def.specs.Nodes.{flag_of, point_flag}
use Rattle.session_def.specs.Bill.{dropped_links}
use Rattle.session_def.specs.Effects.{makes_file}
use Rattle.session_def.specs.Reading.{node_at}
use Rattle.session_def.specs.Subjects.{Located}
use Rattle.session_def.specs.Tree.{Tree}
use Rattle.session_def.specs.Command.{Command}
use Rattle.session_def.specs.Node.{Node}

-- no attribute of file f, and none of this type in it
abbrev pub NamesNoneOf : (Key → Bool) → ℕ → Type 0
NamesNoneOf changed f = (kind : ℕ) (name : List ℕ) → changed (key_of f kind name) ≡ false

abbrev pub NamesNoKind : (Key → Bool) → ℕ → ℕ → Type 0
NamesNoKind changed f kind = (name : List ℕ) → changed (key_of f kind name) ≡ false

-- no index of this name
abbrev pub NamesNoIndex : (Key → Bool) → List ℕ → Type 0
NamesNoIndex changed name = (f kind : ℕ) → is_index_kind kind ≡ true → changed (key_of f kind name) ≡ false

-- No cluster has two owners, and the part that holds the table of records has no name.
pub record LiesApart (view : VolumeView) : Type 0 where
  pub owners : HasOwners view
  pub some : 0 < view.layout.cluster_sectors
  pub unnamed : owners.table.part.name ≡ []

-- WHERE A FILE'S ATTRIBUTES CAN BE SET: on a sound volume whose clusters lie apart, of a file that is shown as this node. Neither the file
-- nor a directory in which it has a name is that of the volume's version, whose record the mark is written to.
pub record CanSet (view : VolumeView) (f : ℕ) (node : Node) : Type 0 where
  pub sound : IsSound view
  pub apart : LiesApart view
  pub there : node_at view f ≡ Some node
  pub other : f ≢ VOLUME
  pub elsewhere : (name : FileName) → Contains (names_of (records_of view) f) name → name.parent.number ≢ VOLUME

-- The command makes no file, drops no name, and neither sets nor takes a reparse point.
pub record IsQuiet (before : Tree) (command : Command) (at : Located) : Type 0 where
  pub makes : makes_file command ≡ false
  pub drops : dropped_links before command at ≡ []
  pub points : (flag : ℕ) → point_flag command flag ≡ flag

-- The DOS flags of file f that say what it has are as they were: 0x200, a sparse stream, and 0x400, a reparse point.
pub record KeepsMarks (old new : VolumeView) (f : ℕ) : Type 0 where
  pub sparse : flag_of 0x200 new f ≡ flag_of 0x200 old f
  pub point : flag_of 0x400 new f ≡ flag_of 0x400 old f
