-- A FILE MADE UNDER THE NAME THAT WAS FOUND, and its directory set.
-- Layout: Linux-NTFS documentation, attributes $STANDARD_INFORMATION, $FILE_NAME, $DATA and $INDEX_ROOT; Carrier, File System Forensic
-- Analysis, chapters 11 to 13.
use Rattle.std.specs.Prelude.{ℕ, ◌≤◌, Bool, Contains}
use Rattle.ntfs_def.specs.FileName.{FileName}
use Rattle.volume_def.specs.FileNames.{names_of}
use Rattle.volume_def.specs.Files.{records_of}
use Rattle.volume_def.specs.View.{VolumeView}
use Rattle.tree_model.specs.Reading.{read}
use Rattle.tree_model.specs.declared.tree.Node.{Node}
use Rattle.make_places.specs.Standings.{number_within}
use Rattle.make_places.specs.NewPlace.{NewPlace}
use Rattle.make_places.specs.Comes.{CanMake}
use Rattle.make_places.specs.MadeEditsMakes.{MakesUnder}

-- THE FILE, or the directory, CAME in record `made`, under that name in that directory, which was this node, at this moment; then the
-- moment was set as the times at which that directory and its record changed. No name of it stands in a record that has a copy.
pub record MakesFound (directory : Bool) (old new : VolumeView) (found : NewPlace) (moment : ℕ) : Type 0 where
  pub node : Node
  pub can : CanMake old (number_within found.standing) node found.name.now
  pub high : (name : FileName) → Contains (names_of (records_of old) (number_within found.standing)) name → 4 ≤ name.parent.number
  pub made : ℕ
  pub makes : MakesUnder directory old new (read old) moment (number_within found.standing) found.name.now node made
