-- A FILE GOES with its one name, and then its directory is set: what the calls of `rm` give.
-- Layout: Linux-NTFS documentation, attributes $STANDARD_INFORMATION, $FILE_NAME and $INDEX_ROOT, "File Record"; Carrier, File System
-- Forensic Analysis, chapters 11 to 13.
use Rattle.std.specs.Prelude.{ℕ}
use Rattle.ntfs_def.specs.FileName.{FileName}
use Rattle.volume_def.specs.View.{VolumeView}
use Rattle.mft_table.specs.HeldTables.{AreStored}
use Rattle.mft_table.specs.declared.mounted.Mounted.{Mounted}
use Rattle.tree_model.specs.Effects.{touched}
use Rattle.tree_model.specs.declared.tree.Node.{Node}
use Rattle.edit_def.specs.Marks.{AreRight}
use Rattle.record_calls.specs.Marks.{marks_of}
use Rattle.attribute_edits.specs.Below.{SetsAttributes}
use Rattle.gone_edits.specs.Goes.{GoesUnder}

-- THE FILE in record n WENT with its one name, where the bits in memory were right and stored. Then the moment was set as the times at
-- which the directory of that name, which was this node, and its record changed.
pub record DropsUnder (old new : VolumeView) (moment n dir : ℕ) (parent : Node) (name : FileName) : Type 0 where
  pub was : Mounted
  pub right : AreRight old (marks_of was)
  pub stored : AreStored old was.clusters was.records was.upcase
  pub now : Mounted
  pub mid : VolumeView
  pub goes : GoesUnder old mid was now n dir name
  pub sets : SetsAttributes mid new dir (touched moment parent).times parent.flags
