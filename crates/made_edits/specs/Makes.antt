-- A FILE IS MADE under one name, empty, or a directory, in a free record, of one moment, and then its directory is set: what the calls of
-- `create` and `mkdir` give.
-- Layout: Linux-NTFS documentation, attributes $STANDARD_INFORMATION, $FILE_NAME, $DATA and $INDEX_ROOT; Carrier, File System Forensic
-- Analysis, chapters 11 to 13.
use Rattle.std.specs.Prelude.{ℕ, Bool, List}
use Rattle.volume_def.specs.View.{VolumeView}
use Rattle.mft_table.specs.HeldTables.{AreStored}
use Rattle.mft_table.specs.declared.mounted.Mounted.{Mounted}
use Rattle.tree_model.specs.Effects.{security_of, touched}
use Rattle.tree_model.specs.Tree.{Tree}
use Rattle.tree_model.specs.declared.tree.Node.{Node}
use Rattle.edit_def.specs.Marks.{AreRight}
use Rattle.root_puts.specs.Marks.{marks_of}
use Rattle.root_puts.specs.Attributes.{SetsAttributes}
use Rattle.root_puts.specs.Calls.{IsNewStandard}
use Rattle.made_edits.specs.Beside.{IsPlainStandard}
use Rattle.made_edits.specs.Comes.{ComesUnder, IsNewKey}

-- THE FILE IS MADE in record n, under this name in a directory, at this moment, with the descriptor of this id.
pub record MakesFile (directory : Bool) (old new : VolumeView) (was now : Mounted) (n dir : ℕ) (units : List ℕ)
    (moment security : ℕ) : Type 0 where
  pub standard : List ℕ
  pub new_standard : IsNewStandard directory moment security standard
  pub plain : IsPlainStandard directory standard
  pub key : List ℕ
  pub new_key : IsNewKey old directory dir units moment key
  pub comes : ComesUnder directory old new was now n dir standard key

-- THE FILE CAME under that name, in record `made`, with the security id of its directory, where the bits in memory were right and stored.
-- Then the moment was set as the times at which the directory, which was this node, and its record changed. The tree is that of the volume.
pub record MakesUnder (directory : Bool) (old new : VolumeView) (tree : Tree) (moment dir : ℕ) (units : List ℕ) (node : Node)
    (made : ℕ) : Type 0 where
  pub was : Mounted
  pub right : AreRight old (marks_of was)
  pub stored : AreStored old was.clusters was.records was.upcase
  pub now : Mounted
  pub mid : VolumeView
  pub makes : MakesFile directory old mid was now made dir units moment (security_of tree dir)
  pub sets : SetsAttributes mid new dir (touched moment node).times node.flags
