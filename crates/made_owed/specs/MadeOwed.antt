-- A FILE WAS MADE, or a directory, and then the times of its directory set: what the calls of `create` and `mkdir` give, and the first mark
-- behind them.
use Rattle.std.specs.Prelude.{◌≡◌, ℕ, ◌+◌, ◌∷◌, [], Bool, List, length, None, if◌then◌else◌}
use Rattle.ntfs_def.specs.Node.{Item}
use Rattle.volume_def.specs.Readable.{IsDirectory}
use Rattle.volume_def.specs.View.{VolumeView}
use Rattle.made_edits.specs.Mounted.{Mounted}
use Rattle.made_edits.specs.HeldTables.{AreStored}
use Rattle.tree_model.specs.Effects.{make, security_of}
use Rattle.tree_model.specs.Reading.{read}
use Rattle.tree_model.specs.Subjects.{Located, NameIn, at_file, nothing}
use Rattle.tree_model.specs.declared.command.Command.{Command}
use Rattle.tree_model.specs.declared.command.Command.TheVariants as c
use Rattle.tree_model.specs.declared.tree.Node.{Node}
use Rattle.edit_def.specs.Items.{HasItems}
use Rattle.edit_def.specs.Marks.{AreRight}
use Rattle.session_def.specs.Kept.{KeepsEntries}
use Rattle.session_def.specs.State.{Stands, State}
use Rattle.made_edits.specs.Calls.{IsNewStandard}
use Rattle.made_edits.specs.Marks.{marks_of}
use Rattle.in_place_owed.specs.SetsInPlace.{SetsInPlace}
use Rattle.made_edits.specs.Beside.{IsPlainStandard}
use Rattle.made_edits.specs.Comes.{CanMake, ComesUnder, IsNewKey}

-- the command that makes a directory, or a file
abbrev pub made_command : Bool → List (List ℕ) → Command
made_command directory path = if directory then c.Mkdir path else c.Create path

-- what its words lead to
abbrev pub at_name : ℕ → List ℕ → Located
at_name dir units = record nothing { new = NameIn dir units }

-- the sectors that are staged for the file: that of the flag of its record, the two of the record, and those of the record of the index
abbrev pub made_sectors : ℕ
made_sectors = 11

-- BETWEEN the two: the volume as the file came into it, and the tree that it reads as. The sectors of the file were written then.
abbrev pub between : State → VolumeView → State
between before mid = record before {
  view = mid;
  machine = record before.machine { tree = read mid };
  written = before.written + made_sectors;
}

-- THE FILE CAME in record `made`, under this name of the directory, and then the directory was set, as `setattr` does it on the volume
-- between.
pub record SetsBehindMade (directory : Bool) (before next : State) (dir : ℕ) (units : List ℕ) (made : ℕ) (mid staged : VolumeView)
    : Type 0 where
  -- the volume before, the bits that are kept in memory of it, and a name that may come
  pub stands : Stands before
  pub was : Mounted
  pub right : AreRight before.view (marks_of was)
  pub stored : AreStored before.view was.clusters was.records was.upcase
  pub node : Node
  pub can : CanMake before.view dir node units
  -- the file
  pub now : Mounted
  pub standard : List ℕ
  pub key : List ℕ
  pub is_standard : IsNewStandard directory before.machine.now (security_of before.machine.tree dir) standard
  pub plain : IsPlainStandard directory standard
  pub long : length standard ≡ 72
  pub is_key : IsNewKey before.view directory dir units before.machine.now key
  pub comes : ComesUnder directory before.view mid was now made dir standard key
  -- the machine then
  pub moved : next.machine.tree ≡ make directory before.machine.now made (NameIn dir units) before.machine.tree
  -- what came behind it; of entries it says so of the tree between alone
  pub behind : SetsInPlace (between before mid) next (c.Setattr [] 0) (at_file (read mid) None dir) staged
  pub entries : (g : ℕ) (was now : List Item) → IsDirectory mid g → HasItems mid g was → HasItems staged g now
      → KeepsEntries staged before.machine.tree next.machine.tree (dir ∷ []) [] was now
