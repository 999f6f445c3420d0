-- THE STAGED VOLUME, on which a command was done: what it is to be.
use Rattle.std.proofs.Common.{◌≡◌, ◌≤◌, ◌+◌, ℕ, List, [], ◌∷◌, Some, false, length, true}
use Rattle.std.specs.List.{Contains}
use Rattle.vol_disk.specs.Contents.{sector_in}
use Rattle.ntfs_def.specs.FileName.{FileName}
use Rattle.ntfs_def.specs.Node.{Item}
use Rattle.ntfs_def.specs.declared.kinds.TheConstants.{STANDARD_INFORMATION}
use Rattle.volume_def.specs.FileNames.{names_of}
use Rattle.volume_def.specs.Files.{parts_at, records_of}
use Rattle.volume_def.specs.Readable.{IsDirectory}
use Rattle.volume_def.specs.Sound.{IsSound, told_view}
use Rattle.volume_def.specs.Values.{spot_at}
use Rattle.volume_def.specs.View.{VolumeView}
use Rattle.tree_model.specs.Effects.{tree_after}
use Rattle.tree_model.specs.Reading.{read}
use Rattle.tree_model.specs.Staging.{is_built_for}
use Rattle.tree_model.specs.Ways.{is_done_in_place}
use Rattle.tree_model.specs.StreamRoom.{is_cluster}
use Rattle.tree_model.specs.Subjects.{Located, NoName}
use Rattle.tree_model.specs.Tree.{Tree}
use Rattle.tree_model.specs.declared.command.Command.{Command}
use Rattle.tree_model.specs.declared.tree.Node.{Node}
use Rattle.edit_def.specs.Items.{HasItems}
use Rattle.session_def.specs.Cost.{bytes_in}
use Rattle.session_def.specs.Done.{LeavesDone, stream_in}
use Rattle.session_def.specs.Indexes.{KeepsRests}
use Rattle.session_def.specs.Kept.{KeepsEntries, KeepsStandard}
use Rattle.session_def.specs.Nodes.{edits_stream}
use Rattle.session_def.specs.State.{Stands, State}
use Rattle.in_place.specs.Behind.{MarksBehind}
use Rattle.in_place.specs.InPlace.{Rewrites}
use Rattle.in_place.specs.Unnamed.{CanSet, KeepsMarks}
use Rattle.in_place_owed.specs.SetsInPlace.{KeepsRoot, StandsAlone, edits_in_place, is_set_key, punches_stream}
use Rattle.in_place_owed.proofs.CallsOwed.{stands-alone}
use Rattle.edit_written.specs.LeavesAlone.{LeavesAlone}
use Rattle.in_place_done.specs.Written.{SetsShown, is_done, most_written}
use Rattle.in_place_done.proofs.HeldStream.{HoldsStream}
use Rattle.in_place_done.proofs.Ways.{InPlace}

-- the volume that the staged bytes are
abbrev pub staged_view : State → List ℕ → VolumeView
staged_view before staged = told_view (sector_in (Some staged)) before.view.layout

-- A FILE THAT CAN BE EDITED, to which the words of the command lead, and its stream. No name of it stands in a record that has a copy. The
-- command has no more bytes than it may.
pub record CanBeEdited (before : State) (command : Command) (at : Located) (node : Node) : Type 0 where
  pub stands : Stands before
  pub edits : is_done command ≡ true
  pub none : at.new ≡ NoName
  pub built : is_built_for before.view before.machine.tree command at ≡ true
  pub can : CanSet before.view at.file node
  pub shown : SetsShown command
  pub few : bytes_in command ≤ 32768
  pub high : (name : FileName) → Contains (names_of (records_of before.view) at.file) name → 4 ≤ name.parent.number
  pub stream : edits_stream command ≡ true → HoldsStream before.machine.tree at node

-- THE SAME of a command that is done in place, whatever image the volume is of
pub record CanBeSet (before : State) (command : Command) (at : Located) (node : Node) : Type 0 where
  pub stands : StandsAlone before
  pub edits : edits_in_place command ≡ true
  pub none : at.new ≡ NoName
  pub in_place : is_done_in_place before.view before.machine.tree command at ≡ true
  pub can : CanSet before.view at.file node
  pub high : (name : FileName) → Contains (names_of (records_of before.view) at.file) name → 4 ≤ name.parent.number

pub can-be-set : (before : State) (command : Command) (at : Located) (node : Node)
    → InPlace before.view before.machine.tree command at → CanBeEdited before command at node → CanBeSet before command at node
can-be-set before command at node place is = record {
  stands = stands-alone before is.stands;
  edits = place.edits;
  none = is.none;
  in_place = place.is;
  can = is.can;
  high = is.high;
}

-- WHAT WAS SET IN PLACE: on a sound volume the attributes that the command may rewrite, and what the tree does not show of these stays; and
-- a stream that was punched lay in no cluster.
pub record IsSet (before : State) (command : Command) (at : Located) (new : VolumeView) : Type 0 where
  pub rewrites : Rewrites (is_set_key before.machine.tree command at) before.view new
  pub sound : IsSound new
  pub standard : KeepsStandard false (parts_at before.view at.file STANDARD_INFORMATION []) (parts_at new at.file STANDARD_INFORMATION [])
  pub marks : KeepsMarks before.view new at.file
  pub roots : (dir : ℕ) → KeepsRoot before.view new dir
  pub entries : (dir : ℕ) (was now : List Item) → IsDirectory before.view dir → HasItems before.view dir was → HasItems new dir now
      → (tree next : Tree) → KeepsEntries new tree next (at.file ∷ []) [] was now
  pub rests : (dir : ℕ) (was now : List Item) → IsDirectory before.view dir → HasItems before.view dir was → HasItems new dir now
      → KeepsRests new (at.file ∷ []) [] was now
  pub nowhere : punches_stream command ≡ true → (vcn : ℕ)
      → is_cluster (spot_at (stream_in before.view before.machine.tree at) vcn) ≡ false

-- WHAT WAS STAGED IN PLACE reads as the tree behind the command.
pub record IsStaged (before : State) (command : Command) (at : Located) (new : VolumeView) : Type 0 where
  pub set : IsSet before command at new
  pub reads : read new ≡ tree_after before.machine command at 0

-- WHAT CAN BE WRITTEN: a sound volume that reads as the tree behind the command, on which what tells where the volume lies was left alone,
-- and which with the first mark behind it is all that an edit leaves that was done.
pub record CanBeWritten (before : State) (command : Command) (at : Located) (new : VolumeView) : Type 0 where
  pub sound : IsSound new
  pub reads : read new ≡ tree_after before.machine command at 0
  pub alone : LeavesAlone before.view new
  pub leaves : (next : State) → MarksBehind new next.view → IsSound next.view → length next.image ≡ length before.image
      → next.written ≤ before.written + most_written before command at.file new → LeavesDone before next command at 0
