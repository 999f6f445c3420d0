-- AN EDIT THAT WAS STAGED, AND WRITTEN. One in place: bytes of a stream that went over bytes, a range of a value that was made zero, and
-- times, flags and the security id of a file that were set. Or one of a stream alone, a value or in clusters: it has other bytes, or went.
use Rattle.std.specs.Prelude.{◌≡◌, ◌||◌, ◌+◌, ◌*◌, ◌/◌, ◌^◌, ◌<◌, ◌≤◌, ℕ, All, Bool, List, Contains, Ok, None, Some, bit_and, length}
use Rattle.std.specs.Prelude.{false, slice_set, true}
use Rattle.vol_disk.specs.Contents.{sector_in}
use Rattle.ntfs_def.specs.FileName.{FileName}
use Rattle.ntfs_def.specs.Units.{units_in}
use Rattle.ntfs_def.specs.declared.kinds.TheConstants.{DATA}
use Rattle.volume_def.specs.FileNames.{names_of}
use Rattle.volume_def.specs.Files.{records_of}
use Rattle.volume_def.specs.Sound.{IsSound, told_view}
use Rattle.volume_def.specs.View.{VolumeView}
use Rattle.mft_table.specs.HeldTables.{AreStored}
use Rattle.tree_model.specs.Answers.{bytes_at}
use Rattle.tree_model.specs.Effects.{after, touched}
use Rattle.tree_model.specs.Facts.{IsVolumeOf, TellsFacts}
use Rattle.tree_model.specs.Reading.{read}
use Rattle.tree_model.specs.Refusals.{Facts, outcome}
use Rattle.tree_model.specs.Ways.{is_done_in_place}
use Rattle.tree_model.specs.Subjects.{Located, Machine}
use Rattle.tree_model.specs.declared.command.Command.{Command}
use Rattle.tree_model.specs.declared.command.Command.TheVariants as c
use Rattle.tree_model.specs.declared.tree.Node.{Node}
use Rattle.tree_model.specs.declared.tree.TheConstants.{SHOWN_FLAGS}
use Rattle.edit_def.specs.Kept.{AreTellable, key_of, told_of}
use Rattle.session_def.specs.Cost.{bytes_in, given_back}
use Rattle.session_def.specs.Done.{EditDone, HasEmptyLog, first_cost}
use Rattle.session_def.specs.Named.{spelt}
use Rattle.session_def.specs.State.{Stands, State}
use Rattle.mark_write.specs.declared.flag.Flag.{Flag}
use Rattle.stream_edits.specs.Streams.{IsThere}
use Rattle.volume_mark.specs.Mark.{IsFlagOf}
use Rattle.volume_mark.specs.SameVolume.{AgreesButMark}
use Rattle.attribute_edits.specs.Below.{SetsAttributes}
use Rattle.in_place.specs.Unnamed.{CanSet}
use Rattle.attribute_edits.specs.Attributes.{SetsSecurity}
use Rattle.edit_written.specs.Below.{PunchesValue, PutsStream, ResizesStream, WritesOver, edits_value, no_gain}
use Rattle.edit_written.specs.Below as edits
use Rattle.in_place_owed.specs.SetsInPlace.{edits_in_place}

-- a command sets no flags but those that are shown, and a security id of four bytes; each name of the path to a new file, or a
-- new directory, has a unit
abbrev pub SetsShown : Command → Type 0
SetsShown (c.Setattr path flags) = bit_and flags SHOWN_FLAGS ≡ flags
SetsShown (c.Create path) = All (λ (name : List ℕ). 1 ≤ length name) path
SetsShown (c.Mkdir path) = All (λ (name : List ℕ). 1 ≤ length name) path
SetsShown (c.Setsec path id) = id < 2 ^ 32
SetsShown other = Unit {0}

-- THE COMMANDS: those that are done in place, and those that edit one stream alone; a write is the one or the other
abbrev pub is_done : Command → Bool
is_done command = edits_in_place command || edits_value command

-- The command, one of these, found file f, which is this node.
pub record FindsFile (facts : Facts) (before : State) (session : ℕ) (command : Command) (f : ℕ) (node : Node) : Type 0 where
  pub stands : Stands before
  pub told : TellsFacts before.view facts
  pub edits : is_done command ≡ true
  pub at : Located
  pub found : outcome facts before.machine session command ≡ Ok at
  pub file : at.file ≡ f
  pub can : CanSet before.view f node
  pub shown : SetsShown command
  -- no name of it stands in a record that has a copy
  pub high : (name : FileName) → Contains (names_of (records_of before.view) f) name → 4 ≤ name.parent.number

-- THESE BYTES WENT OVER BYTES of the stream, as it is spelt in its file, in bytes; the names of the file's attributes can be told apart by
-- their units. Then the moment was set as the times at which the file and its record changed.
pub record WritesStream (before : State) (at : Located) (f : ℕ) (node : Node) (from : ℕ) (bytes : List ℕ) (new : VolumeView) : Type 0 where
  pub name : List ℕ
  pub spelt_so : units_in name ≡ spelt before.machine.tree at
  pub there : IsThere before.view (key_of f DATA name)
  pub tellable : AreTellable (told_of before.view f)
  pub writes : WritesOver before.view new f name from bytes (touched before.machine.now node).times node.flags

-- A RANGE OF THE STREAM WAS MADE ZERO, which is a value, as far as it lies below the size. Then the moment was set as those times too.
pub record PunchesStream (before : State) (at : Located) (f : ℕ) (node : Node) (from len : ℕ) (new : VolumeView) : Type 0 where
  pub name : List ℕ
  pub spelt_so : units_in name ≡ spelt before.machine.tree at
  pub there : IsThere before.view (key_of f DATA name)
  pub tellable : AreTellable (told_of before.view f)
  pub punches : PunchesValue before.view new f name from len (touched before.machine.now node).times node.flags

-- THE STREAM IS EDITED ALONE, by the name that it has. Then the moment was set as those times too.
pub record EditsStream (before : State) (at : Located) (f : ℕ) (Edits : List ℕ → Type 0) : Type 0 where
  pub name : List ℕ
  pub spelt_so : units_in name ≡ spelt before.machine.tree at
  pub there : IsThere before.view (key_of f DATA name)
  pub tellable : AreTellable (told_of before.view f)
  pub edits : Edits name

-- A WRITE: its bytes went over bytes where it is done in place, and else the stream has them then.
abbrev pub PutsInStream : Bool → State → Located → ℕ → Node → ℕ → List ℕ → VolumeView → Type 0
PutsInStream true before at f node from bytes new = WritesStream before at f node from bytes new
PutsInStream false before at f node from bytes new = EditsStream before at f (λ name.
    edits.PutsBytes before.view new f name from bytes (bytes_at at) (touched before.machine.now node).times node.flags)

-- WHAT THE COMMAND STAGES: the bytes of a write, the zeros of a punch, the stream as long as `truncate` makes it or gone by `rmstream`; of
-- `setattr` the flags, and of `setsec` the id, with the moment as the time at which the file's record changed.
abbrev pub Stages : State → Command → Located → ℕ → Node → VolumeView → Type 0
Stages before (c.Setattr path flags) at f node new = SetsAttributes before.view new f (slice_set node.times 2 before.machine.now) flags
Stages before (c.Write path stream from bytes) at f node new =
    PutsInStream (is_done_in_place before.view before.machine.tree (c.Write path stream from bytes) at) before at f node from bytes new
Stages before (c.Hwrite handle from bytes) at f node new =
    PutsInStream (is_done_in_place before.view before.machine.tree (c.Hwrite handle from bytes) at) before at f node from bytes new
Stages before (c.Punch path stream from len) at f node new = PunchesStream before at f node from len new
Stages before (c.Truncate path stream size) at f node new = EditsStream before at f (λ name.
    ResizesStream before.view new f name size (bytes_at at) (touched before.machine.now node).times node.flags)
Stages before (c.Rmstream path name) at f node new = EditsStream before at f (λ name.
    PutsStream before.view new f name None no_gain 0 (touched before.machine.now node).times node.flags)
Stages before (c.Setsec path id) at f node new =
    SetsSecurity before.view new f id (slice_set node.times 2 before.machine.now) node.flags
Stages before other at f node new = ⊥

-- These bytes were staged: the volume that they tell is what the command stages.
pub record StagesEdit (before : State) (command : Command) (at : Located) (f : ℕ) (node : Node) (staged : List ℕ) : Type 0 where
  pub long : length staged ≡ length before.image
  pub stages : Stages before command at f node (told_view (sector_in (Some staged)) before.view.layout)

-- the machine behind the command
abbrev pub machine_behind : State → ℕ → Command → Located → Machine
machine_behind before session command at = after before.machine session command at 0

-- how many sectors the edit may write at most: the mark, the log, those that its bytes touch, records with their copies, and twelve for
-- each name; and two for each cluster that is given back, or taken
abbrev pub most_set : State → Command → ℕ → ℕ
most_set before command f =
    first_cost before.view + 24 + 12 * length (names_of (records_of before.view) f) + bytes_in command / 512

abbrev pub most_written : State → Command → ℕ → VolumeView → ℕ
most_written before command f new = most_set before command f + 2 * given_back before.view new + 2 * given_back new before.view

-- WHAT IT LEAVES: a sound volume was staged that reads as the machine's tree, and what was written of it is all that an edit that was done
-- leaves.
pub record LeavesEdit (facts : Facts) (before : State) (session : ℕ) (command : Command) (at : Located) (flag : Flag)
    (staged written : List ℕ) : Type 0 where
  pub new : VolumeView
  pub is : new ≡ told_view (sector_in (Some staged)) before.view.layout
  pub volume : IsVolumeOf staged new
  pub sound : IsSound new
  pub reading : read new ≡ (machine_behind before session command at).tree
  pub flag_there : IsFlagOf new flag
  pub agrees : AgreesButMark new flag staged written
  pub stored : (clusters records : List Bool) (upcase : List ℕ) → AreStored new clusters records upcase
      → AreStored (told_view (sector_in (Some written)) before.view.layout) clusters records upcase
  pub done : (next : State) → next.image ≡ written → IsVolumeOf written next.view
      → next.machine ≡ machine_behind before session command at → next.written ≤ before.written + most_written before command at.file new
      → EditDone facts before session command next × HasEmptyLog next.view
