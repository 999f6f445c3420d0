-- A FILE THAT WAS MADE UNDER A NAME, staged and written: what `create` or `mkdir` found, what it stages, and what it leaves.
use Rattle.std.specs.Prelude.{◌≡◌, ◌+◌, ◌*◌, ◌≤◌, ℕ, Bool, List, Contains, Ok, Some, length}
use Rattle.vol_disk.specs.Contents.{sector_in}
use Rattle.ntfs_def.specs.FileName.{FileName}
use Rattle.volume_def.specs.FileNames.{names_of}
use Rattle.volume_def.specs.Files.{records_of}
use Rattle.volume_def.specs.Sound.{IsSound, told_view}
use Rattle.volume_def.specs.View.{VolumeView}
use Rattle.mft_table.specs.HeldTables.{AreStored}
use Rattle.tree_model.specs.Effects.{after}
use Rattle.tree_model.specs.Facts.{IsVolumeOf, TellsFacts}
use Rattle.tree_model.specs.Reading.{read}
use Rattle.tree_model.specs.Refusals.{Facts, outcome}
use Rattle.tree_model.specs.Subjects.{Machine}
use Rattle.tree_model.specs.declared.tree.Node.{Node}
use Rattle.session_def.specs.Done.{EditDone, HasEmptyLog, first_cost}
use Rattle.session_def.specs.State.{Stands, State}
use Rattle.mark_write.specs.declared.flag.Flag.{Flag}
use Rattle.volume_mark.specs.Mark.{IsFlagOf}
use Rattle.volume_mark.specs.SameVolume.{AgreesButMark}
use Rattle.made_owed.specs.Comes.{CanMake}
use Rattle.made_owed.specs.Makes.{MakesUnder}
use Rattle.made_owed.specs.MadeOwed.{at_name, made_command, made_sectors}

-- THE COMMAND FOUND A DIRECTORY, which is this node, and a name that may come there. No name of the directory stands in a record that has a
-- copy.
pub record FindsPlace (directory : Bool) (facts : Facts) (before : State) (session : ℕ) (path : List (List ℕ)) (dir : ℕ) (units : List ℕ)
    (node : Node) : Type 0 where
  pub stands : Stands before
  pub told : TellsFacts before.view facts
  pub found : outcome facts before.machine session (made_command directory path) ≡ Ok (at_name dir units)
  pub can : CanMake before.view dir node units
  pub high : (name : FileName) → Contains (names_of (records_of before.view) dir) name → 4 ≤ name.parent.number

-- These bytes were staged: the volume that they tell has the file.
pub record StagesUnder (directory : Bool) (before : State) (dir : ℕ) (units : List ℕ) (node : Node) (made : ℕ) (staged : List ℕ)
    : Type 0 where
  pub long : length staged ≡ length before.image
  pub makes : MakesUnder directory before.view (told_view (sector_in (Some staged)) before.view.layout) before.machine.tree
      before.machine.now dir units node made

-- the machine behind the command
abbrev pub machine_made : Bool → State → ℕ → List (List ℕ) → ℕ → List ℕ → ℕ → Machine
machine_made directory before session path dir units made =
    after before.machine session (made_command directory path) (at_name dir units) made

-- how many sectors it may write at most: the mark, the log, those of the file, and for the directory records with their copies, and twelve
-- for each of its names
abbrev pub most_made : State → ℕ → ℕ
most_made before dir = first_cost before.view + made_sectors + 12 + 12 * length (names_of (records_of before.view) dir)

-- WHAT IT LEAVES: a sound volume was staged that reads as the machine's tree, and what was written of it is all that an edit that was done
-- leaves.
pub record LeavesMade (directory : Bool) (facts : Facts) (before : State) (session : ℕ) (path : List (List ℕ)) (dir : ℕ) (units : List ℕ)
    (made : ℕ) (flag : Flag) (staged written : List ℕ) : Type 0 where
  pub new : VolumeView
  pub is : new ≡ told_view (sector_in (Some staged)) before.view.layout
  pub volume : IsVolumeOf staged new
  pub sound : IsSound new
  pub reading : read new ≡ (machine_made directory before session path dir units made).tree
  pub flag_there : IsFlagOf new flag
  pub agrees : AgreesButMark new flag staged written
  pub stored : (clusters records : List Bool) (upcase : List ℕ) → AreStored new clusters records upcase
      → AreStored (told_view (sector_in (Some written)) before.view.layout) clusters records upcase
  pub done : (next : State) → next.image ≡ written → IsVolumeOf written next.view
      → next.machine ≡ machine_made directory before session path dir units made → next.written ≤ before.written + most_made before dir
      → EditDone facts before session (made_command directory path) next × HasEmptyLog next.view
