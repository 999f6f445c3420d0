-- AN EDIT IS THAT OF A COMMAND: what it finds or refuses is what is due, and what it stages leaves all that the command is to leave.
use Rattle.std.proofs.Common.{◌≡◌, ◌≤◌, ◌+◌, ℕ, true, Bool, List, length, Some, Ok, Err, inl, refl, sym, ap, ◌∙◌}
use Rattle.std.specs.Prelude.{IsTrue}
use Rattle.vol_disk.specs.Contents.{sector_in}
use Rattle.volume_def.specs.Sound.{IsSound, told_view}
use Rattle.volume_def.specs.View.{VolumeView}
use Rattle.mft_table.specs.HeldTables.{AreStored}
use Rattle.tree_model.specs.Answers.{answer_of}
use Rattle.tree_model.specs.Effects.{after}
use Rattle.tree_model.specs.Facts.{IsVolumeOf, TellsFacts}
use Rattle.tree_model.specs.Reading.{read}
use Rattle.tree_model.specs.Refusals.{Facts, is_edit, outcome}
use Rattle.tree_model.specs.Step.{Step, answered, due, reply_of}
use Rattle.tree_model.specs.Subjects.{Located, Machine}
use Rattle.tree_model.specs.declared.command.Command.{Command}
use Rattle.tree_model.specs.declared.opens.OpenEntry.{OpenEntry}
use Rattle.tree_model.specs.declared.reply.Answer.TheVariants as a
use Rattle.tree_model.specs.declared.reply.No.{No}
use Rattle.tree_model.specs.declared.reply.Reply.TheVariants as reply
use Rattle.session_def.specs.Done.{EditDone, HasEmptyLog, first_cost}
use Rattle.session_def.specs.Session.{is_due_edit}
use Rattle.session_def.specs.State.{Stands, State}
use Rattle.mark_write.specs.declared.flag.Flag.{Flag}
use Rattle.mark_write.specs.declared.log.Span.{Span}
use Rattle.volume_mark.specs.Mark.{IsFlagOf}
use Rattle.volume_mark.specs.SameVolume.{AgreesButMark}
use Rattle.made_done.specs.Below.{IsFinished, IsPlaceOf}
use Rattle.made_done.specs.Written.{SetsShown}
use Rattle.tree_ops.specs.Edits.{EditOf}
use Rattle.tree_ops.specs.Wanted.{machine_on}

-- a run that stands on a volume, with these opens and at this moment
abbrev pub state_with : List ℕ → VolumeView → List OpenEntry → ℕ → ℕ → State
state_with image v opens now written = record { image = image; view = v; machine = machine_on v opens now; written = written }

-- the words of the command lead there, and nothing refuses it
pub record IsLed (facts : Facts) (m : Machine) (session : ℕ) (command : Command) : Type 0 where
  pub at : Located
  pub is : outcome facts m session command ≡ Ok at

-- WHAT IS LEFT of an edit that was staged and written, where the file that it makes, if it makes one, has this number: `new`, which was
-- staged, is a sound volume that reads as the machine's tree; and what was written of it is all that an edit leaves that was done, where so
-- many sectors were written, those of the first mark, and two.
pub record LeavesSo (facts : Facts) (before : State) (session : ℕ) (command : Command) (at : Located) (made most : ℕ) (new : VolumeView)
    (flag : Flag) (staged written : List ℕ) : Type 0 where
  pub volume : IsVolumeOf staged new
  pub sound : IsSound new
  pub reading : read new ≡ (after before.machine session command at made).tree
  pub flag_there : IsFlagOf new flag
  pub agrees : AgreesButMark new flag staged written
  pub stored : (clusters records : List Bool) (upcase : List ℕ) → AreStored new clusters records upcase
      → AreStored (told_view (sector_in (Some written)) before.view.layout) clusters records upcase
  pub done : (next : State) → next.image ≡ written → IsVolumeOf written next.view
      → next.machine ≡ after before.machine session command at made → next.written ≤ before.written + (first_cost before.view + 2 + most)
      → EditDone facts before session command next × HasEmptyLog next.view

-- THE VOLUME `new` WAS STAGED, and is written behind the mark: from any bytes in which a run stands, that is left.
pub record IsDoneBy (facts : Facts) (v : VolumeView) (opens : List OpenEntry) (now session : ℕ) (command : Command) (at : Located)
    (most : ℕ) (new : VolumeView) : Type 0 where
  pub made : ℕ
  pub leaves : (image : List ℕ) (count : ℕ) → Stands (state_with image v opens now count) → SetsShown command
      → (flag : Flag) (marked : Bool) (spans : List Span) (staged written : List ℕ) → length staged ≡ length image
      → new ≡ told_view (sector_in (Some staged)) v.layout → IsPlaceOf v image flag marked spans
      → IsFinished flag marked spans staged written
      → LeavesSo facts (state_with image v opens now count) session command at made most new flag staged written

pub record IsEditBy (v : VolumeView) (opens : List OpenEntry) (now session : ℕ) (command : Command) (edit : EditOf) : Type 0 where
  pub is : is_edit command ≡ true
  pub found : IsTrue v.told → IsSound v → (facts : Facts) → TellsFacts v facts → (file : ℕ) → edit.wanted v ≡ Ok file
      → IsLed facts (machine_on v opens now) session command
  pub refused : IsTrue v.told → IsSound v → (facts : Facts) → TellsFacts v facts → (why : No) → edit.wanted v ≡ Err why
      → due facts (machine_on v opens now) session command ≡ Err why
  pub answers : (facts : Facts) (at : Located) → answer_of facts (machine_on v opens now) session command at ≡ a.Done
  pub does : (told : IsTrue v.told) → (sound : IsSound v) → (facts : Facts) → (tells : TellsFacts v facts) → (file : ℕ)
      → (is : edit.wanted v ≡ Ok file) → (new : VolumeView) → edit.Does v new file
      → IsDoneBy facts v opens now session command (found told sound facts tells file is).at (edit.most v new file) new
  pub opens_stay : (at : Located) (made : ℕ) → (after (machine_on v opens now) session command at made).opens ≡ opens
  pub moment_stays : (at : Located) (made : ℕ) → (after (machine_on v opens now) session command at made).now ≡ now

-- WHAT IS DUE is that it is done, where its words lead somewhere.
module _ (v : VolumeView) (opens : List OpenEntry) (now session : ℕ) (command : Command) (edit : EditOf)
    (by : IsEditBy v opens now session command edit) (facts : Facts) where
  abbrev m : Machine
  m = machine_on v opens now

  found-due : IsLed facts m session command → due facts m session command ≡ Ok a.Done
  unfolding due
  found-due x = ap (answered facts m session command) x.is ∙ ap Ok (by.answers facts x.at)

  pub found-due-edit : IsLed facts m session command → is_due_edit facts m (Ok (session, command)) ≡ true
  found-due-edit x = let d = found-due x in let e = by.is in rw (d, e) refl

  -- and what was done is a step
  pub done-step : (image : List ℕ) (count : ℕ) (next : State) → IsLed facts m session command
      → EditDone facts (state_with image v opens now count) session command next
      → Step facts m session command (reply.Ok a.Done) next.machine
  done-step image count next x done = record {
    replied = inl (sym (ap reply_of (found-due x)));
    moved = record { at = done.at; found = done.found; file = done.made; fresh = done.fresh; moved = done.moved };
  }
