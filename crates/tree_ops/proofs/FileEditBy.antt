-- AN EDIT OF A FILE that is there, in place or of one stream of it, is that of a command: what it does is what the command stages.
use Rattle.std.proofs.Common.{◌≡◌, ◌≤◌, ◌+◌, ◌*◌, ◌/◌, ℕ, true, Bool, List, length, Option, Some, None, Ok, Err, refl, sym, ap, subst}
use Rattle.std.proofs.Common.{◌∙◌, arith}
use Rattle.std.specs.Prelude.{Contains, IsTrue}
use Rattle.std.specs.Option.{option_map_or}
use Rattle.vol_disk.specs.Contents.{sector_in}
use Rattle.ntfs_def.specs.FileName.{FileName}
use Rattle.volume_def.specs.FileNames.{names_of}
use Rattle.volume_def.specs.Files.{records_of}
use Rattle.volume_def.specs.Sound.{told_view}
use Rattle.volume_def.specs.View.{VolumeView}
use Rattle.tree_model.specs.Answers.{answer_of, node_answer}
use Rattle.tree_model.specs.Effects.{after}
use Rattle.tree_model.specs.Facts.{TellsFacts}
use Rattle.tree_model.specs.Refusals.{Facts, is_edit, outcome}
use Rattle.tree_model.specs.Step.{due}
use Rattle.tree_model.specs.Subjects.{Located, Machine}
use Rattle.tree_model.specs.declared.command.Command.{Command}
use Rattle.tree_model.specs.declared.command.Command.TheVariants as c
use Rattle.tree_model.specs.declared.opens.OpenEntry.{OpenEntry}
use Rattle.tree_model.specs.declared.reply.Answer.{Answer}
use Rattle.tree_model.specs.declared.reply.Answer.TheVariants as a
use Rattle.tree_model.specs.declared.reply.No.{No}
use Rattle.tree_model.specs.declared.tree.Node.{Node}
use Rattle.session_def.specs.Cost.{bytes_in, given_back}
use Rattle.session_def.specs.State.{Stands, State}
use Rattle.mark_write.specs.declared.flag.Flag.{Flag}
use Rattle.mark_write.specs.declared.log.Span.{Span}
use Rattle.made_done.specs.Below.{CanSet, IsFinished, IsPlaceOf}
use Rattle.made_done.specs.Written.{FindsFile, LeavesEdit, SetsShown, Stages, is_done}
use Rattle.made_done.proofs.InPlaceDoneLeaves.{leaves}
use Rattle.tree_ops.specs.Edits.{EditOf}
use Rattle.tree_ops.specs.Wanted.{machine_on}
use Rattle.tree_ops.proofs.EditBy.{IsEditBy, LeavesSo, state_with}

-- the words of the command lead to this file
pub record LeadsToFile (facts : Facts) (m : Machine) (session : ℕ) (command : Command) (file : ℕ) : Type 0 where
  pub at : Located
  pub is : outcome facts m session command ≡ Ok at
  pub file_is : at.file ≡ file

-- What was staged is what the command stages of a file that is this node, and can be edited.
pub record StagesFile (v : VolumeView) (opens : List OpenEntry) (now : ℕ) (command : Command) (at : Located) (file : ℕ) (new : VolumeView)
    : Type 0 where
  pub node : Node
  pub can : CanSet v file node
  pub high : (name : FileName) → Contains (names_of (records_of v) file) name → 4 ≤ name.parent.number
  pub stages : (image : List ℕ) (written : ℕ) → Stages (state_with image v opens now written) command at file node new

pub record IsFileEditBy (v : VolumeView) (opens : List OpenEntry) (now session : ℕ) (command : Command) (edit : EditOf) : Type 0 where
  pub edits : is_done command ≡ true
  pub is : is_edit command ≡ true
  pub found : IsTrue v.told → (facts : Facts) → TellsFacts v facts → (file : ℕ) → edit.wanted v ≡ Ok file
      → LeadsToFile facts (machine_on v opens now) session command file
  pub refused : IsTrue v.told → (facts : Facts) → TellsFacts v facts → (why : No) → edit.wanted v ≡ Err why
      → due facts (machine_on v opens now) session command ≡ Err why
  pub stages : (told : IsTrue v.told) → (facts : Facts) → (tells : TellsFacts v facts) → (file : ℕ) → (is : edit.wanted v ≡ Ok file)
      → (new : VolumeView) → edit.Does v new file → StagesFile v opens now command (found told facts tells file is).at file new
  pub opens_stay : (at : Located) → (after (machine_on v opens now) session command at 0).opens ≡ opens
  pub moment_stays : (at : Located) → (after (machine_on v opens now) session command at 0).now ≡ now
  pub few : (new : VolumeView) (file : ℕ) → edit.most v new file + 2
      ≤ 24 + 12 * length (names_of (records_of v) file) + bytes_in command / 512 + 2 * given_back v new + 2 * given_back new v

-- IT ANSWERS that it is done.
answers-done : (facts : Facts) (m : Machine) (session : ℕ) (command : Command) (at : Located) → is_done command ≡ true
    → answer_of facts m session command at ≡ a.Done
unfolding answer_of
answers-done facts m session command at is = by command is
  where
    alike : (f : Node → Answer) → ((node : Node) → f node ≡ a.Done) → (o : Option Node) → option_map_or f o a.Done ≡ a.Done
    alike f done None = refl
    alike f done (Some node) = done node

    by : (command : Command) → is_done command ≡ true → answer_of facts m session command at ≡ a.Done
    by (c.Setattr path flags) is = alike (node_answer m.tree (c.Setattr path flags) at.file) (λ node. refl) at.node
    by (c.Write path stream from bytes) is = alike (node_answer m.tree (c.Write path stream from bytes) at.file) (λ node. refl) at.node
    by (c.Hwrite handle from bytes) is = alike (node_answer m.tree (c.Hwrite handle from bytes) at.file) (λ node. refl) at.node
    by (c.Truncate path stream size) is = alike (node_answer m.tree (c.Truncate path stream size) at.file) (λ node. refl) at.node
    by (c.Punch path stream from len) is = alike (node_answer m.tree (c.Punch path stream from len) at.file) (λ node. refl) at.node
    by (c.Rmstream path name) is = alike (node_answer m.tree (c.Rmstream path name) at.file) (λ node. refl) at.node
    by (c.Setsec path id) is = alike (node_answer m.tree (c.Setsec path id) at.file) (λ node. refl) at.node
    by other is = cc

-- WHAT IT LEAVES, staged and written.
module _ (facts : Facts) (v : VolumeView) (opens : List OpenEntry) (now session : ℕ) (command : Command) (edit : EditOf)
    (by : IsFileEditBy v opens now session command edit) (tells : TellsFacts v facts) (file : ℕ)
    (led : LeadsToFile facts (machine_on v opens now) session command file) (new : VolumeView)
    (s : StagesFile v opens now command led.at file new) (image : List ℕ) (count : ℕ) (stands : Stands (state_with image v opens now count))
    (shown : SetsShown command) (flag : Flag) (marked : Bool) (spans : List Span) (staged written : List ℕ)
    (long : length staged ≡ length image) (is : new ≡ told_view (sector_in (Some staged)) v.layout)
    (place : IsPlaceOf v image flag marked spans) (finished : IsFinished flag marked spans staged written) where
  abbrev state : State
  state = state_with image v opens now count

  finds : FindsFile facts state session command file s.node
  finds = record {
    stands = stands;
    told = tells;
    edits = by.edits;
    at = led.at;
    found = led.is;
    file = led.file_is;
    can = s.can;
    shown = shown;
    high = s.high;
  }

  left : LeavesEdit facts state session command led.at flag staged written
  unfolding finds
  left =
      leaves facts state session command file s.node flag marked spans staged written finds
      (record { long = long; stages = subst (λ w. Stages state command led.at file s.node w) is (s.stages image count) })
      place finished

  file-left : LeavesSo facts state session command led.at 0 (edit.most v new file) new flag staged written
  file-left = subst (λ w. LeavesSo facts state session command led.at 0 (edit.most v new file) w flag staged written)
      (left.is ∙ sym is) (record {
        volume = left.volume;
        sound = left.sound;
        reading = left.reading;
        flag_there = left.flag_there;
        agrees = left.agrees;
        stored = left.stored;
        done = λ next image_is volume moved wrote. left.done next image_is volume moved
            (let few = by.few new file in
            let same = ap (λ w. 2 * given_back v w + 2 * given_back w v) (left.is ∙ sym is) in
            let names = ap (λ n. length (names_of (records_of v) n)) led.file_is in
            omega (arith, wrote, few, same, names));
      })

-- SO IT IS THAT OF THE COMMAND.
pub file-edit : {v : VolumeView} {opens : List OpenEntry} {now session : ℕ} {command : Command} {edit : EditOf}
    → IsFileEditBy v opens now session command edit → IsEditBy v opens now session command edit
file-edit {v = v} {opens = opens} {now = now} {session = session} {command = command} {edit = edit} by = record {
  is = by.is;
  found = λ told sound facts tells file is. let led = by.found told facts tells file is in record { at = led.at; is = led.is };
  refused = λ told sound. by.refused told;
  answers = λ facts at. answers-done facts (machine_on v opens now) session command at by.edits;
  does = λ told sound facts tells file is new does. record {
    made = 0;
    leaves = λ image count stands shown flag marked spans staged written long same place finished.
        file-left facts v opens now session command edit by tells file (by.found told facts tells file is) new
        (by.stages told facts tells file is new does) image count stands shown flag marked spans staged written long same place finished;
  };
  opens_stay = λ at made. by.opens_stay at;
  moment_stays = λ at made. by.moment_stays at;
}
