-- WHAT A COMMAND LEAVES, by what its calls give: where nothing was written, where an edit was done, and where the disk failed.
use Rattle.std.proofs.Common.{◌≡◌, ◌≢◌, ◌⊎◌, ◌||◌, ◌*◌, ℕ, Bool, true, false, List, length, Option, Some, None, Result, Ok, Err, inl, inr}
use Rattle.std.proofs.Common.{refl, sym, ap, subst, ◌∙◌}
use Rattle.std.specs.Prelude.{IfSome, IsTrue, OnErr, OnOk, is_some}
use Rattle.vol_disk.specs.Contents.{sector_in}
use Rattle.vol_disk.specs.Count.{Rose}
use Rattle.vol_disk.specs.declared.Disk.{Ghosts}
use Rattle.vol_stage.specs.Staged.{GoesOn}
use Rattle.volume_def.specs.View.{VolumeView}
use Rattle.mft_table.specs.Mft.{stage_of}
use Rattle.tree_model.specs.Facts.{TellsFacts}
use Rattle.tree_model.specs.Refusals.{Facts, is_edit}
use Rattle.tree_model.specs.Step.{Step}
use Rattle.tree_model.specs.Subjects.{Machine}
use Rattle.tree_model.specs.Tree.{Tree}
use Rattle.tree_model.specs.declared.command.Command.{Command}
use Rattle.tree_model.specs.declared.opens.OpenEntry.{OpenEntry}
use Rattle.tree_model.specs.declared.reply.Answer.TheVariants as a
use Rattle.tree_model.specs.declared.reply.No.{No}
use Rattle.tree_model.specs.declared.reply.Reply.{Reply}
use Rattle.tree_model.specs.declared.reply.Reply.TheVariants as reply
use Rattle.tree_model.specs.Reading.{read}
use Rattle.tree_model.proofs.HasFacts.{has_facts}
use Rattle.session_def.specs.Session.{is_done_edit, is_due_edit}
use Rattle.session_def.specs.State.{State}
use Rattle.mark_write.specs.Flags.{IsSafe}
use Rattle.mark_write.specs.declared.flag.Flag.{Flag}
use Rattle.share_table.specs.Held.{HoldsOpens}
use Rattle.volume_mark.specs.Closing.{MarkStands}
use Rattle.volume_mark.specs.Mark.{IsFlagOf}
use Rattle.tree_read.specs.Standings.{IsStanding}
use Rattle.tree_read.specs.Answered.{Counts}
use Rattle.tree_read.specs.declared.stop.Stop.{Stop}
use Rattle.tree_read.specs.declared.stop.Stop.TheVariants as stop
use Rattle.made_done.specs.Written.{SetsShown}
use Rattle.tree_ops.specs.Edits.{EditOf, EditsFile, EndsAs, FailsWriting, IsPlaceBy, IsRefusedAs, MftStill}
use Rattle.tree_ops.specs.Replies.{Replies, edit_reply}
use Rattle.tree_ops.specs.declared.place.MarkPlace.{MarkPlace}
use Rattle.tree_ops.specs.Runs.{Applied, Failed, Ready, machine_under}
use Rattle.tree_ops.specs.Serves.{Serves}
use Rattle.tree_ops.specs.Volumes.{disk_under, mark_of, moment_of, opens_of, view_under}
use Rattle.tree_ops.specs.Wanted.{machine_on}
use Rattle.tree_ops.specs.declared.volume.Volume.{Volume}
use Rattle.tree_ops.proofs.EditedVolume.{harmed-edit}
use Rattle.tree_ops.proofs.ImageLaws.{some-bytes}
use Rattle.tree_ops.proofs.PlaceLaws.{place-flag}
use Rattle.tree_ops.proofs.SessionLaws.{refused-step}
use Rattle.tree_ops.proofs.EditBy.{IsEditBy, found-due-edit}
use Rattle.tree_ops.proofs.EditServes.{serves-done}
use Rattle.tree_ops.proofs.EditVolume.{applied-done, state_on}
use Rattle.tree_ops.proofs.StillLaws.{still-view}
use Rattle.tree_ops.proofs.VolumeLaws.{applied-still, failed-still, marks-same, serves-behind, volume-goes, volume-still}

-- NOTHING WAS WRITTEN, and the command was no edit that was done.
pub replies-still : {D : Type 0} (g : Ghosts D) (old new : Volume D g) (session : ℕ) (command : Command) (given : Reply)
    → given ≢ reply.Device → is_done_edit (Ok (session, command)) given ≡ false → Serves g old → MftStill g old.mft new.mft
    → new.mark ≡ old.mark → (IsTrue (view_under g old).told → IfSome new.last (IsStanding (view_under g old)))
    → (IsTrue (view_under g new).told → HoldsOpens (machine_under g new))
    → (IsTrue (view_under g old).told → (facts : Facts) → TellsFacts (view_under g old) facts
    → Step facts (machine_under g old) session command given (machine_on (view_under g old) (opens_of g new) (moment_of g new)))
    → g.faults (disk_under g new) ≡ g.faults (disk_under g old) → Replies g old new session command given
replies-still g old new session command given answered none serves still mark last held steps quiet =
    let kept = volume-still g old new still mark in
    record {
      serves = λ a. serves-behind g old new still mark serves last held;
      goes_on = volume-goes g old new still.keeps.goes_on;
      settled = still.keeps.settled;
      still = λ a e. kept;
      marks = λ a. ap (λ (o : Option Flag). is_some o) mark ∙ marks-same (is_some (mark_of g old))
          (is_done_edit (Ok (session, command)) given) none;
      applied = λ a first before r. applied-still g first old new before session command given none kept r steps;
      failed = λ e. absurd (answered e);
      quiet = λ a. quiet;
      device = λ e. absurd (answered e);
    }

-- THE DISK FAILED.
pub replies-failed : {D : Type 0} (g : Ghosts D) (old new : Volume D g) (session : ℕ) (command : Command)
    → GoesOn g (stage_of g old.mft) (stage_of g new.mft) → g.settled (disk_under g new) ≡ g.settled (disk_under g old)
    → Rose (g.faults (disk_under g old)) (g.faults (disk_under g new))
    → ((first : VolumeView) (before : State) → Ready g first old before → Failed g first before session command new)
    → Replies g old new session command reply.Device
replies-failed g old new session command goes settled rose failed = record {
  serves = λ a. absurd (a refl);
  goes_on = volume-goes g old new goes;
  settled = settled;
  still = λ a. absurd (a refl);
  marks = λ a. absurd (a refl);
  applied = λ a. absurd (a refl);
  failed = λ e first before r. failed first before r;
  quiet = λ a. absurd (a refl);
  device = λ e. rose;
}

-- the same command, said otherwise
pub replies-of : {D : Type 0} (g : Ghosts D) (old new : Volume D g) (session : ℕ) (command other : Command) (given : Reply) → command
    ≡ other
    → Replies g old new session other given → Replies g old new session command given
replies-of g old new session command other given same replies = subst (λ said. Replies g old new session said given) (sym same) replies

-- the machine, where its parts are the same
abbrev machine_by : Tree → List OpenEntry → ℕ → Machine
machine_by tree opens now = record { tree = tree; opens = opens; now = now }

pub machine-same : {D : Type 0} (g : Ghosts D) (old new : Volume D g) → view_under g new ≡ view_under g old
    → opens_of g new ≡ opens_of g old → moment_of g new ≡ moment_of g old → machine_under g new ≡ machine_under g old
machine-same g old new view opens moment =
    ap (λ (v : VolumeView). machine_by (read v) (opens_of g new) (moment_of g new)) view
    ∙ ap (λ o. machine_by (read (view_under g old)) o (moment_of g new)) opens
    ∙ ap (λ t. machine_by (read (view_under g old)) (opens_of g old) t) moment

-- the state of a run that stands on the volume
abbrev state_by : List ℕ → VolumeView → Machine → ℕ → State
state_by image view machine written = record { image = image; view = view; machine = machine; written = written }

pub state-is : {D : Type 0} (g : Ghosts D) (first : VolumeView) (old : Volume D g) (before : State) → Ready g first old before
    → before ≡ state_on g old before.image
state-is g first old before r =
    ap (λ v. state_by before.image v before.machine before.written) (sym r.view)
    ∙ ap (λ m. state_by before.image (view_under g old) m before.written) r.machine
    ∙ ap (λ n. state_by before.image (view_under g old) (machine_under g old) n) (sym r.written)

-- AN EDIT
module _ {D : Type 0} (g : Ghosts D) (sized : (disk : D) → IfSome (g.now disk) (λ all. length all ≡ 512 * g.size disk))
    (old new : Volume D g) (session : ℕ) (command : Command) (edit : EditOf) (shown : SetsShown command)
    (by : IsEditBy (view_under g old) (opens_of g old) (moment_of g old) session command edit) (serves : Serves g old)
    (opens : opens_of g new ≡ opens_of g old) (moment : moment_of g new ≡ moment_of g old) where
  facts-told : (first : VolumeView) (before : State) → Ready g first old before → (facts : Facts) × TellsFacts (view_under g old) facts
  facts-told first before r =
      let f = has_facts before.view r.stands.sound in
      (f.0, subst (λ v. TellsFacts v f.0) (sym r.view) f.1)

  -- was done
  replies-done : (s : EditsFile g old.mft new.mft (mark_of g old) edit) → mark_of g new ≡ Some s.place.flag
      → new.last ≡ None → GoesOn g (stage_of g old.mft) (stage_of g new.mft) → g.settled (disk_under g new) ≡ g.settled (disk_under g old)
      → g.faults (disk_under g new) ≡ g.faults (disk_under g old) → Replies g old new session command (reply.Ok a.Done)
  replies-done s mark last goes settled quiet = record {
    serves = λ answered. serves-done g sized old new session command edit shown by serves.can s serves opens moment mark last;
    goes_on = volume-goes g old new goes;
    settled = settled;
    still = λ answered e. let t = by.is in cc;
    marks = λ answered. ap (λ (o : Option Flag). is_some o) mark ∙ marked (is_some (mark_of g old)) (is_edit command) by.is;
    applied = λ answered first before r.
        let f = facts-told first before r in
        let same = state-is g first old before r in
        subst (λ b. Applied g first b session command (reply.Ok a.Done) new) (sym same)
        (applied-done g sized old new session command edit shown by serves.can s f.0 before.image r.now f.1 opens moment mark first
        (subst (λ b. Ready g first old b) same r));
    failed = λ e. cc;
    quiet = λ answered. quiet;
    device = λ e. cc;
  }
    where
      marked : (b is : Bool) → is ≡ true → true ≡ (b || is)
      marked true is e = refl
      marked false is e = sym e

  -- was refused
  replies-refused : (refused : No) → MftStill g old.mft new.mft → new.mark ≡ old.mark → IsRefusedAs g old.mft edit refused
      → (IsTrue (view_under g old).told → IfSome new.last (IsStanding (view_under g old)))
      → g.faults (disk_under g new) ≡ g.faults (disk_under g old) → Replies g old new session command (reply.No refused)
  replies-refused refused still mark why last quiet =
      replies-still g old new session command (reply.No refused) (λ e. cc) refl serves still mark last
      (λ t. subst HoldsOpens (sym (machine-same g old new (still-view g old.mft new.mft still) opens moment))
      (serves.held (subst (λ (v : VolumeView). IsTrue v.told) (still-view g old.mft new.mft still) t)))
      (λ t facts tells.
      subst (λ o. Step facts (machine_under g old) session command (reply.No refused)
      (machine_on (view_under g old) o (moment_of g new))) (sym opens)
      (subst (λ n. Step facts (machine_under g old) session command (reply.No refused)
      (machine_on (view_under g old) (opens_of g old) n)) (sym moment)
      (refused-step facts (machine_under g old) session command refused (elim (why t) [
        | inl due_so ↦ inl (by.refused t (serves.can.in_use t).sound facts tells refused due_so)
        | inr memory ↦ inr memory
      ]))))
      quiet

  -- was cut short by the disk
  flag-first : (place : MarkPlace) (mark : Option Flag) → (first : VolumeView) (before : State) → IsTrue (view_under g old).told
      → view_under g old ≡ before.view
      → MarkStands first before mark → IsPlaceBy g old.mft mark place → IsFlagOf first place.flag
  flag-first place None first before t view m by = subst (λ w. IsFlagOf w place.flag) (view ∙ m.0) (by.flag t)
  flag-first place (Some f) first before t view m by = subst (IsFlagOf first) (sym by.same) m.of_first

  fails-writing : FailsWriting g old.mft new.mft (mark_of g old) edit → GoesOn g (stage_of g old.mft) (stage_of g new.mft)
      → (first : VolumeView) (before : State) → Ready g first old before → Failed g first before session command new
  fails-writing fails goes first before r =
      let told : IsTrue (view_under g old).told = ap (λ (o : Option (List ℕ)). is_some o) (serves.can.clear.tells ∙ r.now) in
      let bytes = some-bytes (g.now (disk_under g new)) (goes.told ∙ ap (λ (o : Option (List ℕ)). is_some o) r.now) in
      let long =
      subst (λ o. IfSome o (λ (all : List ℕ). length all ≡ 512 * g.size (disk_under g new))) bytes.1 (sized (disk_under g new))
      ∙ ap (λ n. 512 * n) goes.size
      ∙ sym (subst (λ o. IfSome o (λ (all : List ℕ). length all ≡ 512 * g.size (disk_under g old))) r.now (sized (disk_under g old))) in
      record {
        harmed =
            harmed-edit g first old new before fails.place.flag bytes.0 r
            (subst (λ v. IsFlagOf v fails.place.flag) r.view
            (place-flag g old.mft fails.place told (mark_of g old) serves.can fails.placed.by_mark))
            (flag-first fails.place (mark_of g old) first before told r.view r.mark fails.placed.by_mark)
            bytes.1 long
            (subst (λ o. IsSafe fails.place.flag (sector_in o) (sector_in (Some bytes.0))) r.now
            (subst (λ o. IsSafe fails.place.flag (sector_in (g.now (disk_under g old))) (sector_in o)) bytes.1 (fails.safe told)));
        same = λ facts tells none.
            let here : TellsFacts (view_under g old) facts = subst (λ v. TellsFacts v facts) (sym r.view) tells in
            let due : is_due_edit facts (machine_under g old) (Ok (session, command)) ≡ true =
            found-due-edit (view_under g old) (opens_of g old) (moment_of g old) session command edit by facts
            (by.found told (serves.can.in_use told).sound facts here fails.file (fails.leads told)) in
            let wrong : is_due_edit facts (machine_under g old) (Ok (session, command)) ≡ false =
            subst (λ m. is_due_edit facts m (Ok (session, command)) ≡ false) r.machine none in
            cc;
      }

  replies-device : (g.now (disk_under g new) ≡ g.now (disk_under g old)) ⊎ FailsWriting g old.mft new.mft (mark_of g old) edit
      → GoesOn g (stage_of g old.mft) (stage_of g new.mft) → g.settled (disk_under g new) ≡ g.settled (disk_under g old)
      → Rose (g.faults (disk_under g old)) (g.faults (disk_under g new)) → Replies g old new session command reply.Device
  replies-device how goes settled rose =
      replies-failed g old new session command goes settled rose (λ first before r. elim how [
        | inl same ↦ failed-still g first old new before session command same r
        | inr fails ↦ fails-writing fails goes first before r
      ])

  -- HOWEVER IT ENDED
  pub replies-edit : {A : Type 0} (result : Result A Stop) → EndsAs g old.mft new.mft (mark_of g old) (mark_of g new) edit result
      → OnErr result (IsTrue (view_under g old).told → IfSome new.last (IsStanding (view_under g old))) → OnOk result (new.last ≡ None)
      → GoesOn g (stage_of g old.mft) (stage_of g new.mft) → g.settled (disk_under g new) ≡ g.settled (disk_under g old)
      → Counts result (g.faults (disk_under g old)) (g.faults (disk_under g new))
      → Replies g old new session command (edit_reply result)
  replies-edit (Ok done) ends last forgets goes settled counts = replies-done ends.0 ends.1 forgets goes settled counts
  replies-edit (Err (stop.No refused)) ends last forgets goes settled counts =
      replies-refused refused ends.0 ends.1 ends.2 last counts
  replies-edit (Err stop.Device) ends last forgets goes settled counts = replies-device ends goes settled counts
