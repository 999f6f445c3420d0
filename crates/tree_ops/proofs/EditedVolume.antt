-- A volume behind an edit that was written, one whose disk failed within an edit, and one that was closed: what the calls that write
-- say of bytes gives what every command promises.
use Rattle.std.proofs.Common.{◌≡◌, ◌≤◌, ◌+◌, ℕ, true, List, [], ◌∷◌, ◌++◌, length, Option, Some, None, Ok, refl, sym, ap, subst, ◌∙◌}
use Rattle.std.specs.Prelude.{◌*◌, IfSome, is_some}
use Rattle.vol_disk.specs.Contents.{map_told, sector_in, settled_more}
use Rattle.vol_disk.specs.declared.Disk.{Ghosts}
use Rattle.volume_def.specs.Sound.{IsSound, told_view}
use Rattle.volume_def.specs.View.{VolumeView}
use Rattle.tree_model.specs.Facts.{IsVolumeOf, TellsFacts}
use Rattle.tree_model.specs.Reading.{read}
use Rattle.tree_model.specs.Refusals.{Facts}
use Rattle.session_def.specs.Done.{EditDone, HasEmptyLog}
use Rattle.session_def.specs.State.{State}
use Rattle.session_def.specs.Session.{is_done_edit}
use Rattle.tree_model.specs.Step.{Step}
use Rattle.tree_model.specs.Subjects.{Machine}
use Rattle.tree_model.specs.declared.command.Command.{Command}
use Rattle.tree_model.specs.declared.reply.Answer.{Answer}
use Rattle.tree_model.specs.declared.reply.Reply.TheVariants as reply
use Rattle.mark_write.specs.declared.flag.Flag.{Flag}
use Rattle.volume_mark.specs.Closing.{Closes, CountsClosing, IsMarkedBy, MarkStands}
use Rattle.mark_write.specs.Flags.{ClearsTo, IsSafe, IsSet, cleared_sector}
use Rattle.volume_mark.specs.Mark.{IsFlagOf, IsHarmed}
use Rattle.volume_mark.specs.SameVolume.{AgreesButMark, IsSameVolume}
use Rattle.volume_mark.proofs.ClearedLaws.{harmed-safe}
use Rattle.volume_mark.proofs.EditedLaws.{edited-marked, edited-stands, edited-state}
use Rattle.volume_mark.proofs.MarkLaws.{closes-sound, mark-law}
use Rattle.tree_ops.proofs.ImageLaws.{some-bytes}
use Rattle.tree_ops.specs.declared.volume.Volume.{Volume}
use Rattle.tree_ops.specs.Runs.{Applied, Closed, Ready, machine_under}
use Rattle.tree_ops.specs.Volumes.{disk_under, mark_of, view_under}

-- AN EDIT THAT WAS DONE. It was staged: `staged` is a sound volume that reads as the tree of the machine's next state, with the flag
-- where it was. It was written: the disk holds the staged bytes, but for the mark, which is set, and the log.
pub applied-edit : {D : Type 0} (g : Ghosts D) (first : VolumeView) (new : Volume D g) (before : State) (session : ℕ) (command : Command)
    (answer : Answer) (flag : Flag) (staged written : List ℕ) (v : VolumeView) (next : Machine) (facts : Facts) (count : ℕ)
    → TellsFacts before.view facts → Step facts before.machine session command (reply.Ok answer) next
    → is_done_edit (Ok (session, command)) (reply.Ok answer) ≡ true
    → IsVolumeOf staged v → IsSound v → read v ≡ next.tree → IsFlagOf v flag → IsFlagOf first flag
    → AgreesButMark v flag staged written → IsSet flag (sector_in (Some written))
    → g.now (disk_under g new) ≡ Some written → view_under g new ≡ told_view (sector_in (Some written)) v.layout
    → machine_under g new ≡ next → mark_of g new ≡ Some flag → g.written (disk_under g new) ≡ count
    → ((after : State) → after.image ≡ written → after.machine ≡ next → after.written ≡ count → IsVolumeOf written after.view
    → EditDone facts before session command after × HasEmptyLog after.view)
    → Applied g first before session command (reply.Ok answer) new
applied-edit g first new before session command answer flag staged written v next facts count told step done volume sound reading there
    of_first agrees set now view machine mark wrote leaves =
    let law = mark-law v flag staged volume sound there in
    let same : IsSameVolume v flag written = law written agrees in
    let seen : told_view (sector_in (Some written)) v.layout ≡ same.other =
    ap (told_view (sector_in (Some written))) (sym same.layout ∙ ap (λ (w : VolumeView). w.layout) same.volume.is) ∙ sym same.volume.is in
    let state = edited-state first v flag staged written next.tree law reading agrees next count in
    let left = leaves state refl refl refl same.volume in
    record {
      next = state;
      takes = record {
        facts = facts;
        told = told;
        step = step;
        stands = edited-stands first v flag staged written next.tree law reading agrees next count refl;
        same = λ e. cc;
        edited = λ e. left.0;
      };
      ready = record {
        now = now;
        view = view ∙ seen;
        stands = edited-stands first v flag staged written next.tree law reading agrees next count refl;
        machine = sym machine;
        written = wrote;
        mark = subst (MarkStands first state) (sym mark)
            (edited-marked first v flag staged written next.tree law reading agrees next count of_first set left.1);
      };
    }

-- A FAULT within an edit, where the calls that write kept to what is safe.
pub harmed-edit : {D : Type 0} (g : Ghosts D) (first : VolumeView) (old new : Volume D g) (before : State) (flag : Flag) (bytes : List ℕ)
    → Ready g first old before → IsFlagOf before.view flag → IsFlagOf first flag → g.now (disk_under g new) ≡ Some bytes
    → length bytes ≡ length before.image → IsSafe flag (sector_in (Some before.image)) (sector_in (Some bytes))
    → IsHarmed first before.machine.tree (g.now (disk_under g new))
harmed-edit g first old new before flag bytes r here of_first now long safe =
    subst (IsHarmed first before.machine.tree) (sym now)
    (harmed-safe first flag before.machine.tree before.image bytes of_first
    (closes-sound before.view flag before.machine.tree before.image r.stands.volume r.stands.sound here r.stands.reading) long safe)

-- THE CLOSING of a volume that is marked.
pub closed-marked : {D : Type 0} (g : Ghosts D) (first : VolumeView) (state : State) (old new : Volume D g) (flag : Flag) (bytes : List ℕ)
    → Ready g first old state → mark_of g old ≡ Some flag → g.now (disk_under g new) ≡ Some bytes → ClearsTo flag state.image bytes
    → g.settled (disk_under g new) ≡ settled_more (g.settled (disk_under g old)) (Some bytes)
    → g.written (disk_under g new) ≤ g.written (disk_under g old) + 2 → Closed g first state old new
closed-marked g first state old new flag bytes r mark now clears settled most =
    let m : IsMarkedBy first state flag = subst (MarkStands first state) mark r.mark in
    record {
      finals = bytes ∷ [];
      closes = subst (λ (o : Option Flag). Closes first state (is_some o) (bytes ∷ []) (g.now (disk_under g new))) (sym mark) (record {
        bytes = bytes;
        are = now;
        final = (record { flag = flag; is = m.of_first; clears = clears }, refl);
        accepted = closes-sound state.view flag state.machine.tree state.image r.stands.volume r.stands.sound m.here r.stands.reading
            bytes clears;
      });
      count = subst (λ (o : Option Flag). CountsClosing (is_some o) (g.written (disk_under g old)) (g.written (disk_under g new)))
          (sym mark) most;
      settled = settled ∙ more (g.settled (disk_under g old));
    }
  where
    more : (past : Option (List (List ℕ))) → settled_more past (Some bytes) ≡ map_told (λ images. images ++ bytes ∷ []) past
    more None = refl
    more (Some images) = refl

-- THE CALLS THAT CLOSE A MARKED VOLUME, on the disk below.
module _ {D : Type 0} (g : Ghosts D) (first : VolumeView) (state : State) (old new : Volume D g) (flag : Flag) (r : Ready g first old state)
    (mark : mark_of g old ≡ Some flag) (told : is_some (g.now (disk_under g new)) ≡ is_some (g.now (disk_under g old)))
    (size : g.size (disk_under g new) ≡ g.size (disk_under g old))
    (long_old : IfSome (g.now (disk_under g old)) (λ all. length all ≡ 512 * g.size (disk_under g old)))
    (long_new : IfSome (g.now (disk_under g new)) (λ all. length all ≡ 512 * g.size (disk_under g new))) where
  its : (bytes : List ℕ) × (g.now (disk_under g new) ≡ Some bytes)
  its = some-bytes (g.now (disk_under g new)) (told ∙ ap is_some r.now)

  as-long : length its.0 ≡ length state.image
  as-long =
      let a = subst (λ o. IfSome o (λ all. length all ≡ 512 * g.size (disk_under g new))) its.1 long_new in
      let b = subst (λ o. IfSome o (λ all. length all ≡ 512 * g.size (disk_under g old))) r.now long_old in
      a ∙ ap (λ n. 512 * n) size ∙ sym b

  -- it was closed
  pub close-done : ((n : ℕ) → sector_in (g.now (disk_under g new)) n ≡ cleared_sector flag (sector_in (g.now (disk_under g old))) n)
      → g.settled (disk_under g new) ≡ settled_more (g.settled (disk_under g old)) (g.now (disk_under g new))
      → g.written (disk_under g new) ≤ g.written (disk_under g old) + 2 → Closed g first state old new
  close-done cleared settled most =
      closed-marked g first state old new flag its.0 r mark its.1
      (record {
        long = as-long;
        sectors = λ n. ap (λ o. sector_in o n) (sym its.1) ∙ cleared n ∙ ap (λ o. cleared_sector flag (sector_in o) n) r.now;
      })
      (settled ∙ ap (settled_more (g.settled (disk_under g old))) its.1) most

  -- the disk failed within it
  pub close-failed : IsSafe flag (sector_in (g.now (disk_under g old))) (sector_in (g.now (disk_under g new)))
      → IsHarmed first state.machine.tree (g.now (disk_under g new))
  close-failed safe =
      let m : IsMarkedBy first state flag = subst (MarkStands first state) mark r.mark in
      harmed-edit g first old new state flag its.0 r m.here m.of_first its.1 as-long
      (subst (λ o. IsSafe flag (sector_in o) (sector_in (Some its.0))) r.now
      (subst (λ o. IsSafe flag (sector_in (g.now (disk_under g old))) (sector_in o)) its.1 safe))
