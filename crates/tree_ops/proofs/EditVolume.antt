-- A VOLUME ON WHICH AN EDIT WAS DONE: what it leaves in bytes, and where a run then stands.
use Rattle.std.proofs.Common.{◌≡◌, ◌≤◌, ◌+◌, ◌*◌, ◌/◌, ◌==◌, ℕ, false, List, length, Option, Some, None, refl, sym}
use Rattle.std.proofs.Common.{ap, subst, ◌∙◌, arith}
use Rattle.std.specs.Prelude.{IfSome, IsTrue, if◌then◌else◌, is_some}
use Rattle.std.specs.Option.{option_map_or}
use Rattle.vol_disk.specs.Contents.{IsTold, sector_in}
use Rattle.vol_disk.specs.declared.Disk.{Ghosts}
use Rattle.vol_stage.specs.Staged.{disk_of, image}
use Rattle.volume_def.specs.Sound.{IsSound, told_view}
use Rattle.volume_def.specs.VersionClause.{IsClean}
use Rattle.volume_def.specs.View.{VolumeView}
use Rattle.mft_table.specs.declared.mounted.Mounted.{Mounted}
use Rattle.mft_table.specs.InUse.{IsInUse, IsSoundVolume}
use Rattle.mft_table.specs.Mft.{mounted_of, stage_of, view}
use Rattle.mft_table.specs.Mounted.{mounted_layout}
use Rattle.tree_model.specs.Effects.{after}
use Rattle.tree_model.specs.Facts.{IsVolumeOf, TellsFacts}
use Rattle.tree_model.specs.Reading.{read}
use Rattle.tree_model.specs.Refusals.{Facts}
use Rattle.tree_model.specs.Step.{Step}
use Rattle.tree_model.specs.Subjects.{Machine}
use Rattle.tree_model.specs.declared.command.Command.{Command}
use Rattle.tree_model.specs.declared.reply.Answer.TheVariants as a
use Rattle.tree_model.specs.declared.reply.Reply.TheVariants as reply
use Rattle.session_def.specs.Cost.{log_bytes}
use Rattle.session_def.specs.Done.{EditDone, HasEmptyLog, first_cost}
use Rattle.session_def.specs.State.{Stands, State}
use Rattle.session_def.proofs.CleanLaws.{clean-flag}
use Rattle.mark_write.specs.Flags.{IsCopySet, IsSet, cleared_sector}
use Rattle.mark_write.specs.Logs.{IsEmptied, span_sectors}
use Rattle.mark_write.specs.declared.flag.Flag.{Flag}
use Rattle.mark_write.specs.declared.log.Span.{Span}
use Rattle.made_done.specs.LogSpans.{log_sectors}
use Rattle.volume_mark.specs.Closing.{MarkStands}
use Rattle.volume_mark.specs.Mark.{IsFlagOf}
use Rattle.volume_mark.specs.SameVolume.{IsSameVolume}
use Rattle.volume_mark.proofs.MarkLaws.{mark-law}
use Rattle.made_done.specs.Below.{IsFinished, IsPlaceOf}
use Rattle.made_done.specs.Written.{SetsShown}
use Rattle.tree_ops.specs.Edits.{CanEdit, EditOf, EditsFile, IsMarkOf, IsPlaceBy}
use Rattle.tree_ops.specs.Runs.{Applied, Ready, machine_under}
use Rattle.tree_ops.specs.Volumes.{disk_under, mark_of, moment_of, opens_of, view_under}
use Rattle.tree_ops.specs.declared.volume.Volume.{Volume}
use Rattle.tree_ops.proofs.ImageLaws.{image-long, some-bytes, view-told}
use Rattle.tree_ops.proofs.EditedVolume.{applied-edit}
use Rattle.tree_ops.proofs.PlaceLaws.{place-of}
use Rattle.tree_ops.proofs.TablesKept.{layout-kept}
use Rattle.tree_ops.proofs.EditBy.{IsDoneBy, IsEditBy, IsLed, LeavesSo, done-step}

-- what the first edit of a run writes beside its own, on a volume that is clean
clean-cost : (view : VolumeView) → IsClean view → first_cost view ≡ 2 + log_sectors view
clean-cost view clean =
    ap (λ o. if option_map_or (λ bit. bit == 1) o false then 0 else 2 + (log_bytes view + 511) / 512) ((clean-flag view).0 clean)

-- where a run stands on a volume that holds these bytes
abbrev pub state_on : {D : Type 0} (g : Ghosts D) → Volume D g → List ℕ → State
state_on g volume bytes = record {
  image = bytes;
  view = view_under g volume;
  machine = machine_under g volume;
  written = g.written (disk_under g volume);
}

module _ {D : Type 0} (g : Ghosts D) (sized : (disk : D) → IfSome (g.now disk) (λ all. length all ≡ 512 * g.size disk))
    (old new : Volume D g) (session : ℕ) (command : Command) (edit : EditOf) (shown : SetsShown command)
    (by : IsEditBy (view_under g old) (opens_of g old) (moment_of g old) session command edit) (can : CanEdit g old.mft (mark_of g old))
    (s : EditsFile g old.mft new.mft (mark_of g old) edit) (facts : Facts)
    (before : List ℕ) (was : g.now (disk_under g old) ≡ Some before) (tells : TellsFacts (view_under g old) facts) where
  abbrev v : VolumeView
  v = view_under g old

  abbrev state : State
  state = state_on g old before

  abbrev flag : Flag
  flag = s.place.flag

  pub told : IsTrue v.told
  told = ap (λ (o : Option (List ℕ)). is_some o) (can.clear.tells ∙ was)

  pub stands : Stands state
  stands = record { volume = can.bytes before (can.clear.tells ∙ was); sound = (can.in_use told).sound; reading = refl }

  -- where its words lead
  pub leads : IsLed facts (machine_under g old) session command
  leads = by.found told stands.sound facts tells s.file (s.leads told)

  -- THE BYTES that were staged, and written
  pub staged-some : (bytes : List ℕ) × (image g (stage_of g s.staged) ≡ Some bytes)
  staged-some = some-bytes (image g (stage_of g s.staged)) (s.keeps.goes_on.told_image ∙ told)

  abbrev staged : List ℕ
  staged = staged-some.0

  pub written-some : (bytes : List ℕ) × (g.now (disk_under g new) ≡ Some bytes)
  written-some = some-bytes (g.now (disk_under g new))
      (s.goes_on.told ∙ s.keeps.goes_on.told ∙ ap (λ (o : Option (List ℕ)). is_some o) was)

  abbrev written : List ℕ
  written = written-some.0

  pub before-long : length before ≡ 512 * g.size (disk_under g old)
  before-long = subst (λ o. IfSome o (λ (all : List ℕ). length all ≡ 512 * g.size (disk_under g old))) was (sized (disk_under g old))

  pub staged-long : length staged ≡ length before
  staged-long =
      subst (λ o. IfSome o (λ (all : List ℕ). length all ≡ 512 * g.size (disk_of g (stage_of g s.staged)))) staged-some.1
      (image-long g (stage_of g s.staged) (sized (disk_of g (stage_of g s.staged))))
      ∙ ap (λ n. 512 * n) s.keeps.goes_on.size ∙ sym before-long

  pub written-long : length written ≡ length staged
  written-long =
      subst (λ o. IfSome o (λ (all : List ℕ). length all ≡ 512 * g.size (disk_under g new))) written-some.1 (sized (disk_under g new))
      ∙ ap (λ n. 512 * n) (s.goes_on.size ∙ s.keeps.goes_on.size) ∙ sym before-long ∙ sym staged-long

  pub staged-view : view g s.staged ≡ told_view (sector_in (Some staged)) v.layout
  staged-view =
      view-told g s.staged staged staged-some.1 ∙ ap (told_view (sector_in (Some staged))) (layout-kept g old.mft s.staged s.keeps)

  pub place : IsPlaceOf v before flag s.place.marked s.place.spans.items
  place = place-of g old.mft s.place told (mark_of g old) before was can s.placed.by_mark

  pub staged-told : IsTold (image g (stage_of g s.staged))
  staged-told = s.keeps.goes_on.told_image ∙ told

  pub finished : IsFinished flag s.place.marked s.place.spans.items staged written
  finished = record {
    long = written-long;
    same = λ n out.
        ap (λ o. cleared_sector flag (sector_in o) n) (sym written-some.1)
        ∙ s.finishes.written staged-told n out
        ∙ ap (λ o. cleared_sector flag (sector_in o) n) staged-some.1;
    set = subst (λ o. IsSet flag (sector_in o)) written-some.1 (s.finishes.marked staged-told);
    copied = subst (λ o. IsCopySet flag (sector_in o)) written-some.1 (s.finishes.copied staged-told);
    emptied = λ e. subst (λ o. IsEmptied s.place.spans.items (sector_in o)) written-some.1 (s.finishes.emptied e staged-told);
  }

  -- WHAT IS LEFT of the volume that was staged
  abbrev behind : VolumeView
  behind = view g s.staged

  abbrev most_staged : ℕ
  most_staged = edit.most v behind s.file

  pub done-by : IsDoneBy facts v (opens_of g old) (moment_of g old) session command leads.at most_staged behind
  unfolding leads
  done-by = by.does told stands.sound facts tells s.file (s.leads told) behind (s.does told)

  pub left : LeavesSo facts state session command leads.at done-by.made most_staged behind flag staged written
  left =
      done-by.leaves before (g.written (disk_under g old)) stands shown flag s.place.marked s.place.spans.items staged written
      staged-long staged-view place finished

  pub same : IsSameVolume behind flag written
  same = mark-law behind flag staged left.volume left.sound left.flag_there written left.agrees

  abbrev now : VolumeView
  now = told_view (sector_in (Some written)) v.layout

  pub other-is : same.other ≡ now
  other-is =
      same.volume.is
      ∙ ap (told_view (sector_in (Some written)))
      (sym (ap (λ (w : VolumeView). w.layout) same.volume.is) ∙ same.layout ∙ ap (λ (w : VolumeView). w.layout) staged-view)

  -- the volume behind it is that of the bytes that were written
  pub new-view : view_under g new ≡ now
  new-view =
      view-told g new.mft written (s.finishes.image ∙ written-some.1)
      ∙ ap (told_view (sector_in (Some written)))
      (ap (λ (m : Mounted). mounted_layout m) s.mounted ∙ layout-kept g old.mft s.staged s.keeps)

  pub now-volume : IsVolumeOf written now
  now-volume = subst (IsVolumeOf written) other-is same.volume

  pub now-sound : IsSound now
  now-sound = subst IsSound other-is same.sound

  abbrev next : Machine
  next = after (machine_under g old) session command leads.at done-by.made

  pub now-reads : read now ≡ next.tree
  now-reads = ap read (sym other-is) ∙ same.reading ∙ left.reading

  -- the machine behind it is that to which the step leads
  pub new-machine : opens_of g new ≡ opens_of g old → moment_of g new ≡ moment_of g old → machine_under g new ≡ next
  new-machine opens moment =
      machine-by (ap read new-view ∙ now-reads) (opens ∙ sym (by.opens_stay leads.at done-by.made))
      (moment ∙ sym (by.moment_stays leads.at done-by.made))
    where
      machine-by : read (view_under g new) ≡ next.tree → opens_of g new ≡ next.opens → moment_of g new ≡ next.now
          → machine_under g new ≡ next
      machine-by tree same now_is =
          ap (λ t. record { tree = t; opens = opens_of g new; now = moment_of g new }) tree
          ∙ ap (λ o. record { tree = next.tree; opens = o; now = moment_of g new }) same
          ∙ ap (λ t. record { tree = next.tree; opens = next.opens; now = t }) now_is

  -- its log is empty, and its flag lies where it lay
  abbrev next_state : ℕ → State
  next_state count = record { image = written; view = now; machine = next; written = count }

  abbrev still_written : State
  still_written = next_state (g.written (disk_under g old))

  done-edit : EditDone facts state session command still_written × HasEmptyLog now
  done-edit = left.done still_written refl now-volume refl (omega arith)

  pub now-log : HasEmptyLog now
  now-log = done-edit.1

  -- the machine's step is this
  pub stepped : Step facts (machine_under g old) session command (reply.Ok a.Done) next
  stepped = done-step v (opens_of g old) (moment_of g old) session command edit by facts before (g.written (disk_under g old)) still_written
      leads done-edit.0

  pub now-mark : IsMarkOf now flag
  now-mark = record { there = subst (λ w. IsFlagOf w flag) other-is same.flag_there; log = now-log }

  pub now-in_use : IsInUse g new.mft
  now-in_use t =
      subst (λ w. IsSoundVolume w (mounted_of g new.mft)) (sym new-view)
      (subst (λ (m : Mounted). IsSoundVolume now m) (sym s.mounted) (record {
        sound = now-sound;
        stored = left.stored (mounted_of g s.staged).clusters (mounted_of g s.staged).records (mounted_of g s.staged).upcase
            (s.tables (s.keeps.goes_on.told_image ∙ told));
      }))

  pub now-bytes : (all : List ℕ) → image g (stage_of g new.mft) ≡ Some all → IsVolumeOf all (view_under g new)
  now-bytes all is =
      let same : written ≡ all = let e = sym written-some.1 ∙ sym s.finishes.image ∙ is in cc in
      subst (IsVolumeOf all) (sym new-view) (subst (λ bytes. IsVolumeOf bytes now) same now-volume)

  -- HOW MANY SECTORS were written
  pub most-by : (mark : Option Flag) → (first : VolumeView) → MarkStands first state mark → IsPlaceBy g old.mft mark s.place
      → 2 + span_sectors s.place.spans.items ≤ first_cost v + 2
  most-by None first m by =
      let few = by.few told in
      let cost = clean-cost v m.1 in
      omega (arith, few, cost)
  most-by (Some flag) first m by =
      let none = ap (λ (xs : List Span). span_sectors xs) by.none in
      omega (arith, none)

  pub most : (first : VolumeView) → MarkStands first state (mark_of g old)
      → g.written (disk_under g new) ≤ g.written (disk_under g old) + (first_cost v + 2 + most_staged)
  most first m =
      let wrote = s.written in
      let few = (s.few told).few in
      let plain = ap (λ (sectors : List ℕ). length sectors) can.clear.plain in
      let cost = most-by (mark_of g old) first m s.placed.by_mark in
      omega (arith, wrote, few, plain, cost)

  -- WHAT EVERY COMMAND PROMISES is promised.
  pub flag-first : (mark : Option Flag) → (first : VolumeView) → MarkStands first state mark → IsPlaceBy g old.mft mark s.place
      → IsFlagOf first flag
  flag-first None first m by = subst (λ w. IsFlagOf w flag) m.0 (by.flag told)
  flag-first (Some f) first m by = subst (IsFlagOf first) (sym by.same) m.of_first

  module _ (opens : opens_of g new ≡ opens_of g old) (moment : moment_of g new ≡ moment_of g old) (mark : mark_of g new ≡ Some flag) where
    pub applied-done : (first : VolumeView) → Ready g first old state → Applied g first state session command (reply.Ok a.Done) new
    applied-done first r =
        applied-edit g first new state session command a.Done flag staged written behind next facts (g.written (disk_under g new))
        tells stepped by.is
        left.volume left.sound left.reading left.flag_there (flag-first (mark_of g old) first r.mark s.placed.by_mark)
        left.agrees finished.set written-some.1
        (new-view ∙ ap (λ (w : VolumeView). told_view (sector_in (Some written)) w.layout) (sym staged-view))
        (new-machine opens moment) mark refl
        (λ after_it image machine count volume. left.done after_it image volume machine
        (subst (λ n. n ≤ g.written (disk_under g old) + (first_cost v + 2 + most_staged)) (sym count) (most first r.mark)))
