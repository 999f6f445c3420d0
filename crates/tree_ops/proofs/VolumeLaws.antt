-- A volume behind calls that only read, and one that was just taken into use.
use Rattle.std.proofs.Common.{◌≡◌, ◌≢◌, ◌||◌, ℕ, Bool, true, false, List, [], Option, Some, None, Result, Ok, Err, refl, sym, ap, subst}
use Rattle.std.proofs.Common.{◌∙◌, arith, le_refl}
use Rattle.std.specs.Prelude.{IfSome, IsTrue, is_some}
use Rattle.vol_disk.specs.declared.Disk.{Ghosts}
use Rattle.volume_def.specs.Sound.{HoldBelow, IsSound, Attributes, CaseTable, ClusterBits, Extents, Indexes, Limits, Links, Lists, Mirror}
use Rattle.volume_def.specs.Sound.{MirrorPlace, Owners, RecordBits, References, Shape, Version}
use Rattle.volume_def.specs.View.{VolumeView, view_of}
use Rattle.mft_table.specs.declared.mft.Mft.{Mft}
use Rattle.mft_table.specs.declared.mounted.Mounted.{Mounted}
use Rattle.mft_table.specs.MirrorClusters.{IsMirrorInside}
use Rattle.mft_table.specs.HeldTables.{HoldsTables, volume_in}
use Rattle.file_record.proofs.ReadLaws.{view-kept}
use Rattle.tree_ops.proofs.StillLaws.{still-can, still-told, still-view}
use Rattle.tree_ops.specs.Edits.{CanEdit, MftStill}
use Rattle.mft_table.specs.Mft.{MftReads, committed_of, mounted_of, stage_of, view}
use Rattle.mft_table.specs.Mounted.{mounted_layout}
use Rattle.vol_disk.specs.Contents.{WhereTold, sector_in}
use Rattle.vol_stage.specs.declared.stage.Stage.{Stage}
use Rattle.vol_stage.specs.Staged.{GoesOn, disk_of, image, is_broken, places}
use Rattle.mft_table.specs.InUse.{IsInUse, IsSoundVolume}
use Rattle.tree_model.specs.Facts.{IsVolumeOf, TellsFacts}
use Rattle.tree_model.specs.Reading.{read}
use Rattle.tree_model.specs.Refusals.{Facts}
use Rattle.tree_model.proofs.HasFacts.{has_facts}
use Rattle.session_def.specs.State.{Stands, State}
use Rattle.mark_write.specs.declared.flag.Flag.{Flag}
use Rattle.share_table.specs.Held.{HoldsOpens}
use Rattle.share_table.proofs.OpensLaws.{held-none, held-step}
use Rattle.volume_mark.specs.Closing.{MarkStands}
use Rattle.volume_mark.proofs.StandLaws.{harmed_at}
use Rattle.tree_model.specs.Step.{Step}
use Rattle.tree_model.specs.Subjects.{Machine}
use Rattle.tree_model.specs.declared.command.Command.{Command}
use Rattle.tree_model.specs.declared.reply.Answer.{Answer}
use Rattle.tree_model.specs.declared.reply.Reply.{Reply}
use Rattle.tree_model.specs.declared.reply.Reply.TheVariants as reply
use Rattle.tree_ops.specs.Runs.{Applied, Failed, Ready, machine_under}
use Rattle.tree_ops.specs.Serves.{Serves}
use Rattle.tree_ops.specs.Volumes.{VolumeGoesOn, VolumeReads, VolumeStill, disk_under, mark_of, moment_of, opens_of, view_under}
use Rattle.session_def.specs.Session.{is_done_edit}
use Rattle.tree_read.specs.Standings.{IsStanding}
use Rattle.tree_read.specs.declared.stop.Stop.{Stop}
use Rattle.tree_read.specs.declared.stop.Stop.TheVariants as stop
use Rattle.tree_ops.specs.Wanted.{Does, machine_on}
use Rattle.tree_ops.specs.declared.volume.Volume.{Volume}

pub volume-still : {D : Type 0} (g : Ghosts D) (old new : Volume D g) → MftStill g old.mft new.mft → new.mark ≡ old.mark
    → VolumeStill g old new
volume-still g old new still mark = record {
  now = still.keeps.now;
  fenced = still.keeps.fenced;
  written = still.keeps.written;
  view = still-view g old.mft new.mft still;
  mark = mark;
}

pub volume-goes : {D : Type 0} (g : Ghosts D) (old new : Volume D g) → GoesOn g (stage_of g old.mft) (stage_of g new.mft)
    → VolumeGoesOn g old new
volume-goes g old new goes =
    record { same_reference = goes.same_reference; size = goes.size; faults = goes.faults; on_time = goes.on_time }

module _ {D : Type 0} (g : Ghosts D) (old new : Volume D g) (n : ℕ) (reads : MftReads g old.mft new.mft n)
    (mark : new.mark ≡ old.mark) (opens : new.opens ≡ old.opens) (moment : new.moment ≡ old.moment) where
  pub volume-reads : VolumeReads g old new
  volume-reads =
      let goes = reads.stage.goes_on in
      let only = reads.stage.only_reads in
      record {
        same_reference = goes.same_reference;
        now = only.now;
        fenced = only.fenced;
        size = goes.size;
        written = only.written;
        late = only.late;
        faults = goes.faults;
        view = view-kept g old.mft new.mft n reads;
        mark = mark;
        opens = opens;
        moment = moment;
      }

pub reads-none : {D : Type 0} (g : Ghosts D) (volume : Volume D g) → VolumeReads g volume volume
reads-none g volume = record {
  same_reference = refl;
  now = refl;
  fenced = refl;
  size = refl;
  written = refl;
  late = refl;
  faults = le_refl _;
  view = refl;
  mark = refl;
  opens = refl;
  moment = refl;
}

-- WHAT IS NO EDIT is a step that leaves the disk as it was: the opens and the moment alone may change.

-- the mark stands where the machine alone changes
mark-stays : (first : VolumeView) (before : State) (m : Machine) (mark : Option Flag) → MarkStands first before mark
    → MarkStands first (record before { machine = m }) mark
mark-stays first before m None x = x
mark-stays first before m (Some flag) x = record { of_first = x.of_first; here = x.here; set = x.set; log = x.log }

pub applied-still : {D : Type 0} (g : Ghosts D) (first : VolumeView) (old new : Volume D g) (before : State) (session : ℕ)
    (command : Command) (given : Reply) → is_done_edit (Ok (session, command)) given ≡ false → VolumeStill g old new
    → Ready g first old before → (IsTrue (view_under g old).told → (facts : Facts) → TellsFacts (view_under g old) facts
    → Step facts (machine_under g old) session command given (machine_on (view_under g old) (opens_of g new) (moment_of g new)))
    → Applied g first before session command given new
applied-still g first old new before session command given none still r steps =
    let f = has_facts before.view r.stands.sound in
    let told : IsTrue (view_under g old).told =
    ap (λ (v : VolumeView). v.told) r.view ∙ ap (λ (v : VolumeView). v.told) r.stands.volume.is in
    let step : Step f.0 before.machine session command given (machine_under g new) =
    subst (λ m. Step f.0 m session command given (machine_under g new)) (sym r.machine)
    (subst (λ v. Step f.0 (machine_under g old) session command given (machine_on v (opens_of g new) (moment_of g new))) (sym still.view)
    (steps told f.0 (subst (λ v. TellsFacts v f.0) (sym r.view) f.1))) in
    let next : State = record before { machine = machine_under g new } in
    let stands : Stands next =
    record { volume = r.stands.volume; sound = r.stands.sound; reading = ap read (sym (still.view ∙ r.view)) } in
    record {
      next = next;
      takes = record {
        facts = f.0;
        told = f.1;
        step = step;
        stands = stands;
        same = λ e. record { image = refl; written = refl };
        edited = λ e. cc;
      };
      ready = record {
        now = still.now ∙ r.now;
        view = still.view ∙ r.view;
        stands = stands;
        machine = refl;
        written = still.written ∙ r.written;
        mark = subst (MarkStands first next) (sym still.mark) (mark-stays first before (machine_under g new) (mark_of g old) r.mark);
      };
    }

pub failed-still : {D : Type 0} (g : Ghosts D) (first : VolumeView) (old new : Volume D g) (before : State) (session : ℕ)
    (command : Command) → g.now (disk_under g new) ≡ g.now (disk_under g old) → Ready g first old before
    → Failed g first before session command new
failed-still g first old new before session command still r = record {
  harmed = harmed_at first before (mark_of g old) (g.now (disk_under g new)) r.mark r.stands (still ∙ r.now);
  same = λ facts told none. still ∙ r.now;
}

-- THE OPENS behind a command that was done, or refused.
pub held-behind : {D : Type 0} (g : Ghosts D) (old new : Volume D g) (session : ℕ) (command : Command) (result : Result Answer Stop)
    → view_under g new ≡ view_under g old → IsInUse g old.mft
    → (IsTrue (view_under g old).told → HoldsOpens (machine_under g old))
    → ((facts : Facts) → IsTrue (view_under g old).told → TellsFacts (view_under g old) facts
    → Does facts (machine_under g old) session command result (machine_on (view_under g old) (opens_of g new) (moment_of g new)))
    → result ≢ Err stop.Device → IsTrue (view_under g new).told → HoldsOpens (machine_under g new)
held-behind g old new session command result view in_use held does answered told =
    let before : IsTrue (view_under g old).told = subst (λ (v : VolumeView). IsTrue v.told) view told in
    let f = has_facts (view_under g old) (in_use before).sound in
    subst (λ v. HoldsOpens (machine_on v (opens_of g new) (moment_of g new))) (sym view)
    (by f.0 result answered (held before) (does f.0 before f.1))
  where
    by : (facts : Facts) (result : Result Answer Stop) → result ≢ Err stop.Device → HoldsOpens (machine_under g old)
        → Does facts (machine_under g old) session command result (machine_on (view_under g old) (opens_of g new) (moment_of g new))
        → HoldsOpens (machine_on (view_under g old) (opens_of g new) (moment_of g new))
    by facts (Ok answer) answered held does = held-step facts (machine_under g old) session command (reply.Ok answer) _ held does
    by facts (Err (stop.No refused)) answered held does =
        held-step facts (machine_under g old) session command (reply.No refused) _ held does
    by facts (Err stop.Device) answered held does = absurd (answered refl)

-- A volume that serves does so behind a command that wrote nothing.
pub serves-behind : {D : Type 0} (g : Ghosts D) (old new : Volume D g) (still : MftStill g old.mft new.mft) → new.mark ≡ old.mark
    → Serves g old → (IsTrue (view_under g old).told → IfSome new.last (IsStanding (view_under g old)))
    → (IsTrue (view_under g new).told → HoldsOpens (machine_under g new)) → Serves g new
serves-behind g old new still mark s last held = record {
  can = subst (CanEdit g new.mft) (sym mark) (still-can g old.mft new.mft still (mark_of g old) s.can);
  last = still-told g old.mft new.mft still (λ v. IfSome new.last (IsStanding v)) last;
  held = held;
}

-- behind a command that is no edit the volume is marked where it was
pub marks-same : (mark edit : Bool) → edit ≡ false → mark ≡ (mark || edit)
marks-same true edit e = refl
marks-same false edit e = sym e

-- all clauses stand before the fifteenth place
pub all-clauses : (view : VolumeView) → HoldBelow view 15 → IsSound view
all-clauses view below Shape = below Shape (omega arith)
all-clauses view below Attributes = below Attributes (omega arith)
all-clauses view below Lists = below Lists (omega arith)
all-clauses view below Extents = below Extents (omega arith)
all-clauses view below Owners = below Owners (omega arith)
all-clauses view below ClusterBits = below ClusterBits (omega arith)
all-clauses view below RecordBits = below RecordBits (omega arith)
all-clauses view below References = below References (omega arith)
all-clauses view below Links = below Links (omega arith)
all-clauses view below CaseTable = below CaseTable (omega arith)
all-clauses view below Indexes = below Indexes (omega arith)
all-clauses view below Version = below Version (omega arith)
all-clauses view below MirrorPlace = below MirrorPlace (omega arith)
all-clauses view below Mirror = below Mirror (omega arith)
all-clauses view below Limits = below Limits (omega arith)

-- A volume that was just taken into use.
module _ {D : Type 0} (g : Ghosts D) (mft : Mft D g) (mounted : Mounted) (kept : mounted_of g mft ≡ mounted) where
  view-new : (o : Option (List ℕ)) → image g (stage_of g mft) ≡ o → view g mft ≡ view_of (is_some o) (sector_in o) (mounted_layout mounted)
  view-new o e =
      ap (λ i. view_of (is_some i) (sector_in i) (mounted_layout (mounted_of g mft))) e
      ∙ ap (λ (m : Mounted). view_of (is_some o) (sector_in o) (mounted_layout m)) kept

  in_use-new : (o : Option (List ℕ)) → image g (stage_of g mft) ≡ o → WhereTold o (λ all. HoldsTables 15 all mounted) → IsInUse g mft
  in_use-new None e holds = λ told. let none = sym (ap (λ (i : Option (List ℕ)). is_some i) e) ∙ told in cc
  in_use-new (Some all) e holds = λ told.
      let tables = holds all refl in
      subst (λ v. IsSoundVolume v (mounted_of g mft)) (sym (view-new (Some all) e))
      (subst (λ (m : Mounted). IsSoundVolume (volume_in all mounted) m) (sym kept)
      (record { sound = all-clauses (volume_in all mounted) tables.clauses; stored = tables.values }))

  bytes-new : (o : Option (List ℕ)) → image g (stage_of g mft) ≡ o → WhereTold o (λ all. HoldsTables 15 all mounted)
      → WhereTold (image g (stage_of g mft)) (λ all. IsVolumeOf all (view g mft))
  bytes-new o e holds all is =
      let here : o ≡ Some all = sym e ∙ is in
      let tables = holds all here in
      record {
        layout = mounted_layout mounted;
        has = record { boot_clause = tables.table.boot; table_clause = tables.table.clause };
        is = view-new (Some all) is;
      }

pub new-serves : {D : Type 0} (g : Ghosts D) (volume : Volume D g) (stage : Stage D g) (mounted : Mounted) (disk : D)
    → stage_of g volume.mft ≡ stage → mounted_of g volume.mft ≡ mounted → committed_of g volume.mft ≡ mounted → disk_of g stage ≡ disk
    → image g stage ≡ g.now disk
    → places g stage ≡ [] → is_broken g stage ≡ false → WhereTold (g.now disk) (λ all. HoldsTables 15 all mounted) → volume.last ≡ None
    → volume.opens ≡ []
    → IsMirrorInside mounted → volume.mark ≡ None → Serves g volume
new-serves g volume stage mounted disk same kept committed under shown plain whole holds none empty inside unmarked =
    let seen : image g (stage_of g volume.mft) ≡ g.now disk = ap (image g) same ∙ shown in
    record {
      can = subst (CanEdit g volume.mft) (sym unmarked) (record {
        in_use = in_use-new g volume.mft mounted kept (g.now disk) seen holds;
        bytes = bytes-new g volume.mft mounted kept (g.now disk) seen holds;
        mirror = subst IsMirrorInside (sym kept) inside;
        clear = record {
          tells = seen ∙ sym (ap (λ s. g.now (disk_of g s)) same ∙ ap g.now under);
          whole = ap (is_broken g) same ∙ whole;
          plain = ap (places g) same ∙ plain;
          tables = committed ∙ sym kept;
        };
        marked = tt;
        flag = tt;
      });
      last = λ told. subst (λ o. IfSome o (IsStanding (view g volume.mft))) (sym none) tt;
      held = λ told. held-none (machine_under g volume) empty;
    }
