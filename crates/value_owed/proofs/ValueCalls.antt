-- ALL CALLS of the command together: the edit of the stream, what set the file behind it, and the first mark.
use Rattle.std.proofs.Common.{◌≡◌, ◌≢◌, ◌<◌, ◌≤◌, ◌==◌, ◌||◌, ℕ, Bool, false, List, [], ◌∷◌, Option, Some, None, refl, sym, ap, subst, ◌∙◌}
use Rattle.std.proofs.Common.{arith}
use Rattle.std.specs.Prelude.{IfSome, sum_by, unwrap_or}
use Rattle.std.specs.Str.{bytes_eq}
use Rattle.std.proofs.lemmas.Bool.{and_from, and_parts, and_right, eq-eqb, eqb-true, false_from_ne_true, or_from, or_parts}
use Rattle.std.proofs.lemmas.Slice.Eq.{bytes_eq-Decides}
use Rattle.ntfs_def.specs.Units.{units_in}
use Rattle.ntfs_def.specs.declared.kinds.TheConstants.{DATA, VOLUME_INFORMATION}
use Rattle.ntfs_def.specs.declared.records.TheConstants.{LOG_FILE, UPCASE, VOLUME}
use Rattle.volume_def.specs.Files.{parts, records_of}
use Rattle.volume_def.specs.Room.{list_len_of, longest_name}
use Rattle.volume_def.specs.Table.{cluster_bytes}
use Rattle.volume_def.specs.View.{VolumeView}
use Rattle.tree_model.specs.Bill.{bill_of, removes_file}
use Rattle.tree_model.specs.Need.{Bill, records_wanted}
use Rattle.tree_model.specs.Reading.{read}
use Rattle.tree_model.specs.Subjects.{Located}
use Rattle.tree_model.specs.Tree.{Tree}
use Rattle.tree_model.specs.declared.command.Command.{Command}
use Rattle.tree_model.specs.declared.command.Command.TheVariants as c
use Rattle.edit_def.specs.Account.{AreDistinct, AreTouched, Plan, Wants, Within, also, nothing, wants_of}
use Rattle.edit_def.specs.Edited.{Edited}
use Rattle.edit_def.specs.Kept.{Key, either, key_of, same_key}
use Rattle.edit_def.specs.Purses.{room_of, run_size}
use Rattle.edit_def.proofs.EditedLaws.{Edited-then}
use Rattle.edit_def.proofs.NeedLaws.{IsPlanned-by}
use Rattle.session_def.specs.Named.{has_entry_of, is_changed_key, is_own_key, is_stream_key, is_times_key, spelt}
use Rattle.session_def.specs.Owed.{CallsOf, goes_by}
use Rattle.session_def.specs.State.{State}
use Rattle.value_edits.specs.Unnamed.{LiesApart}
use Rattle.value_edits.proofs.EditedInPlace as rewrite
use Rattle.value_edits.proofs.EditedInPlace.{editable-sound}
use Rattle.value_edits.specs.SetsInPlace.{is_entries_key, is_set_key}
use Rattle.value_edits.proofs.CallsOwed.{apart-of, tabled-of}
use Rattle.value_edits.proofs.MarksLaws.{marks-right, right_marks}
use Rattle.value_edits.proofs.SetKeys.{set-no_room, times-inside}
use Rattle.value_edits.proofs.Below.{not-case}
use Rattle.value_edits.specs.ValueEdits.{EditsAlone, only_clusters}
use Rattle.value_owed.specs.ValueOwed.{SetsBehindValue, bill_asked, clusters_asked}
use Rattle.value_owed.proofs.FewClusters.{few-asked, stream-short}
use Rattle.value_owed.proofs.ValueCommands.{bill-value, value-little, value-own, value-timed}
use Rattle.value_owed.proofs.ValueSame as same
use Rattle.value_owed.proofs.ValueSame.{never}

-- a call that takes so many clusters, and one that takes nothing, take no more than is wanted
clusters-then : (n : ℕ) (wants : Wants) → n ≤ wants.clusters → Within (also (only_clusters n) nothing) wants
clusters-then n wants few = record {
  clusters = omega (arith, few);
  parts = λ f. omega arith;
  units = λ f. omega arith;
  goes = λ f e. cc;
  records = omega arith;
}

-- THE PLAN of the bill: the file alone, where it is on it
abbrev files_asked : ℕ → Option ℕ → List ℕ
files_asked f None = []
files_asked f (Some k) = f ∷ []

abbrev plan_asked : VolumeView → ℕ → Option ℕ → Plan
plan_asked view f o = record {
  size = cluster_bytes view.layout;
  files = files_asked f o;
  name = λ g. longest_name (parts (records_of view) g);
}

once : (f : ℕ) (o : Option ℕ) → AreDistinct (files_asked f o)
once f None = tt
once f (Some k) = (refl, tt)

touched-asked : (view : VolumeView) (f : ℕ) (o : Option ℕ)
    → AreTouched (plan_asked view f o) (room_of view (plan_asked view f o)) (files_asked f o) (bill_asked view f o).touched
unfolding list_len_of
touched-asked view f None = tt
touched-asked view f (Some k) = (omega arith, omega arith, tt)

few-records : (view : VolumeView) (f : ℕ) (o : Option ℕ) → IfSome o (λ k. k ≤ 4088) → records_wanted (bill_asked view f o) ≤ 4096
few-records view f None few = omega arith
few-records view f (Some k) few = omega (arith, few)

module _ (before next : State) (command : Command) (at : Located) (mid staged : VolumeView)
    (s : SetsBehindValue before next command at mid staged) where
  abbrev pub old : VolumeView
  old = before.view

  abbrev pub tree : Tree
  tree = before.machine.tree

  abbrev pub key : Key
  key = key_of at.file DATA s.name

  abbrev pub setter : Command
  setter = c.Setattr [] 0

  pub apart : LiesApart old
  apart = apart-of before.image old s.stands.volume s.stands.sound

  abbrev pub e : EditsAlone key s.gains old mid
  e = s.edited.edits

  -- the file is not the table of case
  pub no_case : at.file ≢ UPCASE
  no_case = not-case mid at.file s.node s.edited.can.there

  -- THE TREE BETWEEN has the names that the one before has
  pub entries-same : (files : List ℕ) (dir : ℕ) → has_entry_of (read mid) files dir ≡ has_entry_of tree files dir
  entries-same files dir =
      ap (λ (t : Tree). has_entry_of t files dir) s.edited.reads ∙ ap (λ (t : Tree). has_entry_of t files dir) s.stands.reading

  -- WHAT IT NAMES
  abbrev changed : Key → Bool
  changed = either (same_key key) (is_set_key (read mid) setter at)

  stream-inside : (k : Key) → is_stream_key tree at k ≡ false → same_key key k ≡ false
  stream-inside k free = false_from_ne_true (same_key key k) (λ is.
      let kind = and_parts (DATA == k.kind) _ is in
      let file = and_parts (at.file == k.file) (bytes_eq s.name k.name) kind.1 in
      let units : units_in k.name ≡ spelt tree at =
      ap units_in (sym ((bytes_eq-Decides s.name k.name).0 file.1)) ∙ s.spelt_so in
      never (and_from (k.kind == DATA) _ (eq-eqb k.kind DATA (sym (eqb-true DATA k.kind kind.0)))
      (and_from (k.file == at.file) _ (eq-eqb k.file at.file (sym (eqb-true at.file k.file file.0)))
      ((bytes_eq-Decides (units_in k.name) (spelt tree at)).1 units))) free)

  set-same : (k : Key) → is_set_key (read mid) setter at k ≡ (is_times_key (at.file ∷ []) k || is_entries_key tree (at.file ∷ []) k)
  set-same k =
      ap (λ (t : Tree). is_set_key t setter at k) s.edited.reads ∙ ap (λ (t : Tree). is_set_key t setter at k) s.stands.reading

  inside : (made : ℕ) (k : Key) → is_changed_key old tree next.machine.tree command at made k ≡ false → changed k ≡ false
  inside made k free =
      let own = or_parts (is_own_key tree command at made k) _ free in
      or_from (same_key key k) (is_set_key (read mid) setter at k)
      (stream-inside k (sym (value-own tree command at made k s.edits) ∙ own.0))
      (set-same k ∙ times-inside old tree next.machine.tree command at made (value-timed command at made s.edits s.new) k free)

  -- BOTH CALLS as one
  both : (wants : Wants) → sum_by run_size e.taken ≤ wants.clusters
      → Edited changed wants old staged (right_marks old) (right_marks mid)
  both wants few =
      let first = same.edited key old mid s.stands.sound apart e in
      let lies = s.behind.stands.apart in
      Edited-then (same_key key) (is_set_key (read mid) setter at) (only_clusters (sum_by run_size e.taken)) nothing wants old mid staged
      (right_marks old) (right_marks mid) (right_marks mid) (clusters-then (sum_by run_size e.taken) wants few) first
      (rewrite.edited (is_set_key (read mid) setter at) nothing mid staged (right_marks mid) s.behind.rewrites lies.owners lies.some
      lies.unnamed (set-no_room (read mid) setter at (records_of mid) refl s.behind.shown) first.editable.right s.behind.sound)

  free-low : (f : ℕ) → f < 4 → (kind : ℕ) → changed (key_of f kind []) ≡ false
  free-low f few kind =
      or_from (same_key key (key_of f kind [])) (is_set_key (read mid) setter at (key_of f kind []))
      (same.other-file key old mid s.stands.sound apart e f kind []
      (λ is. let h = same.high key old mid s.stands.sound apart e in absurd (omega (arith, is, few, h))))
      (s.behind.firsts f few kind [])

  -- THE BILL has few records
  short : IfSome (clusters_asked old tree command at) (λ k. k ≤ 4088)
  short = few-asked old tree command at s.few (tabled-of before.image old s.stands.volume s.stands.sound).size
      (stream-short tree at s.name old mid s.gains s.stands.sound apart e s.spelt_so s.alone)

  bill-is : bill_of old tree command at ≡ bill_asked old at.file (clusters_asked old tree command at)
  bill-is = bill-value old tree command at s.edits s.new (same.inside key old mid s.stands.sound apart e) s.there

  -- and the clusters that the stream got
  asked-clusters : (o : Option ℕ) → (bill_asked old at.file o).clusters ≡ unwrap_or o 0
  asked-clusters None = refl
  asked-clusters (Some k) = refl

  pub billed : sum_by run_size e.taken ≤ (bill_of old tree command at).clusters
  billed =
      let asked = asked-clusters (clusters_asked old tree command at) in
      let its = ap (λ (b : Bill). b.clusters) bill-is in
      let few = s.takes in
      omega (arith, asked, its, few)

  stays : (f : ℕ) → goes_by tree command at f ≡ false
  stays f = and_right (f == at.file) (removes_file tree command at) (value-little tree command at s.edits).stays

  pub calls : (made : ℕ) → CallsOf before next command at made
  calls made =
      let asked = clusters_asked old tree command at in
      let plan = plan_asked old at.file asked in
      let bill = bill_of old tree command at in
      let some = apart.some in
      record {
        changed = changed;
        inside = inside made;
        no_log = free-low LOG_FILE (omega arith) DATA;
        no_mark = free-low VOLUME (omega arith) VOLUME_INFORMATION;
        plan = plan;
        units = λ f. 0;
        size = refl;
        large = omega (arith, some);
        apart = once at.file asked;
        planned = IsPlanned-by plan (room_of old plan) bill (goes_by tree command at) (λ f. 0) refl
            (λ f. omega arith) (λ f goes. absurd (never goes (stays f)));
        touched = subst (λ (b : Bill). AreTouched plan (room_of old plan) plan.files b.touched) (sym bill-is)
            (touched-asked old at.file asked);
        few = subst (λ (b : Bill). records_wanted b ≤ 4096) (sym bill-is) (few-records old at.file asked short);
        tabled = tabled-of before.image old s.stands.volume s.stands.sound;
        was = right_marks old;
        now = right_marks mid;
        start = editable-sound old (right_marks old) s.stands.sound (marks-right old);
        staged = staged;
        edited = both (wants_of plan bill (goes_by tree command at) (λ f. 0)) (let few = billed in omega (arith, few));
        marked = s.behind.first.marked;
      }
