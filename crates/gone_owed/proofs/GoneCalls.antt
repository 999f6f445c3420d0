-- ALL CALLS of `rm` together: the file that went, what set the directory behind that, and the first mark.
use Rattle.std.proofs.Common.{◌≡◌, ◌≢◌, ◌<◌, ◌==◌, ◌&&◌, ◌||◌, ℕ, Bool, true, false, List, [], ◌∷◌, codes, None}
use Rattle.std.proofs.Common.{refl, sym, ap, subst, ◌∙◌, arith, length}
use Rattle.std.proofs.lemmas.Bool.{and_from, and_parts, and_right, eqb-true, false_from_ne_true, ne_eqb, or_from, or_left, or_parts}
use Rattle.std.specs.List.{Contains}
use Rattle.std.specs.Str.{bytes_eq}
use Rattle.list_laws.proofs.MemberLaws.{Contains-head}
use Rattle.ntfs_def.specs.FileName.{FileName}
use Rattle.ntfs_def.specs.Units.{wide}
use Rattle.ntfs_def.specs.declared.kinds.TheConstants.{BITMAP, DATA, FILE_NAME, INDEX_ALLOCATION, INDEX_ROOT, STANDARD_INFORMATION}
use Rattle.ntfs_def.specs.declared.kinds.TheConstants.{VOLUME_INFORMATION}
use Rattle.ntfs_def.specs.declared.records.TheConstants.{LOG_FILE, VOLUME}
use Rattle.volume_def.specs.FileNames.{names_of}
use Rattle.volume_def.specs.Files.{records_of}
use Rattle.volume_def.specs.View.{VolumeView}
use Rattle.tree_model.specs.Bill.{bill_of}
use Rattle.tree_model.specs.Drops.{is_last_name}
use Rattle.tree_model.specs.Need.{Bill, empty_bill, records_wanted}
use Rattle.tree_model.specs.Reading.{link_for, read}
use Rattle.tree_model.specs.Subjects.{Located, at_file}
use Rattle.tree_model.specs.Tree.{Tree}
use Rattle.tree_model.specs.declared.command.Command.{Command}
use Rattle.tree_model.specs.declared.command.Command.TheVariants as c
use Rattle.tree_model.specs.declared.tree.Node.{Node}
use Rattle.edit_def.specs.Account.{AreTouched, Plan, Wants, Within, also, nothing, wants_of}
use Rattle.edit_def.specs.Edited.{Edited}
use Rattle.edit_def.specs.Kept.{Key, either, key_of}
use Rattle.edit_def.specs.Purses.{room_of}
use Rattle.edit_def.proofs.EditedLaws.{Edited-then}
use Rattle.edit_def.proofs.NeedLaws.{IsPlanned-by}
use Rattle.session_def.specs.Named.{has_entry_of, is_changed_key, is_directory_key, is_index_kind, is_times_key, is_view_key}
use Rattle.session_def.specs.Owed.{CallsOf, goes_by}
use Rattle.session_def.specs.State.{State}
use Rattle.record_calls.specs.Marks.{marks_of}
use Rattle.made_edits.specs.Keys.{is_index_key_of}
use Rattle.made_edits.proofs.EditedInPlace as rewrite
use Rattle.made_edits.proofs.EditedInPlace.{editable-sound}
use Rattle.in_place_owed.specs.SetsInPlace.{is_entries_key, is_set_key}
use Rattle.in_place_owed.proofs.CallsOwed.{empty_plan, tabled-of}
use Rattle.in_place_owed.proofs.EntryThere.{entry-there}
use Rattle.in_place_owed.proofs.SetKeys.{set-no_room}
use Rattle.gone_edits.specs.Gone.{is_gone_key}
use Rattle.gone_edits.specs.Wants.{going_wants}
use Rattle.gone_owed.specs.GoneOwed.{IsUnlinked, SetsBehindGone, at_gone}
use Rattle.gone_owed.proofs.GoneBase as base
use Rattle.gone_owed.proofs.GoneBill.{bill-gone}
use Rattle.gone_owed.proofs.GoneTree as trees

never : {b : Bool} → b ≡ true → b ≡ false → ⊥
never x y = cc

-- WHAT IS TAKEN is within the bill.
gone-within : (plan : Plan) (n : ℕ) (goes : ℕ → Bool) → ((f : ℕ) → (f == n) ≡ true → goes f ≡ true)
    → Within (also (going_wants n) nothing) (wants_of plan empty_bill goes (λ f. 0))
gone-within plan n goes more = record {
  clusters = omega arith;
  parts = λ f. omega arith;
  units = λ f. omega arith;
  goes = λ f e. more f (first (f == n) e);
  records = omega arith;
}
  where
    first : (b : Bool) → (b || false) ≡ true → b ≡ true
    first true e = refl
    first false e = cc

-- all of a file that goes is its own
own-all : (b goes name : Bool) → goes ≡ true → (b && (goes || name)) ≡ false → b ≡ false
own-all true true name e none = cc
own-all true false name e none = cc
own-all false goes name e none = refl

-- fewer names, and fewer entries
less-times : (a b x y : Bool) → (a && (b && (x || y))) ≡ false → (a && (b && y)) ≡ false
less-times true true true y e = cc
less-times true true false y e = e
less-times true false x y e = refl
less-times false b x y e = refl

less-entries : (r a b n h k g : Bool) → (h ≡ false → g ≡ false) → (((r || a) || b) && (n && (h || k))) ≡ false
    → ((r || a) && (n && g)) ≡ false
less-entries true a b true true k g f e = cc
less-entries true a b true false k g f e = f refl
less-entries true a b false h k g f e = refl
less-entries false true b true true k g f e = cc
less-entries false true b true false k g f e = f refl
less-entries false true b false h k g f e = refl
less-entries false false b n h k g f e = refl

module _ (before next : State) (n : ℕ) (file parent : Node) (name : FileName) (mid staged : VolumeView)
    (s : SetsBehindGone before next n name.parent.number file parent name mid staged) where
  abbrev dir : ℕ
  dir = name.parent.number

  abbrev old : VolumeView
  old = before.view

  abbrev tree : Tree
  tree = before.machine.tree

  abbrev leads : Located
  leads = at_gone tree n name

  abbrev setter : Command
  setter = c.Setattr [] 0

  abbrev folder : Located
  folder = at_file (read mid) None dir

  abbrev files : List ℕ
  files = n ∷ dir ∷ []

  other : dir ≢ n
  other = base.other before next n file parent name mid staged s

  last : is_last_name tree (link_for n name) ≡ true
  last = base.last before next n file parent name mid staged s

  -- WHAT IT NAMES
  abbrev changed : Key → Bool
  changed = either (is_gone_key n dir) (is_set_key (read mid) setter folder)

  among : Contains (names_of (records_of old) n) name
  among = subst (λ (xs : List FileName). Contains xs name) (sym s.can.only) (Contains-head name [])

  has-entry : has_entry_of tree files dir ≡ true
  has-entry =
      trees.entry-more tree n dir dir
      (entry-there before s.stands n name (base.left before next n file parent name mid staged s).used among)

  index-inside : (k : Key) → is_directory_key tree next.machine.tree files k ≡ false → is_index_key_of dir k ≡ false
  index-inside k free = false_from_ne_true (is_index_key_of dir k) (λ is.
      let kind = and_parts (is_index_kind k.kind) _ is in
      let called = and_parts (bytes_eq k.name (wide (codes "$I30"))) (k.file == dir) kind.1 in
      let its : has_entry_of tree files k.file ≡ true =
      ap (has_entry_of tree files) (eqb-true k.file dir called.1) ∙ has-entry in
      never (and_from (is_index_kind k.kind) _ kind.0 (and_from (bytes_eq k.name (wide (codes "$I30"))) _ called.0
      (or_left (has_entry_of tree files k.file) (has_entry_of next.machine.tree files k.file) its))) free)

  inside : (path : List (List ℕ)) (made : ℕ) (k : Key)
      → is_changed_key old tree next.machine.tree (c.Rm path) leads made k ≡ false → changed k ≡ false
  inside path made k free =
      let outer = or_parts ((k.file == n) && (is_last_name tree (link_for n name) || (k.kind == FILE_NAME))) _ free in
      let own = own-all (k.file == n) (is_last_name tree (link_for n name)) (k.kind == FILE_NAME) last outer.0 in
      let times = or_parts (is_times_key files k) _ outer.1 in
      let inner = or_parts (is_directory_key tree next.machine.tree files k) (is_view_key old tree (c.Rm path) leads k) times.1 in
      let less = trees.entry-less tree (link_for n name) dir other (read mid) (base.reads before next n file parent name mid staged s)
      k.file in
      or_from (is_gone_key n dir k) (is_set_key (read mid) setter folder k)
      (or_from (k.file == n) (is_index_key_of dir k) own (index-inside k inner.0))
      (or_from (is_times_key (dir ∷ []) k) (is_entries_key (read mid) (dir ∷ []) k)
      (less-times (k.kind == STANDARD_INFORMATION) (length k.name == 0) (n == k.file) ((dir == k.file) || false) times.0)
      (less-entries (k.kind == INDEX_ROOT) (k.kind == INDEX_ALLOCATION) (k.kind == BITMAP) (bytes_eq k.name (wide (codes "$I30")))
      (has_entry_of tree files k.file) (has_entry_of next.machine.tree files k.file) (has_entry_of (read mid) (dir ∷ []) k.file) less
      inner.0))

  free-low : (f : ℕ) → f < 4 → (kind : ℕ) → changed (key_of f kind []) ≡ false
  free-low f few kind =
      let ordinary = base.ordinary before next n file parent name mid staged s in
      or_from (is_gone_key n dir (key_of f kind [])) (is_set_key (read mid) setter folder (key_of f kind []))
      (or_from (f == n) (is_index_key_of dir (key_of f kind [])) (ne_eqb f n (λ is. omega (arith, is, few, ordinary)))
      (and_right (is_index_kind kind) false refl))
      (s.behind.firsts f few kind [])

  -- BOTH CALLS as one
  both : (wants : Wants) → Within (also (going_wants n) nothing) wants
      → Edited changed wants old staged (marks_of s.was) (marks_of s.now)
  both wants within =
      let is = base.is_gone before next n file parent name mid staged s in
      let lies = s.behind.stands.apart in
      Edited-then (is_gone_key n dir) (is_set_key (read mid) setter folder) (going_wants n) nothing wants old mid staged
      (marks_of s.was) (marks_of s.now) (marks_of s.now) within is.calls.edited
      (rewrite.edited (is_set_key (read mid) setter folder) nothing mid staged (marks_of s.now) s.behind.rewrites lies.owners lies.some
      lies.unnamed (set-no_room (read mid) setter folder (records_of mid) refl s.behind.shown) is.right s.behind.sound)

  -- THE BILL is empty.
  bill-is : (path : List (List ℕ)) → bill_of old tree (c.Rm path) leads ≡ empty_bill
  bill-is path =
      subst (λ (t : Tree). bill_of old t (c.Rm path) (at_gone t n name) ≡ empty_bill) s.stands.reading
      (bill-gone old path n name s.can.directory.sound s.can.only s.exit
      (subst (λ (t : Tree). IsUnlinked (at_gone t n name)) (sym s.stands.reading) s.unlinked))

  -- the file is that which the command takes away
  abbrev goes : List (List ℕ) → ℕ → Bool
  goes path = goes_by tree (c.Rm path) leads

  its-going : (path : List (List ℕ)) (f : ℕ) → (f == n) ≡ true → goes path f ≡ true
  its-going path f is = and_from (f == n) (is_last_name tree (link_for n name)) is last

  pub calls : (path : List (List ℕ)) (made : ℕ) → CallsOf before next (c.Rm path) leads made
  calls path made =
      let plan = empty_plan old in
      let bill = bill_of old tree (c.Rm path) leads in
      let some = s.can.directory.apart.some in
      let few : records_wanted bill ≡ 0 = ap records_wanted (bill-is path) in
      record {
        changed = changed;
        inside = inside path made;
        no_log = free-low LOG_FILE (omega arith) DATA;
        no_mark = free-low VOLUME (omega arith) VOLUME_INFORMATION;
        plan = plan;
        units = λ f. 0;
        size = refl;
        large = omega (arith, some);
        apart = tt;
        planned = IsPlanned-by plan (room_of old plan) bill (goes path) (λ f. 0) refl (λ f. omega arith) (λ f is. refl);
        touched = subst (λ (b : Bill). AreTouched plan (room_of old plan) [] b.touched) (sym (bill-is path)) tt;
        few = omega (arith, few);
        tabled = tabled-of before.image old s.stands.volume s.stands.sound;
        was = marks_of s.was;
        now = marks_of s.now;
        start = editable-sound old (marks_of s.was) s.stands.sound s.right;
        staged = staged;
        edited = both (wants_of plan bill (goes path) (λ f. 0))
            (subst (λ (b : Bill). Within (also (going_wants n) nothing) (wants_of plan b (goes path) (λ f. 0))) (sym (bill-is path))
            (gone-within plan n (goes path) (its-going path)));
        marked = s.behind.first.marked;
      }
