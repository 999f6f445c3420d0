-- ONE STREAM EDITED is a call that names its attribute and takes the clusters that it got, on a sound volume whose clusters lie apart. The
-- bits in memory are those that are right (`right_marks`), before and after, so none are parameters; `edited-any` has the call for any that
-- are right.
use Rattle.std.proofs.Common.{◌≡◌, ◌≢◌, ◌⊎◌, ◌+◌, ◌≤◌, ◌<◌, ◌||◌, ℕ, Bool, true, false, List, [], ◌∷◌, Option, Some, None, refl, sym, ap}
use Rattle.std.proofs.Common.{subst, inl, inr, filter, length, map, ◌∙◌, arith}
use mathlib.Core.Path.{fun_ext}
use Rattle.std.specs.List.{range_with_len}
use Rattle.std.specs.Option.{option_to_list}
use Rattle.std.specs.Prelude.{All, IfSome, IsTrue, count_by, is_none, is_some, nat_le, slice_get, sum_by}
use Rattle.std.proofs.lemmas.Bool.{cases_eq, cases_lt, le-leb}
use Rattle.std.proofs.lemmas.Option.{slice_get_past}
use Rattle.ntfs_def.specs.Attribute.{Attribute, attributes}
use Rattle.ntfs_def.specs.Fixup.{opened_of}
use Rattle.ntfs_def.specs.declared.kinds.TheConstants.{ATTRIBUTE_LIST}
use Rattle.ntfs_def.specs.declared.records.TheConstants.{MFT}
use Rattle.list_laws.proofs.MemberLaws.{Contains-only}
use Rattle.list_laws.proofs.PieceLaws.{All-one}
use Rattle.volume_def.specs.AttributesClause.{is_standard}
use Rattle.volume_def.specs.BitmapClauses.{cluster_bits, record_bits}
use Rattle.volume_def.specs.Coverage.{times_covered}
use Rattle.volume_def.specs.Edits.{EditsAt}
use Rattle.volume_def.specs.ExtentsClause.{AreAttribute}
use Rattle.volume_def.specs.Files.{Part, Records, file_of, is_base, is_of, part_of, parts, parts_at, record_of, record_on, records_of}
use Rattle.volume_def.specs.LimitsClause.{IsInLimits}
use Rattle.volume_def.specs.ListsClause.{is_list}
use Rattle.volume_def.specs.OwnersClause.{MeetsOwners, times_owned}
use Rattle.volume_def.specs.Sound.{IsSound}
use Rattle.volume_def.specs.Sound as clauses
use Rattle.volume_def.specs.Table.{TableLayout, cluster_bytes}
use Rattle.volume_def.specs.Values.{KeepsClusters, value_on}
use Rattle.volume_def.specs.View.{VolumeView}
use Rattle.volume_edits.specs.Rewritten.{EditsBlock}
use Rattle.edit_def.specs.Account.{Wants, Within, also, nothing}
use Rattle.edit_def.specs.Edited.{Edited}
use Rattle.edit_def.specs.Kept.{Key, key_of, same_key}
use Rattle.edit_def.specs.Marks.{AreRight, Marks}
use Rattle.edit_def.specs.Purses.{Costs, run_size}
use Rattle.edit_def.proofs.EditedLaws.{Edited-then}
use Rattle.edit_def.proofs.NamesLaws.{bases-of}
use Rattle.record_edits.specs.Between.{IsReady}
use Rattle.record_edits.specs.InPlace.{is_bits_key}
use Rattle.record_edits.specs.Owners.{FollowsRuns, NamesRightly, times_in}
use Rattle.record_edits.specs.RecordEdit.{AllHave, EditsPart, EditsRecord, HasKey, parts_made}
use Rattle.record_edits.specs.Whole.{IsWhole}
use Rattle.record_edits.proofs.BlockEdits.{apart-from, edit-of}
use Rattle.record_edits.proofs.CostLaws.{costs-drop, costs-put}
use Rattle.record_edits.proofs.FileEdits.{list-missing}
use Rattle.record_edits.proofs.FillLaws.{held}
use Rattle.record_edits.proofs.OwnerEdits.{times-edit}
use Rattle.record_edits.proofs.RecordEdits as call
use Rattle.record_edits.proofs.RoomEdits.{used-kept}
use Rattle.record_edits.proofs.WholeEdits as whole
use Rattle.stream_overwrites.specs.Below.{IsInOneRecord, record_there}
use Rattle.stream_overwrites.proofs.Below.{has-none}
use Rattle.stream_overwrites.proofs.Below as below
use Rattle.in_place_owed.specs.Below.{LiesApart}
use Rattle.in_place_owed.proofs.Below.{editable-sound}
use Rattle.in_place_owed.proofs.MarksLaws.{marks-right, right_marks}
use Rattle.value_edits.specs.ValueEdits.{ComesInPlace, EditsAlone, only_clusters}
use Rattle.value_edits.proofs.Prepared as before
use Rattle.value_edits.proofs.Prepared.{owners-ready}

-- Such a volume is ready for a call, and one that is ready lies apart.
pub ready-sound : (view : VolumeView) (marks : Marks) → IsSound view → LiesApart view → AreRight view marks → IsReady view marks
ready-sound view marks sound apart right = record {
  editable = editable-sound view marks sound right;
  limits = sound clauses.Limits;
  bases = bases-of (records_of view) (sound clauses.References);
  table = record { table = apart.owners.table; unnamed = apart.unnamed; some = apart.some };
}

apart-ready : (view : VolumeView) (marks : Marks) → IsReady view marks → LiesApart view
apart-ready view marks ready = record {
  owners = owners-ready view marks ready;
  some = ready.table.some;
  unnamed = ready.table.unnamed;
}

or-same : (b : Bool) → (b || b) ≡ b
or-same true = refl
or-same false = refl

-- a call that takes nothing, and one behind it
nothing-first : (a : Wants) → Within (also nothing a) a
nothing-first a = record {
  clusters = omega arith;
  parts = λ f. omega arith;
  units = λ f. omega arith;
  goes = λ f is. is;
  records = omega arith;
}

module _ (key : Key) (old new : VolumeView) (sound : IsSound old) (apart : LiesApart old) {gains : ℕ → Bool}
    (e : EditsAlone key gains old new) where
  abbrev mid : VolumeView
  mid = e.mid

  abbrev f : ℕ
  f = key.file

  abbrev was : List Attribute
  was = e.was ∷ []

  abbrev now : List Attribute
  now = option_to_list e.now

  abbrev marks_was : Marks
  marks_was = right_marks old

  abbrev marks_now : Marks
  marks_now = right_marks new

  -- what it takes
  abbrev pub wants : Wants
  wants = only_clusters (sum_by run_size e.taken)

  ready-old : IsReady old marks_was
  ready-old = ready-sound old marks_was sound apart (marks-right old)

  -- BEFORE THE RECORD: records, and what they own, are as they were.
  pub records-mid : records_of mid ≡ records_of old
  records-mid = before.records-mid key old mid e.given e.taken e.prepares

  pub layout-mid : mid.layout ≡ old.layout
  layout-mid = before.layout-mid key old mid e.given e.taken e.prepares

  abbrev edit : EditsAt (records_of mid) (records_of new) f (parts_made f was) (parts_made f now)
  edit = edit-of mid new f e.stored was now e.block

  -- the clusters that it had are owned, and those that it gets are not
  pub held-was : (c : ℕ) → times_in (parts_made f was) c ≤ times_owned (records_of old) c
  held-was c =
      let named = held (records_of mid) (records_of new) f (parts_made f was) (parts_made f now) edit c in
      let same = ap (λ (r : Records). times_owned r c) records-mid in
      omega (arith, named, same)

  -- each that was given back was a cluster of the stream
  owned : (c : ℕ) → times_covered e.given c ≤ times_owned (records_of old) c
  owned c = elim (cases_eq (times_covered e.taken c) 0) [
    | inl none ↦ let most = held-was c in omega (arith, most, e.balance c, none)
    | inr some ↦ let none = e.prepares.differ c (omega (arith, some)) in omega (arith, none)
  ]

  edited-mid : Edited (same_key key) nothing old mid marks_was marks_was
  edited-mid = before.edited-mid key old mid e.given e.taken e.prepares e.kind e.one.may marks_was ready-old owned

  pub ready-mid : IsReady mid marks_was
  ready-mid = before.ready-mid key old mid e.given e.taken e.prepares e.kind e.one.may marks_was ready-old owned

  pub apart-mid : LiesApart mid
  apart-mid = apart-ready mid marks_was ready-mid

  pub apart-freed : LiesApart e.prepares.freed
  apart-freed = apart-ready e.prepares.freed marks_was
      (before.ready-freed key old mid e.given e.taken e.prepares e.kind e.one.may marks_was ready-old owned)

  pub apart-flagged : LiesApart e.prepares.flagged
  apart-flagged = apart-ready e.prepares.flagged marks_was
      (before.ready-flagged key old mid e.given e.taken e.prepares e.kind e.one.may marks_was ready-old owned)

  -- clusters of other attributes hold what they held, and the bitmaps are those of the volume where the clusters were given back and taken
  pub clusters-mid : (g kind : ℕ) (name : List ℕ) → same_key key (key_of g kind name) ≡ false → is_bits_key (key_of g kind name) ≡ false
      → KeepsClusters old mid (parts_at old g kind name)
  clusters-mid g kind name free bits vcn c at =
      before.clusters-filled key old mid e.given e.taken e.prepares e.kind e.one.may marks_was ready-old owned g kind name free vcn c at
      ∙ before.clusters-flagged key old mid e.given e.taken e.prepares e.kind e.one.may marks_was ready-old owned g kind name bits vcn c at

  -- those of the stream hold what they held until bytes are put into them
  pub clusters-flagged : (g kind : ℕ) (name : List ℕ) → is_bits_key (key_of g kind name) ≡ false
      → KeepsClusters old e.prepares.flagged (parts_at old g kind name)
  clusters-flagged = before.clusters-flagged key old mid e.given e.taken e.prepares e.kind e.one.may marks_was ready-old owned

  pub flags-mid : value_on mid (cluster_bits mid) ≡ value_on e.prepares.flagged (cluster_bits e.prepares.flagged)
  flags-mid = before.flags-mid key old mid e.given e.taken e.prepares e.kind e.one.may marks_was ready-old owned

  pub rows-mid : value_on mid (record_bits mid) ≡ value_on old (record_bits old)
  rows-mid = before.rows-mid key old mid e.given e.taken e.prepares e.kind e.one.may marks_was ready-old owned

  pub one-mid : IsInOneRecord mid f
  one-mid = record {
    base = subst (λ (block : List ℕ). IsTrue (is_base (record_of f (opened_of block))))
        (sym (before.blocks-mid key old mid e.given e.taken e.prepares f)) e.one.base;
    may = e.one.may;
    no_list = subst (λ (r : Records). count_by is_list (parts r f) ≡ 0) (sym records-mid) e.one.no_list;
  }

  -- THE RECORD THEN: the clusters that go had an owner each, those that come had none, and the bits follow.
  own-file : file_of f (record_there mid f) ≡ f
  own-file = below.own-file f mid new marks_was ready-mid one-mid e.stored was now e.block

  owners : (c : ℕ) → MeetsOwners (records_of mid) mid.layout.clusters c
  owners = ready-mid.editable.owners

  -- how often a cluster is owned then
  times-now : (c : ℕ) → times_owned (records_of new) c + times_in (parts_made f was) c
      ≡ times_owned (records_of old) c + times_in (parts_made f now) c
  times-now c =
      let all = times-edit (records_of mid) (records_of new) f (parts_made f was) (parts_made f now) c edit in
      let same = ap (λ (r : Records). times_owned r c) records-mid in
      omega (arith, all, same)

  pub owned-now : (c : ℕ) → times_owned (records_of new) c + times_covered e.given c
      ≡ times_owned (records_of old) c + times_covered e.taken c
  owned-now c = let all = times-now c in let most = held-was c in omega (arith, all, most, e.balance c)

  pub layout : new.layout ≡ old.layout
  layout = e.block.replaces.layout ∙ layout-mid

  clusters : new.layout.clusters ≡ old.layout.clusters
  clusters = ap (λ (l : TableLayout). l.clusters) layout

  once : (c : ℕ) → times_owned (records_of old) c ≤ 1
  once c = (ready-old.editable.owners c).once

  -- one that comes
  fresh : (c : ℕ) → 1 ≤ times_in (parts_made f now) c → times_in (parts_made f was) c ≡ 0
      → (c < mid.layout.clusters) × (times_owned (records_of mid) c ≡ 0)
  fresh c some none =
      let taken : 1 ≤ times_covered e.taken c = omega (arith, e.balance c, some, none) in (
        subst (λ (l : TableLayout). c < l.clusters) (sym layout-mid) (e.prepares.inside c taken),
        ap (λ (r : Records). times_owned r c) records-mid ∙ e.prepares.unowned c taken,
      )

  none-twice : (c : ℕ) → times_in (parts_made f now) c ≤ 1
  none-twice c = elim (cases_eq (times_covered e.taken c) 0) [
    | inl none ↦ let most = held-was c in omega (arith, most, e.balance c, none, once c)
    | inr some ↦
        let taken : 1 ≤ times_covered e.taken c = omega (arith, some) in
        let most = held-was c in
        omega (arith, most, e.balance c, e.prepares.unowned c taken, e.prepares.once c)
  ]

  named : NamesRightly (records_of mid) mid.layout.clusters (parts_made f was) (parts_made f now)
  named = record {
    apart = none-twice;
    on_volume = λ c some none. (fresh c some none).0;
    free = λ c some none. (fresh c some none).1;
    held = held (records_of mid) (records_of new) f (parts_made f was) (parts_made f now) edit;
  }

  -- the flag of a cluster of the volume, and of none
  flag-now : (c : ℕ) → c < old.layout.clusters → slice_get marks_now.clusters c ≡ Some (nat_le 1 (times_owned (records_of new) c))
  flag-now c inside = (marks-right new).taken c (omega (arith, inside, clusters))

  set : (c : ℕ) → c < length marks_was.clusters → times_in (parts_made f was) c < times_in (parts_made f now) c
      → slice_get marks_now.clusters c ≡ Some true
  set c inside more =
      let long = (marks-right old).count in
      let one : 1 ≤ times_owned (records_of new) c = let all = times-now c in let most = held-was c in omega (arith, all, most, more) in
      flag-now c (omega (arith, inside, long)) ∙ ap (λ (b : Bool). Some b) (le-leb 1 (times_owned (records_of new) c) one)

  clear : (c : ℕ) → c < length marks_was.clusters → times_in (parts_made f now) c < times_in (parts_made f was) c
      → slice_get marks_now.clusters c ≡ Some false
  clear c inside less =
      let long = (marks-right old).count in
      let none : times_owned (records_of new) c ≡ 0 =
      let all = times-now c in let most = held-was c in omega (arith, all, most, less, once c) in
      flag-now c (omega (arith, inside, long)) ∙ ap (λ (times : ℕ). Some (nat_le 1 times)) none

  still : (c : ℕ) → times_in (parts_made f now) c ≡ times_in (parts_made f was) c
      → times_owned (records_of new) c ≡ times_owned (records_of old) c
  still c alike = let all = times-now c in omega (arith, all, alike)

  flags-still : (c : ℕ) → times_in (parts_made f now) c ≡ times_in (parts_made f was) c
      → slice_get marks_now.clusters c ≡ slice_get marks_was.clusters c
  flags-still c alike = elim (cases_lt c old.layout.clusters) [
    | inl inside ↦
        flag-now c inside ∙ ap (λ (times : ℕ). Some (nat_le 1 times)) (still c alike) ∙ sym ((marks-right old).taken c inside)
    | inr past ↦
        slice_get_past marks_now.clusters c (omega (arith, past, clusters, (marks-right new).count))
        ∙ sym (slice_get_past marks_was.clusters c (omega (arith, past, (marks-right old).count)))
  ]

  follows : FollowsRuns marks_was.clusters marks_now.clusters (parts_made f was) (parts_made f now)
  follows = record {
    count = omega (arith, clusters, (marks-right new).count, (marks-right old).count);
    taken = set;
    given = clear;
    kept = flags-still;
  }

  pub used-still : (n : ℕ) → is_some (record_on new n) ≡ is_some (record_on old n)
  used-still n =
      used-kept (records_of mid) (records_of new) f (parts_made f was) (parts_made f now) edit n
      ∙ ap (λ (r : Records). is_some (r.record_at n)) records-mid

  rows : marks_now.records ≡ marks_was.records
  rows =
      ap (λ (test : ℕ → Bool). map test (range_with_len 0 new.layout.count)) (fun_ext used-still)
      ∙ ap (λ (l : TableLayout). map (λ n. is_some (record_on old n)) (range_with_len 0 l.count)) layout

  -- WHAT COMES is of the attribute, in limits, and whole.
  has-now : (next : Option Attribute) → IfSome next (ComesInPlace old f gains (sum_by run_size e.taken) e.was)
      → AllHave key (option_to_list next)
  has-now None comes = has-none key
  has-now (Some a) comes =
      All-one (HasKey key) a (record { kind = comes.kind ∙ e.was_of.kind; name = comes.name ∙ e.was_of.name })

  limits-now : (next : Option Attribute) → IfSome next (ComesInPlace old f gains (sum_by run_size e.taken) e.was)
      → All (IsInLimits f) (parts_made f (option_to_list next))
  limits-now None comes = λ k d lt. absurd (omega (arith, lt))
  limits-now (Some a) comes = All-one (IsInLimits f) (part_of f a) comes.limits

  whole-now : (next : Option Attribute) → IfSome next (ComesInPlace old f gains (sum_by run_size e.taken) e.was)
      → (parts_made f (option_to_list next) ≡ []) ⊎ AreAttribute (cluster_bytes old.layout) f (parts_made f (option_to_list next))
  whole-now None comes = inl refl
  whole-now (Some a) comes = inr comes.whole

  not-table : f ≢ MFT
  not-table = apart-from f MFT e.one.may (omega arith) (λ z. absurd (omega (arith, z)))

  no-list : e.was.kind ≢ ATTRIBUTE_LIST
  no-list is = let kind = e.was_of.kind in let stream = e.kind in absurd (omega (arith, is, kind, stream))

  costs-now : (comes : Option Attribute) → EditsBlock mid new f e.stored was (option_to_list comes)
      → IfSome comes (ComesInPlace old f gains (sum_by run_size e.taken) e.was)
      → Costs (records_of mid) (records_of new) f f (parts_made f was) (parts_made f (option_to_list comes)) wants
  costs-now None block place =
      costs-drop (records_of mid) (records_of new) f f (parts_made f was) wants (edit-of mid new f e.stored was [] block) not-table
      (λ part c. subst (λ (p : Part). p.kind ≢ ATTRIBUTE_LIST) (Contains-only (part_of f e.was) part c) no-list)
  costs-now (Some a) block place =
      costs-put (records_of mid) (records_of new) f f (part_of f e.was) (part_of f a) wants
      (edit-of mid new f e.stored was (a ∷ []) block) own-file not-table no-list place.kind place.name (omega (arith, place.size))

  -- THE CALL
  pub part : EditsPart key mid new marks_was marks_now
  part = record {
    n = f;
    stored = e.stored;
    was = was;
    now = now;
    block = e.block;
    file = own-file;
    is_file = below.is-file f mid new marks_was ready-mid one-mid e.stored was now e.block;
    may = e.one.may;
    was_of = All-one (HasKey key) e.was e.was_of;
    now_of = has-now e.now e.comes;
    right = e.right;
    limits = limits-now e.now e.comes;
    names = named;
    follows = follows;
    rows = rows;
  }

  still-base : IsTrue (is_base (record_of f (opened_of e.stored)))
  still-base = ap is_none e.block.header.base ∙ one-mid.base

  not-bare : attributes (opened_of e.stored) ≢ []
  not-bare none =
      let count = e.right.one_standard still-base in
      let zero_of : count_by is_standard (parts_made f (attributes (opened_of e.stored))) ≡ 0 =
      ap (λ xs. count_by is_standard (parts_made f xs)) none in
      absurd (omega (arith, count, zero_of))

  -- WHERE IT STANDS: alone, and what came in its place too
  pub stood : parts_at old f key.kind key.name ≡ parts_made f was
  stood = e.stood

  stood-mid : parts_at mid f key.kind key.name ≡ parts_made f was
  stood-mid = ap (λ (r : Records). filter (is_of key.kind key.name) (parts r f)) records-mid ∙ e.stood

  pub stands : parts_at new f key.kind key.name ≡ parts_made f now
  stands =
      whole.whole mid new f e.stored was now e.block key own-file (All-one (HasKey key) e.was e.was_of) (has-now e.now e.comes) stood-mid

  whole-then : IsWhole new key
  whole-then other = elim (whole-now e.now e.comes) [
    | inl none ↦ inl (stands ∙ none)
    | inr are ↦ inr (subst (AreAttribute (cluster_bytes new.layout) f) (sym stands)
        (subst (λ (l : TableLayout). AreAttribute (cluster_bytes l) f (parts_made f now)) (sym layout) are))
  ]

  record-edit : EditsRecord key wants mid new marks_was marks_now
  unfolding part
  record-edit = record {
    part = part;
    held = not-bare;
    stream = whole-then;
    list = list-missing key mid new marks_was marks_now part ready-mid (λ z. no-list (e.was_of.kind ∙ z)) one-mid.no_list;
    costs = costs-now e.now e.block e.comes;
  }

  pub ready-new : IsReady new marks_now
  ready-new = call.ready key wants mid new marks_was marks_now record-edit ready-mid

  -- BOTH STEPS are one call.
  pub edited : Edited (same_key key) wants old new marks_was marks_now
  edited = subst (λ (changed : Key → Bool). Edited changed wants old new marks_was marks_now) (fun_ext (λ k. or-same (same_key key k)))
      (Edited-then (same_key key) (same_key key) nothing wants wants old mid new marks_was marks_was marks_now (nothing-first wants)
      edited-mid (call.edited key wants mid new marks_was marks_now record-edit ready-mid))

  pub apart-now : LiesApart new
  apart-now = apart-ready new marks_now ready-new

  -- .. whatever bits in memory are right then
  pub edited-any : (was_marks now_marks : Marks) → AreRight new now_marks → Edited (same_key key) wants old new was_marks now_marks
  edited-any was_marks now_marks are = record {
    told = edited.told;
    volume = edited.volume;
    rest = edited.rest;
    kept = edited.kept;
    forms = edited.forms;
    places = edited.places;
    spent = edited.spent;
    editable = record {
      readable = edited.editable.readable;
      owners = edited.editable.owners;
      version = edited.editable.version;
      mirror_place = edited.editable.mirror_place;
      mirror = edited.editable.mirror;
      bitmaps = edited.editable.bitmaps;
      right = are;
    };
    limits = edited.limits;
    bases = edited.bases;
    system = edited.system;
    held = edited.held;
  }
