-- FROM STEP TO STEP, and out of them.
use Rattle.std.proofs.Common.{◌≡◌, ◌≤◌, ◌||◌, ℕ, Bool, true, false, length, Option, Some, None, refl, sym, ap, subst, inl}
use Rattle.std.proofs.Common.{inr, ◌∙◌, arith}
use Rattle.std.proofs.lemmas.Bool.{cases_eq, leb-true}
use Rattle.std.proofs.lemmas.List.{nil_from_length}
use Rattle.list_laws.proofs.SameItemsLaws.{SameItems-same}
use Rattle.volume_def.specs.ExtentsClause.{MeetsExtents}
use Rattle.volume_def.specs.Files.{Record, file_of, parts, record_on, records_of}
use Rattle.volume_def.specs.ListsClause.{HasRightList}
use Rattle.volume_def.specs.Table.{TableLayout, cluster_bytes}
use Rattle.volume_def.specs.View.{VolumeView}
use Rattle.edit_def.specs.Account.{Wants, Within, also, nothing}
use Rattle.edit_def.specs.Edited.{Edited, is_bare, is_list_key, is_room_key}
use Rattle.edit_def.specs.Kept.{Key, either, same_key}
use Rattle.edit_def.specs.Marks.{Marks}
use Rattle.edit_def.specs.Purses.{Costs, ListCosts, room_of}
use Rattle.edit_def.proofs.AccountLaws.{Keeps-then}
use Rattle.edit_def.proofs.FormLaws.{KeepsForms-more, KeepsForms-then}
use Rattle.edit_def.proofs.KeptLaws.{KeepsBut-then, KeepsFile-more}
use Rattle.edit_def.proofs.PlaceLaws.{in_place-then}
use Rattle.record_edits.specs.Between.{IsReady}
use Rattle.record_edits.specs.Pending.{IsPending, Stepped}
use Rattle.record_edits.specs.RecordEdit.{EditsPart, parts_made}
use Rattle.record_edits.proofs.ClauseEdits as clauses
use Rattle.record_edits.specs.Whole.{IsWhole}
use Rattle.record_edits.proofs.PendingStates.{edited-from, meets-list, pending-mended, ready-from}
use Rattle.record_edits.proofs.PlaceEdits.{spends-same}
use Rattle.record_edits.proofs.RecordEdits.{keeps-room, stepped-edit}
use Rattle.file_edits.specs.Steps.{LeavesNoneBare, ShrinksList}
use Rattle.file_edits.proofs.ListRoom.{Keeps-list, Keeps-shrunk}

four : (r a b : Bool) → (r || (a || b)) ≡ false → ((r || a) || (r || b)) ≡ false
four true a b e = cc
four false true b e = cc
four false false b e = e

pub stepped-then : (f : ℕ) (l lags a b : Key → Bool) (v w c : Wants) (old mid new : VolumeView) (was between now : Marks)
    → Within (also v w) c → Stepped f l a v old mid was between → Stepped f lags b w mid new between now
    → Stepped f lags (either a b) c old new was now
stepped-then f l lags a b v w c old mid new was between now within x y = record {
  told = y.told ∙ x.told;
  volume = record {
    cluster_sectors = y.volume.cluster_sectors ∙ x.volume.cluster_sectors;
    clusters = y.volume.clusters ∙ x.volume.clusters;
    mirror = y.volume.mirror ∙ x.volume.mirror;
    count = let p = x.volume.count in let q = y.volume.count in omega (arith, p, q);
  };
  rest = λ k. y.rest k ∙ x.rest k;
  kept = λ g. KeepsFile-more (either (either is_room_key a) (either is_room_key b)) (either is_room_key (either a b)) old new g
      (λ key e. four (is_room_key key) (a key) (b key) e)
      (KeepsBut-then (either is_room_key a) (either is_room_key b) old mid new x.kept y.kept g);
  forms = λ g. KeepsForms-more (either (either is_list_key a) (either is_list_key b)) (either is_list_key (either a b)) old new g
      (λ key e. four (is_list_key key) (a key) (b key) e)
      (KeepsForms-then (either is_list_key a) (either is_list_key b) old mid new g (x.forms g) (y.forms g));
  places = in_place-then old mid new x.volume y.volume x.places y.places;
  spent = Keeps-then (room_of old) (room_of mid) (room_of new) v w c within x.spent y.spent;
  pending = y.pending;
  system = λ n low none. y.system n low (x.system n low none);
  others = λ n r at other. x.others n r (y.others n r at other) other;
}

-- AN ATTRIBUTE THAT IS WHOLE AGAIN lags no more.
pub stepped-mended : (key : Key) (lags changed : Key → Bool) (wants : Wants) (old new : VolumeView) (was now : Marks)
    → Stepped key.file (either (same_key key) lags) changed wants old new was now → IsWhole new key
    → Stepped key.file lags changed wants old new was now
stepped-mended key lags changed wants old new was now s whole = record {
  told = s.told;
  volume = s.volume;
  rest = s.rest;
  kept = s.kept;
  forms = s.forms;
  places = s.places;
  spent = s.spent;
  pending = pending-mended key lags new now whole s.pending;
  system = s.system;
  others = s.others;
}

-- OUT OF THEM: the attributes are whole, the list is right, and no record of the file came to be bare.
module _ (f : ℕ) (lags changed : Key → Bool) (wants : Wants) (old new : VolumeView) (was now : Marks)
    (s : Stepped f lags changed wants old new was now) (whole : MeetsExtents (records_of new) (cluster_bytes new.layout) f)
    (list : HasRightList new f (parts (records_of new) f)) where
  pub ready-steps : IsReady new now
  ready-steps = ready-from f lags new now (meets-list new f list) whole s.pending

  held : LeavesNoneBare old new f → (n : ℕ) → is_bare (record_on new n) ≡ true → is_bare (record_on old n) ≡ true
  held none n bare = by (record_on new n) refl bare
    where
      by : (o : Option Record) → record_on new n ≡ o → is_bare o ≡ true → is_bare (record_on old n) ≡ true
      by None at e = cc
      by (Some r) at e = elim (cases_eq (file_of n r) f) [
        | inr other ↦ ap is_bare (s.others n r at other) ∙ e
        | inl own ↦ none n r at own (nil_from_length r.parts (let few = leb-true (length r.parts) 0 e in omega (arith, few)))
      ]

  pub edited-steps : LeavesNoneBare old new f → Edited changed wants old new was now
  edited-steps none = edited-from f lags changed wants old new was now s (meets-list new f list) whole (held none)

-- NOTHING DONE is a step.
pub stepped-none : (f : ℕ) (lags : Key → Bool) (view : VolumeView) (marks : Marks) → IsPending f lags view marks
    → Stepped f lags (λ key. false) nothing view view marks marks
stepped-none f lags view marks was = record {
  told = refl;
  volume = record { cluster_sectors = refl; clusters = refl; mirror = refl; count = omega arith };
  rest = λ k. refl;
  kept = λ g. record {
    told = SameItems-same _ _ refl;
    order = inl refl;
    spots = λ kind name free vcn. refl;
    clusters = λ kind name free vcn c at. refl;
  };
  forms = λ g. SameItems-same _ _ refl;
  places = record {
    mirror = record { told = SameItems-same _ _ refl; spots = λ vcn. refl };
    mirror_end = λ vcn c behind at. refl;
    table = record { spots = λ vcn c at. at; flags = refl };
    table_bits = record { spots = λ vcn c at. at; flags = refl };
    cluster_bits = record { told = SameItems-same _ _ refl; spots = λ vcn. refl };
    bits = record { system = λ n low. refl; past = λ n past one. one; clusters = λ n past. refl };
  };
  spent = λ plan pos planned. spends-same plan (room_of view plan);
  pending = was;
  system = λ n low none. none;
  others = λ n r at other. at;
}

-- AN EDIT OF ONE RECORD is a step, by what it costs; and so is one of the list.
pub step-edit : (key : Key) (lags : Key → Bool) (wants : Wants) (old new : VolumeView) (before after : Marks)
    → (e : EditsPart key old new before after)
    → Costs (records_of old) (records_of new) e.n key.file (parts_made e.n e.was) (parts_made e.n e.now) wants
    → IsPending key.file lags old before → Stepped key.file (either (same_key key) lags) (same_key key) wants old new before after
step-edit key lags wants old new before after e costs = stepped-edit key old new before after e lags wants
    (keeps-room key old new before after e wants costs)

pub step-list : (key : Key) (lags : Key → Bool) (wants : Wants) (old new : VolumeView) (before after : Marks)
    → (e : EditsPart key old new before after)
    → ListCosts (records_of old) (records_of new) e.n key.file (cluster_bytes old.layout) (parts_made e.n e.was) (parts_made e.n e.now)
    → 1 ≤ wants.parts key.file → IsPending key.file lags old before
    → Stepped key.file (either (same_key key) lags) (same_key key) wants old new before after
step-list key lags wants old new before after e costs some =
    let layout = clauses.layout key old new before after e in
    stepped-edit key old new before after e lags wants
    (Keeps-list old new e.n (parts_made e.n e.was) (parts_made e.n e.now) wants (ap (λ (l : TableLayout). l.clusters) layout)
    (ap cluster_bytes layout)
    (clauses.edit key old new before after e)
    (subst (λ f. ListCosts (records_of old) (records_of new) e.n f (cluster_bytes old.layout) (parts_made e.n e.was)
    (parts_made e.n e.now)) (sym e.file) costs)
    (subst (λ f. 1 ≤ wants.parts f) (sym e.file) some))

-- .. which costs nothing where it owns no more clusters than it owned
pub step-shrunk : (key : Key) (lags : Key → Bool) (wants : Wants) (old new : VolumeView) (before after : Marks)
    → (e : EditsPart key old new before after)
    → ShrinksList wants.goes (records_of old) (records_of new) e.n (parts_made e.n e.was) (parts_made e.n e.now)
    → IsPending key.file lags old before → Stepped key.file (either (same_key key) lags) (same_key key) wants old new before after
step-shrunk key lags wants old new before after e less =
    let layout = clauses.layout key old new before after e in
    stepped-edit key old new before after e lags wants
    (Keeps-shrunk old new e.n (parts_made e.n e.was) (parts_made e.n e.now) wants (ap (λ (l : TableLayout). l.clusters) layout)
    (ap cluster_bytes layout) (clauses.edit key old new before after e) less)
