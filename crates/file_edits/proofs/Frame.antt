-- A STEP that leaves the system, and what it is: kept attributes, headers, places and room, over what stands within a call.
use Rattle.std.proofs.Common.{◌≡◌, ◌≢◌, ◌≤◌, ◌<◌, ℕ, Bool, false, List, [], None, Some, refl, sym, ap, ◌∙◌, filter}
use Rattle.std.proofs.Common.{length, arith}
use Rattle.std.specs.Prelude.{is_some, nat_le, slice_get}
use Rattle.std.proofs.lemmas.Bool.{or_from, or_parts}
use Rattle.ntfs_def.specs.declared.kinds.TheConstants.{BITMAP, DATA}
use Rattle.ntfs_def.specs.declared.records.TheConstants.{BOOT, CLUSTER_BITMAP, FIRST_ORDINARY, MFT}
use Rattle.list_laws.specs.SameItems.{SameItems}
use Rattle.list_laws.proofs.SameItemsLaws.{SameItems-filter}
use Rattle.volume_def.specs.AttributesClause.{MeetsAttributes}
use Rattle.volume_def.specs.Coverage.{IsOutsideTable, times_covered}
use Rattle.volume_def.specs.ExtentsClause.{MeetsExtents}
use Rattle.volume_def.specs.Files.{Record, file_of, is_of, joined_runs, parts, parts_at, record_on, records_of}
use Rattle.volume_def.specs.KeptList.{KeepsList}
use Rattle.volume_def.specs.ListsClause.{MeetsLists}
use Rattle.volume_def.specs.OwnersClause.{times_owned}
use Rattle.volume_def.specs.Readable.{IsFile}
use Rattle.volume_def.specs.ShapeClause.{MeetsShape}
use Rattle.volume_def.specs.Sound.{Holds, Limits}
use Rattle.volume_def.specs.Table.{TableLayout, cluster_bytes}
use Rattle.volume_def.specs.Values.{KeepsClusters}
use Rattle.volume_def.specs.View.{VolumeView}
use Rattle.volume_edits.specs.Owners.{HasOwners}
use Rattle.edit_def.specs.Account.{Keeps, Wants}
use Rattle.edit_def.specs.Edited.{is_list_key, is_room_key, is_table_key}
use Rattle.edit_def.specs.Forms.{KeepsForms, forms_of, is_form_kept}
use Rattle.edit_def.specs.Kept.{KeepsBut, Key, either, key_of}
use Rattle.edit_def.specs.Marks.{Marks}
use Rattle.edit_def.specs.Names.{HasRightBases}
use Rattle.edit_def.specs.Places.{StaysInPlace}
use Rattle.edit_def.specs.Purses.{room_of}
use Rattle.edit_def.proofs.EditedLaws.{table-room}
use Rattle.edit_def.proofs.KeptLaws.{KeepsFile-more}
use Rattle.record_edits.specs.Pending.{IsPending, Stepped}
use Rattle.record_edits.specs.Whole.{IsWhole}
use Rattle.record_edits.proofs.BlockEdits.{attribute-stays, lists-stay, mirror_end-stays}
use Rattle.record_edits.proofs.PendingStates.{owners-pending}
use Rattle.record_edits.proofs.SystemKept.{KeepsSystem}
use Rattle.record_edits.proofs.SystemKept as system

-- nothing is named
abbrev pub none : Key → Bool
none key = false

module _ (f : ℕ) (lags : Key → Bool) (old new : VolumeView) (before after : Marks) (k : KeepsSystem old new)
    (outside : (c : ℕ) → IsOutsideTable old.layout c → new.cluster c ≡ old.cluster c) (was : IsPending f lags old before) where
  o : HasOwners old
  o = owners-pending f lags old before was

  -- CLUSTERS
  pub clusters-stay : (g kind : ℕ) (name : List ℕ) → is_table_key (key_of g kind name) ≡ false
      → KeepsClusters old new (parts_at old g kind name)
  clusters-stay = attribute-stays old new outside (owners-pending f lags old before was) was.table.some was.table.unnamed

  pub lists-kept : (g : ℕ) → KeepsList old new (parts (records_of old) g)
  lists-kept = lists-stay old new outside (owners-pending f lags old before was) was.table.some was.table.unnamed

  places : StaysInPlace old new
  places = system.places-kept old new k
      (mirror_end-stays old new outside (owners-pending f lags old before was) was.table.some was.table.unnamed)
      (system.bits-kept old new k (clusters-stay CLUSTER_BITMAP DATA [] refl) (clusters-stay MFT BITMAP [] refl))

  -- THE STATE WITHIN A CALL, where each cluster has as many owners as before
  pub state : ((n : ℕ) → MeetsShape new n) → ((n : ℕ) → MeetsAttributes (records_of new) n) → ((n : ℕ) → n ≢ f → MeetsLists new n)
      → ((n : ℕ) → n ≢ f → MeetsExtents (records_of new) (cluster_bytes new.layout) n)
      → (IsFile new f → (key : Key) → key.file ≡ f → lags key ≡ false → IsWhole new key)
      → ((c : ℕ) → times_owned (records_of new) c ≡ times_owned (records_of old) c)
      → Holds new Limits → HasRightBases (records_of new)
      → after.clusters ≡ before.clusters → length after.records ≡ length before.records
      → ((n : ℕ) → FIRST_ORDINARY ≤ n → n < new.layout.count → slice_get after.records n ≡ Some (is_some (record_on new n)))
      → IsPending f lags new after
  state shape attributes lists extents streams times limits bases clusters rows used =
      let size = ap (λ (l : TableLayout). l.clusters) k.layout in
      let boot = ap (λ all. times_covered (joined_runs (filter (is_of DATA []) all)) 0)
      (k.parts_are BOOT (omega arith) (λ z. absurd (omega (arith, z)))) in
      record {
        shape = shape;
        attributes = attributes;
        lists = lists;
        extents = extents;
        streams = streams;
        owners = λ c. record {
          boot = λ z. let least = (was.owners c).boot z in omega (arith, boot, least);
          inside = λ past. times c ∙ (was.owners c).inside (omega (arith, past, size));
          once = let once = (was.owners c).once in omega (arith, times c, once);
        };
        version = system.version-kept old new k was.version;
        mirror_place = system.place-kept old new k was.mirror_place;
        mirror = system.mirror-holds old new k was.mirror;
        bitmaps = system.bitmaps-kept old new k was.bitmaps;
        right = record {
          count = ap length clusters ∙ was.right.count ∙ sym size;
          taken = λ c lt.
              ap (λ flags. slice_get flags c) clusters ∙ was.right.taken c (omega (arith, lt, size)) ∙ ap (λ t. Some (nat_le 1 t)) (sym
              (times c));
          rows = rows ∙ was.right.rows ∙ sym (ap (λ (l : TableLayout). l.count) k.layout);
          used = used;
        };
        limits = limits;
        bases = bases;
        table = system.table-kept old new k was.table;
      }

  -- THE STEP
  pub step-named : (named : Key → Bool) (wants : Wants) → new.told ≡ old.told → ((c : ℕ) → new.rest c ≡ old.rest c)
      → KeepsBut (either is_table_key named) old new → ((g : ℕ) → KeepsForms (either is_list_key named) old new g)
      → Keeps (room_of old) (room_of new) wants → IsPending f lags new after
      → ((n : ℕ) → n < FIRST_ORDINARY → record_on old n ≡ None → record_on new n ≡ None)
      → ((n : ℕ) (r : Record) → record_on new n ≡ Some r → file_of n r ≢ f → record_on old n ≡ Some r)
      → Stepped f lags named wants old new before after
  step-named named wants told rest kept forms spent pending system_none others = record {
    told = told;
    volume = system.volume-kept old new k;
    rest = rest;
    kept = λ g. KeepsFile-more (either is_table_key named) (either is_room_key named) old new g
        (λ key free.
        let both = or_parts (is_room_key key) (named key) free in
        or_from (is_table_key key) (named key) (table-room key both.0) both.1) (kept g);
    forms = forms;
    places = places;
    spent = spent;
    pending = pending;
    system = system_none;
    others = others;
  }

  -- .. that names nothing
  pub step : (wants : Wants) → new.told ≡ old.told → ((c : ℕ) → new.rest c ≡ old.rest c) → KeepsBut is_table_key old new
      → ((g : ℕ) → SameItems (forms_of old g) (forms_of new g)) → Keeps (room_of old) (room_of new) wants → IsPending f lags new after
      → ((n : ℕ) → n < FIRST_ORDINARY → record_on old n ≡ None → record_on new n ≡ None)
      → ((n : ℕ) (r : Record) → record_on new n ≡ Some r → file_of n r ≢ f → record_on old n ≡ Some r)
      → Stepped f lags none wants old new before after
  step wants told rest kept forms spent pending system_none others =
      step-named none wants told rest
      (λ g. KeepsFile-more is_table_key (either is_table_key none) old new g (λ key free. (or_parts (is_table_key key) false free).0)
      (kept g))
      (λ g. SameItems-filter (is_form_kept (either is_list_key none) g) (forms_of old g) (forms_of new g) (forms g))
      spent pending system_none others
