-- CLUSTERS WRITTEN IN PLACE keep the promise of a call, and leave what stands between calls.
use Rattle.std.proofs.Common.{◌≡◌, ◌≢◌, ◌≤◌, ◌<◌, ◌==◌, ℕ, Bool, false, cond, List, [], ◌∷◌, filter, map, Option}
use Rattle.std.proofs.Common.{Some, None}
use Rattle.std.proofs.Common.{refl, sym, ap, subst, inl, inr, ◌∙◌, arith}
use mathlib.Core.Path.{fun_ext}
use Rattle.std.specs.List.{Contains, flat_map, range_with_len}
use Rattle.std.specs.Option.{option_map_or}
use Rattle.std.specs.Prelude.{IfSome, IsSomeAnd, IsTrue, is_some, nat_le, nat_lt}
use Rattle.std.proofs.lemmas.Bool.{both_ways, cases_eq, eqb-true}
use Rattle.ntfs_def.specs.Attribute.{attributes}
use Rattle.ntfs_def.specs.Fixup.{opened_of}
use Rattle.ntfs_def.specs.Record.{is_in_use}
use Rattle.ntfs_def.specs.declared.kinds.TheConstants.{ATTRIBUTE_LIST, BITMAP, DATA}
use Rattle.ntfs_def.specs.declared.records.TheConstants.{CLUSTER_BITMAP, MFT, MFT_MIRROR}
use Rattle.list_laws.proofs.MemberLaws.{All-from_Contains, Contains-only}
use Rattle.list_laws.proofs.SameItemsLaws.{SameItems-same}
use Rattle.volume_def.specs.AttributesClause.{MeetsAttributes}
use Rattle.volume_def.specs.Coverage.{times_covered}
use Rattle.volume_def.specs.ExtentsClause.{MeetsExtents}
use Rattle.volume_def.specs.Files.{Part, Record, Records, file_of, is_base, is_of, part_runs, parts, parts_at, record_in, record_on}
use Rattle.volume_def.specs.Files.{records_of}
use Rattle.volume_def.specs.KeptList.{KeepsList}
use Rattle.volume_def.specs.LimitsClause.{MeetsLimits}
use Rattle.volume_def.specs.ListsClause.{HasRightList, MeetsLists, entries_in, is_list}
use Rattle.volume_def.specs.OwnersClause.{MeetsOwners, times_owned}
use Rattle.volume_def.specs.Table.{IsWellFormed, TableLayout, cluster_bytes}
use Rattle.volume_def.specs.Values.{KeepsClusters, is_first, spot_at}
use Rattle.volume_def.specs.View.{VolumeView}
use Rattle.volume_def.proofs.OtherListLaws.{HasRightList-kept}
use Rattle.volume_def.proofs.ValueLaws.{spot_at-owned}
use Rattle.volume_edits.specs.Owners.{HasOwners}
use Rattle.volume_edits.proofs.OwnerLaws.{files-apart, no-shared, owned-once}
use Rattle.edit_def.specs.Account.{Plan, Room, Spends, nothing}
use Rattle.edit_def.specs.Edited.{is_list_key, is_room_key}
use Rattle.edit_def.specs.Forms.{attributes_on, begins, form_of, forms_of, is_form_kept}
use Rattle.edit_def.specs.Kept.{KeepsBut, Key, either, is_kept, key_of, told_by}
use Rattle.edit_def.specs.Marks.{AreRight, Marks}
use Rattle.edit_def.specs.Names.{HasRightBases}
use Rattle.edit_def.specs.Places.{KeepsBits, KeepsMirrorEnd}
use Rattle.edit_def.specs.Purses.{room_in, room_of}
use Rattle.edit_def.proofs.KeptLaws.{KeepsFile-more}
use Rattle.record_edits.specs.InPlace.{IsUnnamed, WritesInPlace}
use Rattle.record_edits.specs.Pending.{IsPending, Stepped}
use Rattle.record_edits.proofs.BlockEdits.{part-at}
use Rattle.record_edits.proofs.PendingStates.{owners-pending}
use Rattle.record_edits.proofs.RoomEdits.{rows-self}
use Rattle.record_edits.proofs.SystemKept.{KeepsSystem}
use Rattle.record_edits.proofs.SystemKept as system
use Rattle.record_edits.proofs.WholeLaws.{whole-still}

-- What a part has that is not named, no named attribute has, where no cluster has two owners.
pub part-unnamed : (changed : Key → Bool) (view : VolumeView) → HasOwners view → (g : ℕ) (part : Part) (c : ℕ)
    → Contains (parts (records_of view) g) part → changed (key_of g part.kind part.name) ≡ false → 1 ≤ times_covered (part_runs part) c
    → IsUnnamed changed view c
part-unnamed changed view o g part c among free covered f kind name named vcn at =
    let owned = spot_at-owned (parts_at view f kind name) vcn c at in
    let its = part-at view f kind name owned.0 owned.1 in
    no-shared view o g f part owned.0 c among its.0 (differ owned.0 its.0 its.1 its.2) covered owned.2
  where
    differ : (other : Part) → Contains (parts (records_of view) f) other → other.kind ≡ kind → other.name ≡ name → part ≢ other
    differ other there k n same = elim (cases_eq g f) [
      | inl e ↦
          let key : changed (key_of g part.kind part.name) ≡ changed (key_of f kind name) =
          ap (λ g. changed (key_of g part.kind part.name)) e ∙ ap (λ kind. changed (key_of f kind part.name)) (ap (λ
          (p : Part). p.kind) same ∙ k)
          ∙ ap (λ name. changed (key_of f kind name)) (ap (λ (p : Part). p.name) same ∙ n) in
          both_ways _ free (key ∙ named)
      | inr ne ↦ files-apart view g f part other ne among there same
    ]

-- THE RECORDS ARE THE SAME.
records-same : (old new : VolumeView) → new.layout ≡ old.layout → ((n : ℕ) → new.block n ≡ old.block n) → records_of new ≡ records_of old
records-same old new layout blocks =
    ap (λ at. record { count = new.layout.count; record_at = at }) (fun_ext (λ n.
    ap (λ (l : TableLayout). cond (nat_lt n l.count) (record_in n (new.block n)) None) layout
    ∙ ap (λ block. cond (nat_lt n old.layout.count) (record_in n block) None) (blocks n)))
    ∙ ap (λ (l : TableLayout). record { count = l.count; record_at = record_on old }) layout

-- the same room
pub spends-same : (plan : Plan) (room : Room) → Spends plan room room nothing
spends-same plan room = record {
  size = refl;
  names = λ f. omega arith;
  volume = refl;
  values = omega arith;
  lengths = λ f. omega arith;
  lists = λ f. omega arith;
  claimed = omega arith;
  records = omega (arith, rows-self room.claimed 0 room.records);
  grows = omega arith;
  table = omega arith;
  bitmap = omega arith;
}

module _ (changed : Key → Bool) (old new : VolumeView) (w : WritesInPlace changed old new) where
  pub same : records_of new ≡ records_of old
  same = records-same old new w.layout w.blocks

  pub at-same : (n : ℕ) → record_on new n ≡ record_on old n
  at-same n = ap (λ (r : Records). r.record_at n) same

  parts-same : (f : ℕ) → parts (records_of new) f ≡ parts (records_of old) f
  parts-same f = ap (λ r. parts r f) same

  system-kept : KeepsSystem old new
  system-kept = record { layout = w.layout; blocks = λ m low. w.blocks m; copies = w.copies; parts_are = λ m low other. parts-same m }

  -- HEADERS
  forms-same : (f : ℕ) → forms_of new f ≡ forms_of old f
  forms-same f =
      ap (λ g. map form_of (filter begins (flat_map g (range_with_len 0 new.layout.count)))) (fun_ext (λ n.
      ap (λ o. option_map_or (λ r. cond (file_of n r == f) (attributes (opened_of (new.block n))) []) o []) (at-same n)
      ∙ ap (λ b. option_map_or (λ r. cond (file_of n r == f) (attributes (opened_of b)) []) (record_on old n) []) (w.blocks n)))
      ∙ ap (λ (l : TableLayout). map form_of (filter begins (flat_map (attributes_on old f) (range_with_len 0 l.count)))) w.layout

  -- CLUSTERS that are not named
  module _ (o : HasOwners old) where
    part-kept : (g : ℕ) (part : Part) (c : ℕ) → Contains (parts (records_of old) g) part → changed (key_of g part.kind part.name) ≡ false
        → 1 ≤ times_covered (part_runs part) c → new.cluster c ≡ old.cluster c
    part-kept g part c among free covered =
        let owned = owned-once old g part c among in
        w.clusters c (omega (arith, owned, covered)) (part-unnamed changed old o g part c among free covered)

    pub clusters-kept : (f kind : ℕ) (name : List ℕ) → changed (key_of f kind name) ≡ false
        → KeepsClusters old new (parts_at old f kind name)
    clusters-kept f kind name free vcn c at =
        let owned = spot_at-owned (parts_at old f kind name) vcn c at in
        let its = part-at old f kind name owned.0 owned.1 in
        part-kept f owned.0 c its.0
        (ap (λ kind. changed (key_of f kind owned.0.name)) its.1 ∙ ap (λ name. changed (key_of f kind name)) its.2 ∙ free) owned.2

    pub lists-kept : (f : ℕ) → ((name : List ℕ) → changed (key_of f ATTRIBUTE_LIST name) ≡ false)
        → KeepsList old new (parts (records_of old) f)
    lists-kept f free = All-from_Contains (λ part. IsTrue (is_list part) → KeepsClusters old new (part ∷ [])) (parts (records_of old) f)
        (λ part among list vcn c at.
        let owned = spot_at-owned (part ∷ []) vcn c at in
        let is = Contains-only part owned.0 owned.1 in
        part-kept f part c among (ap (λ kind. changed (key_of f kind part.name)) (eqb-true part.kind ATTRIBUTE_LIST list) ∙ free part.name)
        (subst (λ (p : Part). 1 ≤ times_covered (part_runs p) c) (sym is) owned.2))

    kept : KeepsBut changed old new
    kept f = record {
      told = SameItems-same _ _ (ap (λ list. filter (is_kept changed f) (map told_by (filter is_first list))) (sym (parts-same f)));
      order = inl (ap (λ list. filter (is_kept changed f) (map told_by (filter is_first list))) (parts-same f));
      spots = λ kind name free vcn. ap (λ list. spot_at (filter (is_of kind name) list) vcn) (parts-same f);
      clusters = λ kind name free. clusters-kept f kind name free;
    }

  -- A LIST whose clusters hold what they held
  list-right : (f : ℕ) → KeepsList old new (parts (records_of old) f) → HasRightList old f (parts (records_of old) f)
      → HasRightList new f (parts (records_of new) f)
  list-right f kept h = subst (HasRightList new f) (sym (parts-same f))
      (HasRightList-kept old new f (parts (records_of old) f) w.layout kept (ap (λ r. entries_in r (parts (records_of old) f)) same)
      (λ alone n. subst (λ o. IfSome o (λ r. file_of n r ≡ f → n ≡ f)) (sym (at-same n)) (alone n)) h)

  pub list-place : (n : ℕ) → KeepsList old new (parts (records_of old) n) → MeetsLists old n → MeetsLists new n
  list-place n kept h = by (record_on new n) (at-same n)
    where
      by : (o : Option Record) → o ≡ record_on old n → IfSome o (λ r. IsTrue (is_base r) → HasRightList new n (parts (records_of new) n))
      by None e = tt
      by (Some r) e = λ base.
          list-right n kept (subst (λ o. IfSome o (λ r. IsTrue (is_base r) → HasRightList old n (parts (records_of old) n))) (sym e) h base)

  right-place : (marks : Marks) → AreRight old marks → AreRight new marks
  right-place marks right = record {
    count = right.count ∙ sym (ap (λ (l : TableLayout). l.clusters) w.layout);
    taken = λ c lt.
        right.taken c (subst (λ (l : TableLayout). c < l.clusters) w.layout lt) ∙ ap (λ r. Some (nat_le 1 (times_owned r c))) (sym same);
    rows = right.rows ∙ sym (ap (λ (l : TableLayout). l.count) w.layout);
    used = λ n from lt.
        right.used n from (subst (λ (l : TableLayout). n < l.count) w.layout lt) ∙ ap (λ o. Some (is_some o)) (sym (at-same n));
  }

  -- THE STATE WITHIN A CALL on the file `own`, whose list may be written
  module _ (own : ℕ) (lags : Key → Bool)
      (lists : (f : ℕ) → f ≢ own → (name : List ℕ) → changed (key_of f ATTRIBUTE_LIST name) ≡ false) (marks : Marks)
      (was : IsPending own lags old marks) where
    o : HasOwners old
    o = owners-pending own lags old marks was

    pending : IsPending own lags new marks
    pending = record {
      shape = λ n inside used.
          subst IsWellFormed (sym (w.blocks n))
          (was.shape n (subst (λ (l : TableLayout). n < l.count) w.layout inside) (subst (λ b. IsTrue (is_in_use b)) (w.blocks n) used));
      attributes = λ n. subst (λ r. MeetsAttributes r n) (sym same) (was.attributes n);
      lists = λ n ne. list-place n (lists-kept o n (lists n ne)) (was.lists n ne);
      extents = λ n ne.
          subst (λ (l : TableLayout). MeetsExtents (records_of new) (cluster_bytes l) n) (sym w.layout)
          (subst (λ r. MeetsExtents r (cluster_bytes old.layout) n) (sym same) (was.extents n ne));
      streams = λ is key mine free. whole-still old new key (ap (filter (is_of key.kind key.name)) (parts-same key.file)) w.layout
          (was.streams (subst (λ o. IsSomeAnd o (λ r. IsTrue (is_base r))) (at-same own) is) key mine free);
      owners = λ c.
          subst (λ (l : TableLayout). MeetsOwners (records_of new) l.clusters c) (sym w.layout)
          (subst (λ r. MeetsOwners r old.layout.clusters c) (sym same) (was.owners c));
      version = system.version-kept old new system-kept was.version;
      mirror_place = system.place-kept old new system-kept was.mirror_place;
      mirror = system.mirror-holds old new system-kept was.mirror;
      bitmaps = system.bitmaps-kept old new system-kept was.bitmaps;
      right = right-place marks was.right;
      limits = λ n. subst (λ r. MeetsLimits r n) (sym same) (was.limits n);
      bases = subst HasRightBases (sym same) was.bases;
      table = system.table-kept old new system-kept was.table;
    }

    -- A STEP that names attributes of room beside, which every call may change
    pub stepped : (named : Key → Bool) → ((key : Key) → either is_room_key named key ≡ false → changed key ≡ false) → KeepsMirrorEnd old new
        → KeepsBits old new → Stepped own lags named nothing old new marks marks
    stepped named less mirror_end bits = record {
      told = w.told;
      volume = system.volume-kept old new system-kept;
      rest = w.rest;
      kept = λ f. KeepsFile-more changed (either is_room_key named) old new f less (kept o f);
      forms = λ f. SameItems-same _ _ (ap (filter (is_form_kept (either is_list_key named) f)) (sym (forms-same f)));
      places = system.places-kept old new system-kept mirror_end bits;
      spent = λ plan pos planned. subst (λ r. Spends plan (room_of old plan) r nothing)
          (sym (ap (λ r. room_in r new.layout.clusters (cluster_bytes new.layout) plan) same
          ∙ ap (λ (l : TableLayout). room_in (records_of old) l.clusters (cluster_bytes l) plan) w.layout))
          (spends-same plan (room_of old plan));
      pending = pending;
      system = λ n low none. at-same n ∙ none;
      others = λ n r at other. sym (at-same n) ∙ at;
    }

    -- where neither the mirror nor a bitmap is named
    pub mirror_end : changed (key_of MFT_MIRROR DATA []) ≡ false → KeepsMirrorEnd old new
    mirror_end free vcn c behind at = clusters-kept o MFT_MIRROR DATA [] free vcn c at

    pub bits : changed (key_of CLUSTER_BITMAP DATA []) ≡ false → changed (key_of MFT BITMAP []) ≡ false → KeepsBits old new
    bits flags rows = system.bits-kept old new system-kept (clusters-kept o CLUSTER_BITMAP DATA [] flags)
        (clusters-kept o MFT BITMAP [] rows)
