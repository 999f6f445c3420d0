-- AN EDIT OF ONE RECORD KEEPS THE PROMISE OF A CALL, and leaves what stands between calls.
use Rattle.std.proofs.Common.{◌≡◌, ◌<◌, ℕ, Bool, true, false, List, [], Option, Some, None}
use Rattle.std.proofs.Common.{refl, sym, ap, subst, inl, inr, ◌∙◌, arith}
use Rattle.std.specs.List.{Contains}
use Rattle.std.specs.Prelude.{is_some}
use Rattle.std.proofs.lemmas.Bool.{cases_eq, or_from, or_parts, or_right}
use Rattle.ntfs_def.specs.Attribute.{Attribute}
use Rattle.ntfs_def.specs.declared.kinds.TheConstants.{BITMAP, DATA}
use Rattle.ntfs_def.specs.declared.records.TheConstants.{BOOT, CLUSTER_BITMAP, MFT}
use Rattle.list_laws.proofs.MemberLaws.{Contains-map}
use Rattle.list_laws.proofs.OptionLaws.{some_same}
use Rattle.volume_def.specs.Edits.{EditsAt}
use Rattle.volume_def.specs.ExtentsClause.{MeetsExtents}
use Rattle.volume_def.specs.Files.{Part, Record, file_of, part_of, parts_at, record_on, records_of}
use Rattle.volume_def.specs.Values.{KeepsClusters}
use Rattle.volume_def.specs.OwnersClause.{MeetsOwners}
use Rattle.volume_def.specs.Table.{TableLayout, cluster_bytes}
use Rattle.volume_def.specs.View.{VolumeView}
use Rattle.volume_edits.specs.Owners.{HasOwners}
use Rattle.edit_def.specs.Account.{Keeps, Wants}
use Rattle.edit_def.specs.Edited.{Edited, is_list_key, is_room_key, is_table_key}
use Rattle.edit_def.specs.Forms.{KeepsForms}
use Rattle.edit_def.specs.Places.{KeepsBits, StaysInPlace}
use Rattle.edit_def.specs.Kept.{KeepsBut, Key, either, key_of, same_key}
use Rattle.edit_def.specs.Marks.{Marks}
use Rattle.edit_def.specs.Purses.{Costs, room_of}
use Rattle.edit_def.proofs.EditedLaws.{table-room}
use Rattle.edit_def.proofs.KeptLaws.{KeepsFile-more}
use Rattle.record_edits.specs.Between.{IsReady}
use Rattle.record_edits.specs.Pending.{IsPending, Stepped}
use Rattle.record_edits.specs.RecordEdit.{EditsPart, EditsRecord, parts_made}
use Rattle.record_edits.proofs.BlockEdits.{attribute-stays, lists-stay, mirror_end-stays}
use Rattle.record_edits.proofs.ClauseEdits as clauses
use Rattle.record_edits.proofs.FormEdits.{forms-kept}
use Rattle.record_edits.proofs.OwnerEdits.{marks-edit, owners-edit}
use Rattle.record_edits.proofs.PartEdits.{AreNamed, KeepsBut-edit}
use Rattle.record_edits.proofs.PendingStates.{edited-from, meets-list, meets-none, no_key, owners-pending, pending-from}
use Rattle.record_edits.proofs.PendingStates.{pending-mended, ready-from}
use Rattle.record_edits.proofs.RoomEdits.{Keeps-edit, used-kept}
use Rattle.record_edits.proofs.SystemKept.{KeepsSystem}
use Rattle.record_edits.proofs.SystemKept as system
use Rattle.record_edits.proofs.WholeLaws.{whole-still}

pub none-same : (o u : Option Record) → is_some o ≡ is_some u → u ≡ None → o ≡ None
none-same None u same none = refl
none-same (Some r) u same none = let never : true ≡ false = same ∙ ap is_some none in cc

module _ (key : Key) (old new : VolumeView) (before after : Marks) (e : EditsPart key old new before after) where
  abbrev was : List Part
  was = clauses.was key old new before after e

  abbrev now : List Part
  now = clauses.now key old new before after e

  abbrev edit : EditsAt (records_of old) (records_of new) e.n was now
  edit = clauses.edit key old new before after e

  system-kept : KeepsSystem old new
  system-kept = record {
    layout = clauses.layout key old new before after e;
    blocks = λ m low. e.block.replaces.blocks m (clauses.not-high key old new before after e m low);
    copies = λ m low. e.block.replaces.copies m low (clauses.not-high key old new before after e m low);
    parts_are = clauses.system-parts key old new before after e;
  }

  -- WHAT THE EDIT NAMES beside the table, in which the record lies
  abbrev written : Key → Bool
  written = either is_table_key (same_key key)

  more : (file : ℕ) (xs : List Part) → AreNamed (same_key key) file xs → AreNamed written file xs
  more file xs named part c = or_right (is_table_key (key_of file part.kind part.name)) _ (named part c)

  module _ (o : HasOwners old) (some : 0 < old.layout.cluster_sectors) (unnamed : o.table.part.name ≡ []) where
    kept-table : KeepsBut written old new
    kept-table = KeepsBut-edit written old new e.n was now edit
        (more (file_of e.n edit.was_record) was (clauses.was-named key old new before after e))
        (more (file_of e.n edit.was_record) now (clauses.now-named key old new before after e))
        (λ f kind name free. attribute-stays old new e.block.replaces.clusters o some unnamed f kind name
        (or_parts (is_table_key (key_of f kind name)) _ free).0)

    kept : KeepsBut (either is_room_key (same_key key)) old new
    kept f = KeepsFile-more written (either is_room_key (same_key key)) old new f (λ other free.
        let both = or_parts (is_room_key other) (same_key key other) free in
        or_from (is_table_key other) (same_key key other) (table-room other both.0) both.1) (kept-table f)

    bits : KeepsBits old new
    bits = system.bits-kept old new system-kept
        (λ vcn c at. stays CLUSTER_BITMAP DATA refl vcn c at)
        (λ vcn c at. stays MFT BITMAP refl vcn c at)
      where
        stays : (f kind : ℕ) → is_table_key (key_of f kind []) ≡ false → KeepsClusters old new (parts_at old f kind [])
        stays f kind free = attribute-stays old new e.block.replaces.clusters o some unnamed f kind [] free

    places : StaysInPlace old new
    places = system.places-kept old new system-kept (mirror_end-stays old new e.block.replaces.clusters o some unnamed) bits

  forms : (f : ℕ) → KeepsForms (either is_list_key (same_key key)) old new f
  forms f = forms-kept old new e.n e.stored e.was e.now e.block f (either is_list_key (same_key key)) (named e.was
      (clauses.was-named key old new before after e))
      (named e.now (clauses.now-named key old new before after e))
    where
      named : (xs : List Attribute) → AreNamed (same_key key) (file_of e.n edit.was_record) (parts_made e.n xs) → (a : Attribute)
          → Contains xs a
          → either is_list_key (same_key key) (key_of (file_of e.n edit.was_record) a.kind a.name) ≡ true
      named xs each a c = or_right (is_list_key (key_of (file_of e.n edit.was_record) a.kind a.name)) _
          (each (part_of e.n a) (Contains-map (part_of e.n) xs a c))

  -- THE STATE after the edit, but for the file's own list
  pending : (lags : Key → Bool) → IsPending key.file lags old before → IsPending key.file (either (same_key key) lags) new after
  pending lags was_so =
      let o = owners-pending key.file lags old before was_so in
      record {
        shape = clauses.shape-edit key old new before after e was_so.shape;
        attributes = clauses.attributes-edit key old new before after e was_so.attributes;
        lists = clauses.lists-edit key old new before after e
            (lists-stay old new e.block.replaces.clusters o was_so.table.some was_so.table.unnamed) was_so.lists;
        extents = λ m ne. clauses.extents-other key old new before after e m ne (was_so.extents m ne);
        streams = λ is other own free.
            let both = or_parts (same_key key other) (lags other) free in
            whole-still old new other (clauses.parts-differ key old new before after e other own both.0)
            (clauses.layout key old new before after e) (was_so.streams e.is_file other own both.1);
        owners = λ c. subst (λ (l : TableLayout). MeetsOwners (records_of new) l.clusters c) (sym
            (clauses.layout key old new before after e))
            (owners-edit (records_of old) (records_of new) old.layout.clusters e.n was now edit e.names
            (clauses.apart key old new before after e BOOT (omega arith) (λ z. absurd (omega (arith, z)))) was_so.owners c);
        version = system.version-kept old new system-kept was_so.version;
        mirror_place = system.place-kept old new system-kept was_so.mirror_place;
        mirror = system.mirror-holds old new system-kept was_so.mirror;
        bitmaps = system.bitmaps-kept old new system-kept was_so.bitmaps;
        right = marks-edit old new e.n was now before after (clauses.layout key old new before after e) edit (λ c. (was_so.owners c).once)
            e.follows e.rows was_so.right;
        limits = clauses.limits-edit key old new before after e was_so.limits;
        bases = clauses.bases-edit (records_of old) (records_of new) e.n was now edit was_so.bases;
        table = system.table-kept old new system-kept was_so.table;
      }

  -- A STEP
  pub stepped-edit : (lags : Key → Bool) (wants : Wants) → Keeps (room_of old) (room_of new) wants → IsPending key.file lags old before
      → Stepped key.file (either (same_key key) lags) (same_key key) wants old new before after
  stepped-edit lags wants spent was_so =
      let o = owners-pending key.file lags old before was_so in
      record {
        told = e.block.replaces.told;
        volume = system.volume-kept old new system-kept;
        rest = e.block.replaces.rest;
        kept = kept o was_so.table.some was_so.table.unnamed;
        forms = forms;
        places = places o was_so.table.some was_so.table.unnamed;
        spent = spent;
        pending = pending lags was_so;
        system = λ m low none. none-same (record_on new m) (record_on old m) (used-kept (records_of old)
            (records_of new) e.n was now edit m) none;
        others = λ m r at other. elim (cases_eq m e.n) [
          | inr ne ↦ sym (edit.changes.others m ne) ∙ at
          | inl same ↦ absurd (other (ap (λ k. file_of k r) same ∙ own r (sym (ap (record_on new) same) ∙ at)))
        ];
      }
    where
      own : (r : Record) → record_on new e.n ≡ Some r → file_of e.n r ≡ key.file
      own r at =
          let is : edit.now_record ≡ r = some_same (sym edit.now_at ∙ at) in
          sym (ap (file_of e.n) is) ∙ clauses.same-file key old new before after e ∙ e.file

  pub keeps-room : (wants : Wants) → Costs (records_of old) (records_of new) e.n key.file was now wants
      → Keeps (room_of old) (room_of new) wants
  keeps-room wants costs = Keeps-edit old new e.n was now wants (ap (λ (l : TableLayout). l.clusters)
      (clauses.layout key old new before after e))
      (ap cluster_bytes (clauses.layout key old new before after e)) edit
      (subst (λ f. Costs (records_of old) (records_of new) e.n f was now wants) (sym e.file) costs)

-- THE EDIT AS A CALL PROMISES IT
module _ (key : Key) (wants : Wants) (old new : VolumeView) (before after : Marks) (call : EditsRecord key wants old new before after)
    (was : IsReady old before) where
  whole : Stepped key.file (either (same_key key) no_key) (same_key key) wants old new before after
  whole = stepped-edit key old new before after call.part no_key wants (keeps-room key old new before after call.part wants call.costs)
      (pending-from key.file no_key old before was)

  -- the edited attribute is whole again
  streams : MeetsExtents (records_of new) (cluster_bytes new.layout) key.file
  streams = meets-none key.file new after (pending-mended key no_key new after call.stream whole.pending)

  pub edited : Edited (same_key key) wants old new before after
  edited = edited-from key.file (either (same_key key) no_key) (same_key key) wants old new before after whole
      (meets-list new key.file call.list) streams
      (clauses.bare-edit key old new before after call.part call.held)

  pub ready : IsReady new after
  ready = ready-from key.file (either (same_key key) no_key) new after (meets-list new key.file call.list) streams whole.pending
