-- A VALUE THAT IS CHANGED, OR GOES, and then the attributes of its file are set: over what the calls leave of the table in use.
use Rattle.std.proofs.Common.{◌≡◌, ◌==◌, ◌+◌, ◌*◌, ℕ, Bool, true, false, List, [], length, Option, Some, None, refl, sym, ap, subst, inl}
use Rattle.std.proofs.Common.{inr, ◌∙◌, arith}
use Rattle.std.specs.Prelude.{◌⊎◌, IsSome, IsSomeAnd, IsTrue, IfSome, slice_get}
use Rattle.std.specs.List.{list_any}
use Rattle.std.specs.Str.{bytes_eq}
use Rattle.std.proofs.lemmas.Bool.{and_parts, eqb-true, not-true}
use Rattle.std.proofs.lemmas.Slice.Eq.{bytes_eq-Decides}
use Rattle.list_laws.proofs.FindLaws.{none-counted}
use Rattle.list_laws.proofs.OptionLaws.{some-value}
use Rattle.vol_disk.specs.declared.Disk.{Ghosts}
use Rattle.ntfs_def.specs.Attribute.{Attribute}
use Rattle.ntfs_def.specs.declared.kinds.TheConstants.{DATA}
use Rattle.ntfs_def.specs.declared.run_text.Run.{Run}
use Rattle.volume_def.specs.Coverage.{IsApart}
use Rattle.volume_def.specs.FileNames.{names_of}
use Rattle.volume_def.specs.Files.{Part, Record, content_value, file_of, is_base, part_of, parts, parts_at, record_on, records_of}
use Rattle.volume_def.specs.ListsClause.{HasRightList, is_list}
use Rattle.volume_def.specs.Readable.{IsFile, WhereReadable}
use Rattle.volume_def.specs.Sound as clauses
use Rattle.volume_def.specs.Table.{cluster_bytes}
use Rattle.volume_def.specs.View.{VolumeView}
use Rattle.volume_def.proofs.PartLaws.{record_at-block}
use Rattle.volume_def.proofs.SoundLaws.{readable-sound}
use Rattle.mft_table.specs.declared.mft.Mft.{Mft}
use Rattle.mft_table.specs.InUse.{IsInUse}
use Rattle.mft_table.specs.Mft.{KeepsDisk, view}
use Rattle.file_record.specs.Attributes.{ChangesValue, RemovesAttribute}
use Rattle.file_record.specs.Records.{IsRecordOf}
use Rattle.tree_edit.specs.Below.{IsInitialized, SetsAttributes, StagesRecordOf, number_of}
use Rattle.tree_model.specs.StreamRoom.{new_clusters}
use Rattle.tree_model.specs.Streams.{resized, written}
use Rattle.tree_model.specs.Ways.{has_no_list}
use Rattle.tree_edit.proofs.Below.{node-file}
use Rattle.sparse_io.specs.declared.find.FoundStream.{FoundStream}
use Rattle.value_edits.proofs.Below.{body-value, may-edit}
use Rattle.value_edits.specs.ValueEdits.{EndsBy, IsStreamValue, PutsBytes, PutsGiving, PutsStream, ResizesStream, gained_by_write, no_gain}
use Rattle.value_edits.proofs.GivenBack.{nothing-given, nothing-taken}
use Rattle.value_edits.proofs.ValueCalls as calls
use Rattle.tree_edit.specs.Alone.{IsDroppable, IsResizable, can_drop}
use Rattle.tree_edit.specs.Change.{CanChange, ChangesPart, ChangesWhereFits, FitsPart, RemovesPart, has_room_for}
use Rattle.tree_edit.specs.Links.{CanWriteFile}
use Rattle.tree_edit.specs.Punchable.{can_punch}
use Rattle.tree_edit.specs.Staged.{IsOfFile, IsOfNames, StagesAttributes}
use Rattle.tree_edit.specs.Values.{IsOfValue, StagesValue}
use Rattle.tree_edit.specs.declared.writable.Writable.{Writable}
use Rattle.stream_changes.specs.Streams.{FindsNamed}
use Rattle.stream_changes.proofs.Changed as edited
use Rattle.tree_edit.proofs.LinkLaws.{initialized}
use Rattle.tree_edit.proofs.PunchLaws.{punchable-can}
use Rattle.tree_edit.proofs.StagedLaws.{few-more, few-standard}

-- WHAT IS FOUND for it can be cut, and can go.
unfoldable pub droppable-can : (view : VolumeView) (found : Writable) (name : List ℕ) → IsDroppable view found name
    → CanChange view found.stream (number_of found.held)
droppable-can view found name is =
    let f = number_of found.held in
    let both = and_parts (can_punch view name f) (has_no_list view f) is.over in
    let there = record_at-block view f is.held.base is.held.on in
    record {
      value = punchable-can view found name (record {
        settable = is.settable;
        held = is.held;
        stream = is.stream;
        there = is.there;
        flags = is.flags;
        over = both.0;
        tellable = is.tellable;
      });
      one = record {
        base = subst (λ (r : Record). IsTrue (is_base r)) (sym there) is.held.is_base;
        may = may-edit view f is.settable.can.node is.settable.can.can.there;
        no_list = none-counted is_list (parts (records_of view) f) (not-true (list_any is_list (parts (records_of view) f)) both.1);
      };
    }

unfoldable pub resizable-can : (view : VolumeView) (found : Writable) (name : List ℕ) (size : ℕ) → IsResizable view found name size
    → CanChange view found.stream (number_of found.held)
resizable-can view found name size is =
    droppable-can view found name (record {
      settable = is.settable;
      held = is.held;
      stream = is.stream;
      there = is.there;
      flags = is.flags;
      over = (and_parts (can_drop view name (number_of found.held)) _ is.over).0;
      tellable = is.tellable;
    })

-- WHAT THE CALL ON THE RECORD leaves: all parts of the file stand in its base record.
module _ (old : VolumeView) (found : FoundStream) (f : ℕ) (can : CanChange old found f) where
  alone : (n : ℕ) → IsRecordOf old f n → n ≡ f
  alone n is =
      let own = some-value (record_on old n) (λ r. file_of n r ≡ f) is.belongs in
      let right = listed (record_on old f) (node-file old f can.value.can.node can.value.can.can.there)
      (can.value.can.can.sound clauses.Lists f) in
      subst (λ (o : Option Record). IfSome o (λ r. file_of n r ≡ f → n ≡ f)) own.1 (right.alone can.one.no_list n) own.2
    where
      listed : (o : Option Record) → IsSomeAnd o (λ r. IsTrue (is_base r))
          → IfSome o (λ r. IsTrue (is_base r) → HasRightList old f (parts (records_of old) f))
          → HasRightList old f (parts (records_of old) f)
      listed None is lists = absurd is
      listed (Some r) is lists = lists is

  -- what it was is the stream
  is-stream : (n : ℕ) (was : Attribute) → part_of n was ≡ can.value.part → IsStreamValue can.value.name was
  is-stream n was is =
      let both = and_parts (can.value.part.kind == DATA) (bytes_eq can.value.part.name can.value.name) can.value.stream in
      record {
        kind = ap (λ (p : Part). p.kind) is ∙ eqb-true can.value.part.kind DATA both.0;
        name_is = ap (λ (p : Part). p.name) is ∙ (bytes_eq-Decides can.value.part.name can.value.name).0 both.1;
        value = subst (λ (o : Option (List ℕ)). IsSome o) (sym (sym (body-value was.body) ∙ ap (λ (p : Part). content_value p.content) is
            ∙ can.value.value_is)) refl;
      }

  -- where it has room, each of its records is the one that has it
  pub change-fits : (size : ℕ) → has_room_for old f found.size size ≡ true → FitsPart old f can.value.part size
  change-fits size room =
      subst (λ (o : Option (List ℕ)). IsSomeAnd o (λ value. (n : ℕ) → IsRecordOf old f n → has_room_for old n (length value) size ≡ true))
      (sym can.value.value_is)
      (λ n own. subst (λ (k : ℕ). has_room_for old k (length can.value.value) size ≡ true) (sym (alone n own))
      (ap (λ (had : ℕ). has_room_for old f had size) (sym can.value.size) ∙ room))

  pub change-puts : (new : VolumeView) (change : List ℕ → List ℕ) → ChangesPart old new f can.value.part change
      → PutsGiving old new f can.value.name (Some (change can.value.held)) no_gain [] []
  change-puts new change r =
      let c = can.value in
      subst (λ n. (e : ChangesValue old new n r.i change) → IsStreamValue c.name e.was
      → PutsGiving old new f c.name (Some (change c.held)) no_gain [] []) (sym (alone r.n r.own))
      (λ e is. calls.changed-put old new f r.i change c.can.node c.asked c.name c.held e c.can.can c.finds can.one is)
      r.changes (is-stream r.n r.changes.was r.is)

  -- it lies in no cluster then
  pub change-ends : (new : VolumeView) (change : List ℕ → List ℕ) (size : ℕ) → ChangesPart old new f can.value.part change
      → EndsBy new f can.value.name size
  change-ends new change size r =
      let c = can.value in
      subst (λ n. (e : ChangesValue old new n r.i change) → IsStreamValue c.name e.was → EndsBy new f c.name size) (sym (alone r.n r.own))
      (λ e is. calls.changed-nowhere old new f r.i change c.can.node c.name size e c.can.can can.one is)
      r.changes (is-stream r.n r.changes.was r.is)

  pub drop-puts : (new : VolumeView) → RemovesPart old new f can.value.part → PutsGiving old new f can.value.name None no_gain [] []
  drop-puts new r =
      let c = can.value in
      subst (λ n. (e : RemovesAttribute old new n r.i) → IsStreamValue c.name e.was → PutsGiving old new f c.name None no_gain [] [])
      (sym (alone r.n r.own))
      (λ e is. calls.removed-put old new f r.i c.can.node c.name e c.can.can can.one is)
      r.removes (is-stream r.n r.removes.was r.is)

-- OVER WHAT THE CALLS LEAVE of the table in use: a value lies in no cluster, and none is given back, or taken.
pub named-value : (view : VolumeView) (found : FoundStream) (f : ℕ) → CanChange view found f → FindsNamed view f
named-value view found f can = record {
  can = can.value.can;
  asked = can.value.asked;
  name = can.value.name;
  held = can.value.held;
  finds = can.value.finds;
}

module _ {D : Type 0} (g : Ghosts D) (found : FoundStream) (f : ℕ) (bytes : List ℕ → Option (List ℕ)) (a m : Mft D g) (volume : IsInUse g a)
    (disk : KeepsDisk g a m) (can : IsTrue (view g a).told → CanChange (view g a) found f)
    (puts : IsTrue (view g a).told → (c : CanChange (view g a) found f)
    → PutsGiving (view g a) (view g m) f c.value.name (bytes c.value.held) no_gain [] []) where
  abbrev named : IsTrue (view g a).told → FindsNamed (view g a) f
  named t = named-value (view g a) found f (can t)

  so : (t : IsTrue (view g a).told) → PutsGiving (view g a) (view g m) f (named t).name (bytes (named t).held) no_gain [] []
  unfolding named-value
  so t = puts t (can t)

  pub in-use : IsInUse g m
  in-use = edited.in-use g f a a m named bytes no_gain (λ t. []) (λ t. []) (λ t. view g a) (λ t. nothing-given (view g a))
      (λ t. nothing-taken (view g a)) (λ t. (volume t).stored) disk.mounted disk.goes_on.told_image so

  pub can-write : IsTrue (view g m).told → CanWriteFile (view g m) f
  can-write = edited.can-write g f a a m named bytes no_gain (λ t. []) (λ t. []) (λ t. view g a) (λ t. nothing-given (view g a))
      (λ t. nothing-taken (view g a)) (λ t. (volume t).stored) disk.mounted disk.goes_on.told_image so

  pub put-then : (times : List ℕ) (flags : ℕ) (b : Mft D g) → (IsTrue (view g m).told → SetsAttributes (view g m) (view g b) f times flags)
      → IsTrue (view g a).told → (c : CanChange (view g a) found f)
      → PutsStream (view g a) (view g b) f c.value.name (bytes c.value.held) no_gain 0 times flags
  put-then times flags b sets t c =
      edited.put-of (view g a) (view g m) (view g b) f c.value.name (bytes c.value.held) no_gain [] [] 0 times flags (puts t c)
      (omega arith)
      (sets (disk.goes_on.told_image ∙ t))

  pub staged-then : (b : Mft D g) → StagesRecordOf g f a m
      → (IsTrue (view g m).told → StagesAttributes g f (names_of (records_of (view g m)) f) m b)
      → IsTrue (view g a).told → StagesValue g f (names_of (records_of (view g a)) f) a b
  staged-then b first later t =
      let old = view g a in
      let all = names_of (records_of old) f in
      few-more g (4 + (4 + 12 * length all)) (8 + 12 * length all) (IsOfValue old f all)
      (λ s. IsOfFile old f s ⊎ (IsOfFile old f s ⊎ IsOfNames old all s)) a b
      (edited.staged-then g f a a m named bytes no_gain (λ t. []) (λ t. []) (λ t. old) (λ t. nothing-given old) (λ t. nothing-taken old)
      (λ t. (volume t).stored) disk.mounted disk.goes_on.told_image so b 4 (IsOfFile old f) (few-standard g f a m first t) later t)
      (omega arith)
      (λ s of. elim of [ inl own ↦ inl own | inr other ↦ other ])

-- what the call on a record stages is within what is due
pub record-within : {D : Type 0} (g : Ghosts D) (f : ℕ) (a m : Mft D g) → StagesRecordOf g f a m
    → IsTrue (view g a).told → StagesValue g f (names_of (records_of (view g a)) f) a m
record-within g f a m first t =
    let all = names_of (records_of (view g a)) f in
    few-more g 4 (8 + 12 * length all) (IsOfValue (view g a) f all) (IsOfFile (view g a) f) a m (few-standard g f a m first t) (omega arith)
    (λ s of. inl of)

-- THE CALLS on the record, as they are told.
module _ {D : Type 0} (g : Ghosts D) (found : FoundStream) (f : ℕ) (a m : Mft D g) (t : IsTrue (view g a).told)
    (c : CanChange (view g a) found f) where
  -- of the part, where the call tells of each
  of-part : {P : Part → Type 0} → WhereReadable (view g a) (IsFile (view g a) f → IsApart (view g a).layout → IsInitialized (view g a) f
      → (part : Part) → slice_get (parts (records_of (view g a)) f) found.part ≡ Some part → P part) → P c.value.part
  of-part tells =
      tells t (readable-sound (view g a) c.value.can.can.sound) (node-file (view g a) f c.value.can.node c.value.can.can.there)
      c.value.can.write.apart (initialized (view g a) f c.value.can.write) c.value.part c.value.at

  module _ (fits : Bool) (size : ℕ) (change : List ℕ → List ℕ)
      (changed : WhereReadable (view g a) (IsFile (view g a) f → IsApart (view g a).layout → IsInitialized (view g a) f
      → (part : Part) → slice_get (parts (records_of (view g a)) f) found.part ≡ Some part
      → ChangesWhereFits fits (view g a) (view g m) f part size change)) where
    fits-so : fits ≡ true → ChangesPart (view g a) (view g m) f c.value.part change
    fits-so does = subst (λ b. ChangesWhereFits b (view g a) (view g m) f c.value.part size change) does (of-part changed)

    pub change-first : fits ≡ true → PutsGiving (view g a) (view g m) f c.value.name (Some (change c.value.held)) no_gain [] []
    change-first does = change-puts (view g a) found f c (view g m) change (fits-so does)

    pub first-ends : fits ≡ true → EndsBy (view g m) f c.value.name size
    first-ends does = change-ends (view g a) found f c (view g m) change size (fits-so does)

    pub change-not : fits ≡ false → has_room_for (view g a) f found.size size ≡ true → ⊥
    change-not not room =
        subst (λ b. ChangesWhereFits b (view g a) (view g m) f c.value.part size change) not (of-part changed)
        (change-fits (view g a) found f c size room)

  pub drop-first : WhereReadable (view g a) (IsFile (view g a) f → IsApart (view g a).layout → IsInitialized (view g a) f
      → (part : Part) → slice_get (parts (records_of (view g a)) f) found.part ≡ Some part → RemovesPart (view g a) (view g m) f part)
      → PutsGiving (view g a) (view g m) f c.value.name None no_gain [] []
  drop-first dropped = drop-puts (view g a) found f c (view g m) (of-part {P = RemovesPart (view g a) (view g m) f} dropped)

-- A CHANGE that was made, and then the attributes are set
module _ {D : Type 0} (g : Ghosts D) (found : FoundStream) (f size : ℕ) (change : List ℕ → List ℕ) (a m : Mft D g) (volume : IsInUse g a)
    (disk : KeepsDisk g a m) (can : IsTrue (view g a).told → CanChange (view g a) found f) (fits : Bool) (does : fits ≡ true)
    (changed : WhereReadable (view g a) (IsFile (view g a) f → IsApart (view g a).layout → IsInitialized (view g a) f
    → (part : Part) → slice_get (parts (records_of (view g a)) f) found.part ≡ Some part
    → ChangesWhereFits fits (view g a) (view g m) f part size change)) where
  abbrev by : List ℕ → Option (List ℕ)
  by held = Some (change held)

  puts : IsTrue (view g a).told → (c : CanChange (view g a) found f)
      → PutsGiving (view g a) (view g m) f c.value.name (Some (change c.value.held)) no_gain [] []
  puts t c = change-first g found f a m t c fits size change changed does

  pub changed-in-use : IsInUse g m
  changed-in-use = in-use g found f by a m volume disk can puts

  pub changed-can-write : IsTrue (view g m).told → CanWriteFile (view g m) f
  changed-can-write = can-write g found f by a m volume disk can puts

  -- it has so many bytes then
  pub changed-resized : (times : List ℕ) (flags : ℕ) (b : Mft D g)
      → (IsTrue (view g m).told → SetsAttributes (view g m) (view g b) f times flags)
      → IsTrue (view g a).told → (c : CanChange (view g a) found f) → change c.value.held ≡ resized size c.value.held
      → ResizesStream (view g a) (view g b) f c.value.name size c.value.held times flags
  changed-resized times flags b sets t c is =
      edited.resized-of (view g a) (view g m) (view g b) f c.value.name size c.value.held [] times flags (
        subst (λ (bytes : List ℕ). PutsGiving (view g a) (view g m) f c.value.name (Some bytes) no_gain [] []) is (puts t c),
        first-ends g found f a m t c fits size change changed does,
      ) (sets (disk.goes_on.told_image ∙ t))

  -- .. or these were written into it
  pub changed-written : (at : ℕ) (bytes times : List ℕ) (flags : ℕ) (b : Mft D g)
      → (IsTrue (view g m).told → SetsAttributes (view g m) (view g b) f times flags)
      → IsTrue (view g a).told → (c : CanChange (view g a) found f) → change c.value.held ≡ written at bytes c.value.held
      → PutsBytes (view g a) (view g b) f c.value.name at bytes c.value.held times flags
  changed-written at bytes times flags b sets t c is =
      let cluster = cluster_bytes (view g a).layout in
      let parts = parts_at (view g a) f DATA c.value.name in
      edited.put-of (view g a) (view g m) (view g b) f c.value.name (Some (written at bytes c.value.held))
      (gained_by_write cluster parts at (length bytes)) [] [] (new_clusters cluster parts at (length bytes)) times flags
      (edited.put-gaining (view g a) (view g m) f c.value.name (Some (written at bytes c.value.held)) no_gain
      (gained_by_write cluster parts at (length bytes)) (λ vcn never. cc) [] []
      (subst (λ (bytes : List ℕ). PutsGiving (view g a) (view g m) f c.value.name (Some bytes) no_gain [] []) is (puts t c)))
      (omega arith) (sets (disk.goes_on.told_image ∙ t))

  pub changed-staged : (b : Mft D g) → StagesRecordOf g f a m
      → (IsTrue (view g m).told → StagesAttributes g f (names_of (records_of (view g m)) f) m b)
      → IsTrue (view g a).told → StagesValue g f (names_of (records_of (view g a)) f) a b
  changed-staged = staged-then g found f by a m volume disk can puts
