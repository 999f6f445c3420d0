-- WHAT AN EDIT OF ONE RECORD LEAVES OF FILES: their numbers, their names, and the list of the edited one.
use Rattle.std.proofs.Common.{◌≡◌, ◌≢◌, ◌==◌, ℕ, Bool, false, cond, List, [], Option, Some, None, filter}
use Rattle.std.proofs.Common.{refl, sym, ap, inl, inr, ◌∙◌}
use Rattle.std.specs.List.{Contains}
use Rattle.std.specs.Prelude.{count_by, filter_map, is_none, option_map}
use Rattle.std.proofs.lemmas.Bool.{and_parts, cases_eq, eqb-true, false_from_ne_true}
use Rattle.ntfs_def.specs.FileName.{name_in}
use Rattle.ntfs_def.specs.Record.{Reference}
use Rattle.ntfs_def.specs.declared.kinds.TheConstants.{ATTRIBUTE_LIST, FILE_NAME}
use Rattle.list_laws.proofs.FindLaws.{count-none}
use Rattle.list_laws.proofs.ReplacesLaws.{Replaces-filter, Replaces-itself}
use Rattle.list_laws.proofs.SameItemsLaws.{SameItems-same}
use Rattle.volume_def.specs.Edits.{EditsAt, KeepsRecordHeader}
use Rattle.volume_def.specs.FileNames.{is_file_name, names_of}
use Rattle.volume_def.specs.Files.{Part, Record, Records, content_value, file_of, is_base, parts, records_of}
use Rattle.volume_def.specs.ListsClause.{HasRightList, entries_in, is_list}
use Rattle.volume_def.specs.View.{VolumeView}
use Rattle.volume_def.proofs.ReadableLaws.{readable-list}
use Rattle.volume_def.proofs.RecordLaws.{parts-other, parts-own_at}
use Rattle.edit_def.specs.Kept.{Key, same_key}
use Rattle.edit_def.specs.Marks.{Marks}
use Rattle.edit_def.specs.Names.{KeepsNames, numbers_at, numbers_by, numbers_in}
use Rattle.record_edits.specs.Between.{IsReady}
use Rattle.record_edits.specs.Pending.{IsPending}
use Rattle.record_edits.specs.RecordEdit.{EditsPart, parts_made}
use Rattle.record_edits.proofs.BlockEdits.{lists-stay}
use Rattle.record_edits.proofs.ClauseEdits as clauses
use Rattle.record_edits.proofs.ListEdits.{list-entries, list-none}
use Rattle.record_edits.proofs.PartEdits.{AreNamed, filter-nil}
use Rattle.record_edits.proofs.PendingStates.{no_key, owners-pending, pending-from}

-- NUMBERS
header-numbers : (was now : Record) → KeepsRecordHeader was.header now.header → numbers_by (Some now) ≡ numbers_by (Some was)
header-numbers was now h =
    ap (λ (b : Option Reference). cond (is_none b) (Some (numbers_in now)) None) h.base ∙ ap (λ x. cond (is_base was) (Some x) None) same
  where
    same : numbers_in now ≡ numbers_in was
    same = rw (h.sequence, h.links, h.flags) refl

pub numbers-edit : (old new : Records) (n : ℕ) (was now : List Part) → EditsAt old new n was now → (f : ℕ)
    → numbers_at new f ≡ numbers_at old f
numbers-edit old new n was now e f = elim (cases_eq f n) [
  | inl same ↦ ap (λ m. numbers_by (new.record_at m)) same ∙ ap numbers_by e.now_at ∙ header-numbers e.was_record e.now_record e.header
      ∙ sym (ap (λ m. numbers_by (old.record_at m)) same ∙ ap numbers_by e.was_at)
  | inr ne ↦ ap numbers_by (e.changes.others f ne)
]

-- NAMES
names-edit : (old new : Records) (n : ℕ) (was now : List Part) → EditsAt old new n was now → filter is_file_name was ≡ []
    → filter is_file_name now ≡ [] → (f : ℕ) → names_of new f ≡ names_of old f
unfolding names_of
names-edit old new n was now e none none_now f =
    ap (filter_map (λ (part : Part). option_map name_in (content_value part.content))) (elim (cases_eq (file_of n e.was_record) f) [
      | inl own ↦ Replaces-itself _ _ _ _ (none ∙ sym none_now) (Replaces-filter is_file_name _ _ _ _
          (parts-own_at old new n f was now e own))
      | inr ne ↦ ap (filter is_file_name) (parts-other old new n f was now e ne)
    ])

module _ (key : Key) (old new : VolumeView) (before after : Marks) (e : EditsPart key old new before after) where
  kind-of : (file : ℕ) (xs : List Part) → AreNamed (same_key key) file xs → (part : Part) → Contains xs part → part.kind ≡ key.kind
  kind-of file xs named part c = sym (eqb-true key.kind part.kind (and_parts (key.kind == part.kind) _ (named part c)).0)

  -- none of the edited parts is of another type
  none-of : (kind file : ℕ) (xs : List Part) → AreNamed (same_key key) file xs → key.kind ≢ kind → (part : Part) → Contains xs part
      → (part.kind == kind) ≡ false
  none-of kind file xs named other part c = false_from_ne_true (part.kind == kind) (λ is.
      other (sym (kind-of file xs named part c) ∙ eqb-true part.kind kind is))

  pub numbers-kept : (f : ℕ) → numbers_at (records_of new) f ≡ numbers_at (records_of old) f
  numbers-kept = numbers-edit (records_of old) (records_of new) e.n (parts_made e.n e.was) (parts_made e.n e.now)
      (clauses.edit key old new before after e)

  pub names-kept : key.kind ≢ FILE_NAME → (f : ℕ) → KeepsNames (records_of old) (records_of new) f
  names-kept other f =
      let was = parts_made e.n e.was in
      let now = parts_made e.n e.now in
      record {
        numbers = numbers-kept f;
        names = SameItems-same _ _ (sym (names-edit (records_of old) (records_of new) e.n was now (clauses.edit key old new before after e)
            (filter-nil is_file_name was (none-of FILE_NAME _ was (clauses.was-named key old new before after e) other))
            (filter-nil is_file_name now (none-of FILE_NAME _ now (clauses.now-named key old new before after e) other)) f));
      }

  -- THE FILE'S OWN LIST, where it was right
  module _ (lags : Key → Bool) (pending : IsPending key.file lags old before) (other : key.kind ≢ ATTRIBUTE_LIST)
      (was-right : HasRightList old key.file (parts (records_of old) key.file)) where
    now-plain : count_by is_list (parts_made e.n e.now) ≡ 0
    now-plain = count-none is_list (parts_made e.n e.now) (none-of ATTRIBUTE_LIST _ (parts_made e.n e.now)
        (clauses.now-named key old new before after e) other)

    was-plain : count_by is_list (parts_made e.n e.was) ≡ 0
    was-plain = count-none is_list (parts_made e.n e.was) (none-of ATTRIBUTE_LIST _ (parts_made e.n e.was)
        (clauses.was-named key old new before after e) other)

    pub list-missing-then : count_by is_list (parts (records_of old) key.file) ≡ 0
        → HasRightList new key.file (parts (records_of new) key.file)
    list-missing-then none = list-none old new e.n key.file (parts_made e.n e.was) (parts_made e.n e.now)
        (clauses.edit key old new before after e)
        e.file none now-plain was-right

    pub list-same-then : entries_in (records_of old) (parts_made e.n e.now) ≡ entries_in (records_of old) (parts_made e.n e.was)
        → HasRightList new key.file (parts (records_of new) key.file)
    list-same-then same = list-entries old new e.n key.file (parts_made e.n e.was) (parts_made e.n e.now)
        (clauses.edit key old new before after e) e.file was-plain now-plain same (clauses.layout key old new before after e)
        (lists-stay old new e.block.replaces.clusters (owners-pending key.file lags old before pending) pending.table.some
        pending.table.unnamed key.file)
        was-right

  -- between two calls it is
  module _ (ready : IsReady old before) (other : key.kind ≢ ATTRIBUTE_LIST) where
    right-ready : HasRightList old key.file (parts (records_of old) key.file)
    right-ready = readable-list old key.file ready.editable.readable e.is_file

    pub list-missing : count_by is_list (parts (records_of old) key.file) ≡ 0 → HasRightList new key.file (parts (records_of new) key.file)
    list-missing = list-missing-then no_key (pending-from key.file no_key old before ready) other right-ready

    pub list-same : entries_in (records_of old) (parts_made e.n e.now) ≡ entries_in (records_of old) (parts_made e.n e.was)
        → HasRightList new key.file (parts (records_of new) key.file)
    list-same = list-same-then no_key (pending-from key.file no_key old before ready) other right-ready
