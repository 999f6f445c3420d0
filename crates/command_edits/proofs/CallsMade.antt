-- CALLS MADE OF CALLS: a name that comes or goes with its count and its entry, and an entry told anew.
use Rattle.std.proofs.Common.{Bool, List, Some, [], ap, arith, false, filter, not, refl, subst, sym, ℕ, ◌+◌, ◌||◌, ◌∙◌, ◌∷◌, ◌≡◌}
use Rattle.std.proofs.lemmas.Bool.{eqb-true, or_from, or_parts}
use Rattle.list_laws.specs.SameItems.{SameItems}
use Rattle.list_laws.proofs.FilterLaws.{filter-passed}
use Rattle.list_laws.proofs.OptionLaws.{some_same}
use Rattle.list_laws.proofs.SameItemsLaws.{SameItems-filter, SameItems-sym, SameItems-trans}
use Rattle.ntfs_def.specs.FileName.{FileName, link_of}
use Rattle.ntfs_def.specs.Node.{Item}
use Rattle.ntfs_def.specs.declared.kinds.TheConstants.{FILE_NAME}
use Rattle.volume_def.specs.FileNames.{names_of}
use Rattle.volume_def.specs.Files.{records_of}
use Rattle.volume_def.specs.View.{VolumeView}
use Rattle.edit_def.specs.Account.{Plan, Room, Wants, Within, also, Keeps}
use Rattle.edit_def.specs.Edited.{Edited, is_list_key, is_room_key}
use Rattle.edit_def.specs.Items.{IsCurrent, KeepsItems}
use Rattle.edit_def.specs.Kept.{KeepsFile, Key, Told, either, is_kept, is_name_told, key_of, told_names, told_of}
use Rattle.edit_def.specs.Marks.{Marks}
use Rattle.edit_def.specs.Names.{KeepsOthers, Numbers, numbers_at}
use Rattle.edit_def.specs.Purses.{room_of}
use Rattle.edit_def.proofs.AccountLaws.{IsPlanned-less, Spends-less}
use Rattle.edit_def.proofs.EditedLaws.{Edited-then}
use Rattle.edit_def.proofs.FormLaws.{KeepsForms-more}
use Rattle.edit_def.proofs.KeptLaws.{KeepsFile-more}
use Rattle.reading_edits.proofs.CommandSteps.{SameItems-cons, others-back}
use Rattle.reading_edits.proofs.NamesInTurn.{KeepsOthers-then, others-of}
use Rattle.command_edits.specs.Calls.{AddsLink, AddsName, ChangesIndex, DropsLink, DropsName, RefreshesEntry, SetsLinks, link_with}
use Rattle.command_edits.specs.Keys.{is_index_key_of, is_name_key_of, no_key}
use Rattle.command_edits.proofs.LinksBetween.{link_keys}

-- BILLS
pub within-same : (a : Wants) → Within a a
within-same a = record {
  clusters = omega arith;
  parts = λ f. omega arith;
  units = λ f. omega arith;
  goes = λ f is. is;
  records = omega arith;
}

Keeps-less : (old new : Plan → Room) (a b : Wants) → Within a b → Keeps old new a → Keeps old new b
Keeps-less old new a b w s plan pos planned =
    Spends-less plan (old plan) (new plan) a b pos w (s plan pos (IsPlanned-less plan (old plan) a b w planned))

-- A CALL THAT NAMES LESS, or takes less
pub Edited-more : (a b : Key → Bool) (v w : Wants) (old new : VolumeView) (before after : Marks)
    → ((key : Key) → b key ≡ false → a key ≡ false)
    → Within v w → Edited a v old new before after → Edited b w old new before after
Edited-more a b v w old new before after less within x = record {
  told = x.told;
  volume = x.volume;
  rest = x.rest;
  kept = λ f. KeepsFile-more (either is_room_key a) (either is_room_key b) old new f
      (λ key e. let p = or_parts (is_room_key key) (b key) e in or_from (is_room_key key) (a key) p.0 (less key p.1)) (x.kept f);
  forms = λ f. KeepsForms-more (either is_list_key a) (either is_list_key b) old new f
      (λ key e. let p = or_parts (is_list_key key) (b key) e in or_from (is_list_key key) (a key) p.0 (less key p.1)) (x.forms f);
  places = x.places;
  spent = Keeps-less (room_of old) (room_of new) v w within x.spent;
  editable = x.editable;
  limits = x.limits;
  bases = x.bases;
  system = x.system;
  held = x.held;
}

-- names keep their values where they are not named
pub names-told : (changed : Key → Bool) (old new : VolumeView) (f : ℕ) → KeepsFile (either is_room_key changed) old new f
    → ((name : List ℕ) → changed (key_of f FILE_NAME name) ≡ false) → SameItems (told_names old f) (told_names new f)
names-told changed old new f kept free =
    let keep : Told → Bool = is_kept (either is_room_key changed) f in
    let again : (ts : List Told) → filter is_name_told (filter keep ts) ≡ filter is_name_told ts = λ ts.
    filter-passed is_name_told keep ts (λ t e.
    ap not (ap (λ kind. is_room_key (key_of f kind t.name) || changed (key_of f kind t.name))
    (eqb-true t.kind FILE_NAME e) ∙ free t.name)) in
    subst (λ l. SameItems l (told_names new f)) (again (told_of old f))
    (subst (SameItems (filter is_name_told (filter keep (told_of old f)))) (again (told_of new f))
    (SameItems-filter is_name_told (filter keep (told_of old f)) (filter keep (told_of new f)) kept.told))

-- A NAME, ITS COUNT AND ITS ENTRY, in this order: first what the first two leave of the file.
module _ (a b c wants : Wants) (old named counted new : VolumeView) (m0 m1 m2 m3 : Marks) (f links : ℕ) (name : FileName)
    (was now : List Item) (within : Within (also (also a b) c) wants)
    (name_edited : Edited (is_name_key_of f) a old named m0 m1) (sets : SetsLinks b named counted m1 m2 f links)
    (index : ChangesIndex c counted new m2 m3 name.parent.number was now) where
  abbrev dir : ℕ
  dir = name.parent.number

  all-edited : Edited (link_keys f dir) wants old new m0 m3
  all-edited =
      Edited-more (either (either (is_name_key_of f) no_key) (is_index_key_of dir)) (link_keys f dir) wants wants old new m0 m3
      (λ key e. let p = or_parts (is_name_key_of f key) (is_index_key_of dir key) e in
      or_from (is_name_key_of f key || false) (is_index_key_of dir key) (or_from (is_name_key_of f key) false p.0 refl) p.1)
      (within-same wants)
      (Edited-then (either (is_name_key_of f) no_key) (is_index_key_of dir) (also a b) c wants old counted new m0 m2 m3 within
      (Edited-then (is_name_key_of f) no_key a b (also a b) old named counted m0 m1 m2 (within-same (also a b)) name_edited sets.edited)
      index.edited)

  -- behind the name
  same-values : SameItems (told_names named f) (told_names new f)
  same-values =
      SameItems-trans (told_names named f) (told_names counted f) (told_names new f)
      (names-told no_key named counted f (sets.edited.kept f) (λ units. refl))
      (names-told (is_index_key_of dir) counted new f (index.edited.kept f) (λ units. refl))

  same-names : SameItems (names_of (records_of named) f) (names_of (records_of new) f)
  same-names =
      SameItems-trans (names_of (records_of named) f) (names_of (records_of counted) f) (names_of (records_of new) f) sets.names
      (index.names_kept f).names

  other-files : KeepsOthers (records_of named) (records_of new) f
  other-files =
      KeepsOthers-then (records_of named) (records_of counted) (records_of new) f sets.others
      (others-of (records_of counted) (records_of new) f index.names_kept)

  numbers-now : (numbers : Numbers) → sets.was ≡ numbers → numbers_at (records_of new) f ≡ Some (record numbers { links = links })
  numbers-now numbers same =
      (index.names_kept f).numbers ∙ sets.now_at ∙ ap (λ (k : Numbers). Some (record k { links = links })) same

-- ADD_LINK
pub add-link : (a b c wants : Wants) (old named counted new : VolumeView) (m0 m1 m2 m3 : Marks) (f : ℕ) (name : FileName)
    → Within (also (also a b) c) wants → (was : Numbers) → numbers_at (records_of old) f ≡ Some was → AddsName a old named m0 m1 f name
    → SetsLinks b named counted m1 m2 f (was.links + 1) → KeepsItems old counted name.parent.number → (item : Item)
    → ChangesIndex c counted new m2 m3 name.parent.number [] (item ∷ []) → link_of item ≡ link_with f was.sequence name
    → IsCurrent new f item.key → AddsLink wants old new m0 m3 f name
add-link a b c wants old named counted new m0 m1 m2 m3 f name within was at adds sets keeps item index link current =
    let counts = was.links + 1 in
    let same : sets.was ≡ was = some_same (sym sets.was_at ∙ adds.comes.numbers ∙ at) in
    record {
      edited = all-edited a b c wants old named counted new m0 m1 m2 m3 f counts name [] (item ∷ []) within adds.edited sets index;
      gets = record {
        others = KeepsOthers-then (records_of old) (records_of named) (records_of new) f adds.comes.others
            (other-files a b c wants old named counted new m0 m1 m2 m3 f counts name [] (item ∷ []) within adds.edited sets index);
        was = was;
        was_at = at;
        now_at = numbers-now a b c wants old named counted new m0 m1 m2 m3 f counts name [] (item ∷ []) within
            adds.edited sets index was same;
        names = SameItems-trans (name ∷ names_of (records_of old) f) (names_of (records_of named) f) (names_of (records_of new) f)
            adds.comes.names
            (same-names a b c wants old named counted new m0 m1 m2 m3 f counts name [] (item ∷ []) within adds.edited sets index);
      };
      value = adds.comes.value;
      value_name = adds.comes.value_name;
      values = SameItems-trans (adds.comes.value ∷ told_names old f) (told_names named f) (told_names new f) adds.comes.values
          (same-values a b c wants old named counted new m0 m1 m2 m3 f counts name [] (item ∷ []) within adds.edited sets index);
      item = item;
      link = link;
      entry = λ items h. index.entry items (keeps items h);
      current = current;
    }

-- DROP_LINK
pub drop-link : (a b c wants : Wants) (old named counted new : VolumeView) (m0 m1 m2 m3 : Marks) (f links : ℕ) (name : FileName)
    → Within (also (also a b) c) wants → (was : Numbers) → numbers_at (records_of old) f ≡ Some (record was { links = links + 1 })
    → DropsName a old named m0 m1 f name → SetsLinks b named counted m1 m2 f links → KeepsItems old counted name.parent.number
    → (item : Item) → ChangesIndex c counted new m2 m3 name.parent.number (item ∷ []) [] → link_of item ≡ link_with f was.sequence name
    → DropsLink wants old new m0 m3 f name
drop-link a b c wants old named counted new m0 m1 m2 m3 f links name within was at drops sets keeps item index link =
    let same : sets.was ≡ record was { links = links + 1 } = some_same (sym sets.was_at ∙ sym drops.goes.numbers ∙ at) in
    let names = same-names a b c wants old named counted new m0 m1 m2 m3 f links name (item ∷ []) [] within drops.edited sets index in
    let values = same-values a b c wants old named counted new m0 m1 m2 m3 f links name (item ∷ []) [] within drops.edited sets index in
    record {
      edited = all-edited a b c wants old named counted new m0 m1 m2 m3 f links name (item ∷ []) [] within drops.edited sets index;
      loses = record {
        others = others-back (records_of old) (records_of new) f
            (KeepsOthers-then (records_of old) (records_of named) (records_of new) f
            (others-back (records_of named) (records_of old) f drops.goes.others)
            (other-files a b c wants old named counted new m0 m1 m2 m3 f links name (item ∷ []) [] within drops.edited sets index));
        was = record was { links = links };
        was_at = numbers-now a b c wants old named counted new m0 m1 m2 m3 f links name (item ∷ []) [] within drops.edited sets index
            (record was { links = links + 1 }) same;
        now_at = at;
        names = SameItems-trans (name ∷ names_of (records_of new) f) (name ∷ names_of (records_of named) f) (names_of (records_of old) f)
            (SameItems-cons name (names_of (records_of new) f) (names_of (records_of named) f)
            (SameItems-sym (names_of (records_of named) f) (names_of (records_of new) f) names))
            drops.goes.names;
      };
      value = drops.goes.value;
      value_name = drops.goes.value_name;
      values = SameItems-trans (drops.goes.value ∷ told_names new f) (drops.goes.value ∷ told_names named f) (told_names old f)
          (SameItems-cons drops.goes.value (told_names new f) (told_names named f)
          (SameItems-sym (told_names named f) (told_names new f) values))
          drops.goes.values;
      item = item;
      link = link;
      entry = λ items h. index.entry items (keeps items h);
    }

-- REFRESH_ENTRY
pub refresh-entry : (wants : Wants) (old new : VolumeView) (before after : Marks) (f sequence : ℕ) (name : FileName) (was now : Item)
    → ChangesIndex wants old new before after name.parent.number (was ∷ []) (now ∷ []) → link_of was ≡ link_with f sequence name
    → link_of now ≡ link_of was → IsCurrent new f now.key → RefreshesEntry wants old new before after f name
refresh-entry wants old new before after f sequence name was now index link same current = record {
  edited = index.edited;
  names_kept = index.names_kept;
  was = was;
  now = now;
  sequence = sequence;
  link = link;
  same = same;
  entry = index.entry;
  current = current;
}
