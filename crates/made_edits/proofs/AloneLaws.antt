-- A FILE THAT STANDS IN ONE RECORD, and what an edit of that record leaves of it, and of all others.
use Rattle.std.proofs.Common.{◌≡◌, ◌≢◌, ◌<◌, ◌++◌, ℕ, List, [], length, None, Some, sym, ap, subst, ◌∙◌, arith}
use Rattle.std.specs.Prelude.{IsTrue, is_none, cond}
use Rattle.std.proofs.lemmas.List.{append-nil, length-append, nil_from_length}
use Rattle.list_laws.specs.Replaces.{Replaces}
use Rattle.list_laws.proofs.ReplacesLaws.{Replaces-itself}
use Rattle.list_laws.proofs.SameItemsLaws.{SameItems-same}
use Rattle.ntfs_def.specs.Attribute.{Attribute}
use Rattle.ntfs_def.specs.Fixup.{opened_of}
use Rattle.ntfs_def.specs.Record.{Header}
use Rattle.volume_def.specs.Edits.{ChangesAt}
use Rattle.volume_def.specs.FileNames.{names_among, names_of}
use Rattle.volume_def.specs.Files.{Part, Record, is_base, parts, parts_in, record_in, record_of, record_on, records_of}
use Rattle.volume_def.specs.View.{VolumeView}
use Rattle.volume_def.proofs.RecordLaws.{parts-Replaces, parts_in-other, parts_in-own}
use Rattle.volume_def.proofs.ViewLaws.{ChangesAt-block, record_at-written}
use Rattle.volume_edits.specs.Rewritten.{CountsLinks, EditsBlock}
use Rattle.edit_def.specs.Marks.{Marks}
use Rattle.edit_def.specs.Names.{KeepsOthers, numbers_by}
use Rattle.record_edits.specs.Between.{IsReady}
use Rattle.record_edits.proofs.BlockEdits.{base-file}
use Rattle.record_edits.proofs.BlockEdits as block
use Rattle.root_puts.specs.Files.{MakesFile}
use Rattle.root_puts.proofs.FileBeside as beside
use Rattle.root_puts.proofs.FileComes as file

pub record StandsAlone (view : VolumeView) (n : ℕ) (r : Record) : Type 0 where
  pub at : record_on view n ≡ Some r
  pub base : IsTrue (is_base r)
  pub whole : parts (records_of view) n ≡ r.parts

-- what stands in the place of a whole list is the list then
Replaces-whole : {A : Type 0} (old new now : List A) → Replaces old new old now → new ≡ now
Replaces-whole old new now r =
    let len = ap length r.old_is ∙ length-append r.before (old ++ r.after) in
    let len_after = length-append old r.after in
    let front : r.before ≡ [] = nil_from_length r.before (omega (arith, len, len_after)) in
    let back : r.after ≡ [] = nil_from_length r.after (omega (arith, len, len_after)) in
    r.new_is ∙ ap (λ xs. xs ++ (now ++ r.after)) front ∙ ap (λ xs. now ++ xs) back ∙ append-nil now

-- ONE RECORD CHANGED, that of the file
module _ (old new : VolumeView) (n : ℕ) (was now : Record) (changes : ChangesAt (records_of old) (records_of new) n)
    (inside : n < old.layout.count) (alone : StandsAlone old n was) (now_at : record_on new n ≡ Some now)
    (base : IsTrue (is_base now)) where
  pub parts-others : (g : ℕ) → g ≢ n → parts (records_of new) g ≡ parts (records_of old) g
  parts-others g ne =
      let before : parts_in (record_on old n) n g ≡ [] =
      ap (λ o. parts_in o n g) alone.at ∙ parts_in-other n g was (λ is. ne (sym is ∙ base-file n was alone.base)) in
      let after : parts_in (record_on new n) n g ≡ [] =
      ap (λ o. parts_in o n g) now_at ∙ parts_in-other n g now (λ is. ne (sym is ∙ base-file n now base)) in
      Replaces-itself _ _ _ _ (before ∙ sym after) (parts-Replaces (records_of old) (records_of new) n g changes inside)

  still-whole : parts (records_of new) n ≡ now.parts
  still-whole =
      let before : parts_in (record_on old n) n n ≡ parts (records_of old) n =
      ap (λ o. parts_in o n n) alone.at ∙ parts_in-own n n was (base-file n was alone.base) ∙ sym alone.whole in
      let after : parts_in (record_on new n) n n ≡ now.parts =
      ap (λ o. parts_in o n n) now_at ∙ parts_in-own n n now (base-file n now base) in
      Replaces-whole (parts (records_of old) n) (parts (records_of new) n) now.parts
      (subst (λ xs. Replaces (parts (records_of old) n) (parts (records_of new) n) xs now.parts) before
      (subst (λ xs. Replaces (parts (records_of old) n) (parts (records_of new) n) (parts_in (record_on old n) n n) xs) after
      (parts-Replaces (records_of old) (records_of new) n n changes inside)))

  pub still-alone : StandsAlone new n now
  still-alone = record { at = now_at; base = base; whole = still-whole }

  pub keeps-others : KeepsOthers (records_of old) (records_of new) n
  unfolding names_of
  keeps-others g ne = record {
    numbers = ap numbers_by (changes.others g ne);
    names = SameItems-same _ _ (sym (ap names_among (parts-others g ne)));
  }

-- AN ATTRIBUTE of it was edited.
module _ (old new : VolumeView) (n : ℕ) (stored : List ℕ) (before after : List Attribute) (e : EditsBlock old new n stored before after)
    (r : Record) (alone : StandsAlone old n r) where
  abbrev pub edited-record : Record
  edited-record = record_of n (opened_of stored)

  same-record : record_of n (opened_of (old.block n)) ≡ r
  same-record = let there : Some _ ≡ Some r = sym (block.was-at old new n stored before after e) ∙ alone.at in cc

  edited-base : IsTrue (is_base edited-record)
  edited-base = ap is_none e.header.base ∙ subst (λ (r : Record). IsTrue (is_base r)) (sym same-record) alone.base

  edited-changes : ChangesAt (records_of old) (records_of new) n
  edited-changes = ChangesAt-block old new n stored e.replaces

  edited-at : record_on new n ≡ Some edited-record
  edited-at = block.now-at old new n stored before after e

  pub alone-edited : StandsAlone new n edited-record
  alone-edited = still-alone old new n r edited-record edited-changes e.inside alone edited-at edited-base

  pub parts-edited : (g : ℕ) → g ≢ n → parts (records_of new) g ≡ parts (records_of old) g
  parts-edited = parts-others old new n r edited-record edited-changes e.inside alone edited-at edited-base

  pub others-edited : KeepsOthers (records_of old) (records_of new) n
  others-edited = keeps-others old new n r edited-record edited-changes e.inside alone edited-at edited-base

-- ITS LINKS were counted.
module _ (old new : VolumeView) (n links : ℕ) (stored : List ℕ) (e : CountsLinks old new n stored links) (r : Record)
    (alone : StandsAlone old n r) (here : record_of n (opened_of (old.block n)) ≡ r) where
  abbrev pub counted-record : Record
  counted-record = record_of n (opened_of stored)

  counted-base : IsTrue (is_base counted-record)
  counted-base =
      ap (λ (h : Header). is_none h.base) e.header ∙ subst (λ (r : Record). IsTrue (is_base r)) (sym here) alone.base

  counted-at : record_on new n ≡ Some counted-record
  unfolding record_in
  counted-at = record_at-written old new n stored e.replaces e.told e.inside ∙ ap (λ b. cond b (Some counted-record) None) e.used_still

  counted-changes : ChangesAt (records_of old) (records_of new) n
  counted-changes = ChangesAt-block old new n stored e.replaces

  pub alone-counted : StandsAlone new n counted-record
  alone-counted = still-alone old new n r counted-record counted-changes e.inside alone counted-at counted-base

  pub parts-counted : (g : ℕ) → g ≢ n → parts (records_of new) g ≡ parts (records_of old) g
  parts-counted = parts-others old new n r counted-record counted-changes e.inside alone counted-at counted-base

  pub others-counted : KeepsOthers (records_of old) (records_of new) n
  others-counted = keeps-others old new n r counted-record counted-changes e.inside alone counted-at counted-base

-- IT CAME.
module _ (n : ℕ) (old new : VolumeView) (before after : Marks) (t : MakesFile n old new before after) (ready : IsReady old before) where
  pub alone-made : StandsAlone new n (record_of n (opened_of t.stored))
  alone-made = record {
    at = file.now-at n old new before after t ready;
    base = t.plain.base;
    whole = beside.parts-own n old new (file.more n old new before after t ready);
  }

  pub parts-made : (g : ℕ) → g ≢ n → parts (records_of new) g ≡ parts (records_of old) g
  parts-made = beside.parts-other n old new (file.more n old new before after t ready)

  pub none-made : parts (records_of old) n ≡ []
  none-made = file.alone n old new before after t ready

  pub others-made : KeepsOthers (records_of old) (records_of new) n
  unfolding names_of
  others-made g ne = record {
    numbers = ap numbers_by ((file.changes n old new before after t ready).others g ne);
    names = SameItems-same _ _ (sym (ap names_among (parts-made g ne)));
  }

-- NAMES by the parts of the file
pub names-of-parts : (view : VolumeView) (n : ℕ) (all : List Part) → parts (records_of view) n ≡ all
    → names_of (records_of view) n ≡ names_among all
unfolding names_of
names-of-parts view n all e = ap names_among e
