-- THE LIST OF THE EDITED FILE: one that has none gets none, and one that names its parts names them still where no entry changed.
use Rattle.std.proofs.Common.{◌≡◌, ℕ, List, Some, sym, subst, inl, inr, ◌∙◌, arith}
use Rattle.std.specs.Prelude.{IfSome, IsTrue, count_by}
use Rattle.std.proofs.lemmas.Bool.{cases_eq}
use Rattle.std.proofs.lemmas.List.Elements.{All-contains}
use Rattle.ntfs_def.specs.AttributeList.{list_entries}
use Rattle.list_laws.specs.SameItems.{SameItems}
use Rattle.list_laws.proofs.FindLaws.{count-some}
use Rattle.list_laws.proofs.MemberLaws.{All-from_Contains}
use Rattle.list_laws.proofs.OptionLaws.{if-some}
use Rattle.list_laws.proofs.ReplacesLaws.{Replaces-count, Replaces-itself, Replaces-member}
use Rattle.volume_def.specs.Edits.{EditsAt}
use Rattle.volume_def.specs.Files.{Part, Record, file_of, parts, record_on, records_of}
use Rattle.volume_def.specs.KeptList.{KeepsList}
use Rattle.volume_def.specs.ListsClause.{HasRightList, IsAlone, IsRightList, entries_in, is_list, list_value}
use Rattle.volume_def.specs.View.{VolumeView}
use Rattle.volume_def.proofs.EntryLaws.{entries_in-Replaces, entries_in-kept}
use Rattle.volume_def.proofs.OtherListLaws.{HasRightList-kept}
use Rattle.volume_def.proofs.RecordLaws.{parts-own_at}

if-at : (P : Record → Type 0) (view : VolumeView) (n : ℕ) (r : Record) → record_on view n ≡ Some r → IfSome (record_on view n) P → P r
if-at P view n r e h = subst (λ o. IfSome o P) e h

module _ (old new : VolumeView) (n f : ℕ) (was now : List Part) (e : EditsAt (records_of old) (records_of new) n was now)
    (file : file_of n e.was_record ≡ f) where
  -- no record comes to the file, or goes
  alone-own : IsAlone old f → IsAlone new f
  alone-own alone k = if-some (record_on new k) (λ r. file_of k r ≡ f → k ≡ f) (λ r at belongs. elim (cases_eq k n) [
    | inl same ↦ same ∙ if-at (λ r. file_of n r ≡ f → n ≡ f) old n e.was_record e.was_at (alone n) file
    | inr ne ↦ if-at (λ r. file_of k r ≡ f → k ≡ f) old k r (sym (e.changes.others k ne) ∙ at) (alone k) belongs
  ])

  counted : count_by is_list was ≡ 0 → count_by is_list now ≡ 0
      → count_by is_list (parts (records_of new) f) ≡ count_by is_list (parts (records_of old) f)
  counted none none_now =
      omega (arith, Replaces-count is_list _ _ _ _ (parts-own_at (records_of old) (records_of new) n f was now e file), none, none_now)

  -- A file that has no list gets none.
  pub list-none : count_by is_list (parts (records_of old) f) ≡ 0 → count_by is_list now ≡ 0
      → HasRightList old f (parts (records_of old) f) → HasRightList new f (parts (records_of new) f)
  list-none no_list none_now right =
      let count = Replaces-count is_list _ _ _ _ (parts-own_at (records_of old) (records_of new) n f was now e file) in
      let zero_now : count_by is_list (parts (records_of new) f) ≡ 0 = omega (arith, count, none_now, no_list) in
      record {
        few = omega (arith, zero_now);
        each = All-from_Contains (λ part. IsTrue (is_list part) → IsRightList new f (parts (records_of new) f) part) (parts
            (records_of new) f)
            (λ part among is. absurd (omega (arith, zero_now, count-some is_list (parts (records_of new) f) part among is)));
        alone = λ none. alone-own (right.alone no_list);
      }

  -- A list that is right stays so where the edit leaves the entries, and the list's clusters.
  pub list-entries : count_by is_list was ≡ 0 → count_by is_list now ≡ 0 → entries_in (records_of old) now ≡ entries_in (records_of old) was
      → new.layout ≡ old.layout → KeepsList old new (parts (records_of old) f) → HasRightList old f (parts (records_of old) f)
      → HasRightList new f (parts (records_of new) f)
  list-entries plain plain_now same layout kept right =
      let all = parts (records_of old) f in
      let next = parts (records_of new) f in
      let r = parts-own_at (records_of old) (records_of new) n f was now e file in
      let count = counted plain plain_now in
      let before = HasRightList-kept old new f all layout kept (entries_in-kept (records_of old)
      (records_of new) n was now e all) alone-own right in
      let entries : entries_in (records_of new) next ≡ entries_in (records_of new) all =
      entries_in-kept (records_of old) (records_of new) n was now e next
      ∙ Replaces-itself _ _ _ _ (sym same) (entries_in-Replaces (records_of old) _ _ was now r)
      ∙ sym (entries_in-kept (records_of old) (records_of new) n was now e all) in
      record {
        few = omega (arith, count, before.few);
        each = All-from_Contains (λ part. IsTrue (is_list part) → IsRightList new f next part) next (λ part among is.
            elim (Replaces-member _ _ _ _ part r among) [
              | inl there ↦
                  let was_right = All-contains (λ part. IsTrue (is_list part) → IsRightList new f all part) all part before.each there is in
                  record {
                    home = was_right.home;
                    plain = was_right.plain;
                    readable = was_right.readable;
                    each_once = subst (λ xs. SameItems xs (list_entries (list_value new part))) (sym entries) was_right.each_once;
                  }
              | inr came ↦ absurd (omega (arith, plain_now, count-some is_list now part came is))
            ]);
        alone = λ none. before.alone (omega (arith, count, none));
      }
