-- AN EDIT OF ONE RECORD: which attributes it keeps.
use Rattle.std.proofs.Common.{◌≡◌, ◌==◌, not, ℕ, Bool, true, false, List, [], map, filter, sym, ap, inl, inr, ◌∙◌}
use Rattle.std.specs.List.{Contains}
use Rattle.std.specs.Str.{bytes_eq}
use Rattle.std.proofs.lemmas.Bool.{and_parts, both_ways, cases_eq, eqb-true, false_from_ne_true}
use Rattle.std.proofs.lemmas.Slice.Eq.{bytes_eq-Decides}
use Rattle.list_laws.proofs.FilterLaws.{filter-none}
use Rattle.list_laws.proofs.FindLaws.{count-none}
use Rattle.list_laws.proofs.MemberLaws.{Contains-from_filter, Contains-from_map}
use Rattle.list_laws.proofs.ReplacesLaws.{Replaces-filter, Replaces-itself, Replaces-map}
use Rattle.list_laws.proofs.SameItemsLaws.{SameItems-same}
use Rattle.volume_def.specs.Edits.{EditsAt}
use Rattle.volume_def.specs.Files.{Part, file_of, is_of, parts_at, records_of}
use Rattle.volume_def.specs.Values.{KeepsClusters, is_first, spot_at}
use Rattle.volume_def.specs.View.{VolumeView}
use Rattle.volume_def.proofs.RecordLaws.{parts-other, parts-own_at}
use Rattle.edit_def.specs.Kept.{KeepsBut, Key, is_kept, kept_told, key_of, told_by}

pub filter-nil : {A : Type 0} (p : A → Bool) (xs : List A) → ((x : A) → Contains xs x → p x ≡ false) → filter p xs ≡ []
filter-nil p xs none = filter-none p xs (count-none p xs none)

-- the parts are of attributes of file f that are named
abbrev pub AreNamed : (Key → Bool) → ℕ → List Part → Type 0
AreNamed changed f xs = (part : Part) → Contains xs part → changed (key_of f part.kind part.name) ≡ true

-- so none of them is of another attribute
pub others-none : (changed : Key → Bool) (f kind : ℕ) (name : List ℕ) → changed (key_of f kind name) ≡ false → (xs : List Part)
    → AreNamed changed f xs → filter (is_of kind name) xs ≡ []
others-none changed f kind name other xs named = filter-nil (is_of kind name) xs (λ part c.
    false_from_ne_true (is_of kind name part) (λ is.
    let p = and_parts (part.kind == kind) (bytes_eq part.name name) is in
    let same = ap (λ kind. changed (key_of f kind part.name)) (eqb-true part.kind kind p.0)
    ∙ ap (λ name. changed (key_of f kind name)) ((bytes_eq-Decides part.name name).0 p.1) in
    both_ways _ other (sym same ∙ named part c)))

told-none : (changed : Key → Bool) (f : ℕ) (xs : List Part) → AreNamed changed f xs
    → filter (is_kept changed f) (map told_by (filter is_first xs)) ≡ []
told-none changed f xs named = filter-nil (is_kept changed f) (map told_by (filter is_first xs)) (λ told c.
    let from = Contains-from_map told_by (filter is_first xs) told c in
    let among = Contains-from_filter is_first xs from.0 from.1 in
    sym (ap (is_kept changed f) from.2) ∙ ap not (named from.0 among.0))

-- WHAT IT KEEPS: all attributes but those that it names.
pub KeepsBut-edit : (changed : Key → Bool) (old new : VolumeView) (n : ℕ) (was now : List Part)
    → (e : EditsAt (records_of old) (records_of new) n was now) → AreNamed changed (file_of n e.was_record) was
    → AreNamed changed (file_of n e.was_record) now
    → ((f kind : ℕ) (name : List ℕ) → changed (key_of f kind name) ≡ false → KeepsClusters old new (parts_at old f kind name))
    → KeepsBut changed old new
KeepsBut-edit changed old new n was now e of_was of_now clusters f = record {
  told = SameItems-same _ _ (sym told);
  order = inl told;
  spots = λ kind name free vcn. ap (λ extents. spot_at extents vcn) (at kind name free);
  clusters = clusters f;
}
  where
    named : (xs : List Part) → AreNamed changed (file_of n e.was_record) xs → file_of n e.was_record ≡ f → AreNamed changed f xs
    named xs h same part c = ap (λ g. changed (key_of g part.kind part.name)) (sym same) ∙ h part c

    told : kept_told changed new f ≡ kept_told changed old f
    told = elim (cases_eq (file_of n e.was_record) f) [
      | inl same ↦ Replaces-itself _ _ _ _ (told-none changed f was (named was of_was same) ∙ sym (told-none changed f now
          (named now of_now same)))
          (Replaces-filter (is_kept changed f) _ _ _ _ (Replaces-map told_by _ _ _ _ (Replaces-filter is_first _ _ _ _
          (parts-own_at (records_of old) (records_of new) n f was now e same))))
      | inr ne ↦ ap (λ all. filter (is_kept changed f) (map told_by (filter is_first all)))
          (parts-other (records_of old) (records_of new) n f was now e ne)
    ]

    at : (kind : ℕ) (name : List ℕ) → changed (key_of f kind name) ≡ false → parts_at new f kind name ≡ parts_at old f kind name
    at kind name free = elim (cases_eq (file_of n e.was_record) f) [
      | inl same ↦ Replaces-itself _ _ _ _ (others-none changed f kind name free was (named was of_was same)
          ∙ sym (others-none changed f kind name free now (named now of_now same)))
          (Replaces-filter (is_of kind name) _ _ _ _ (parts-own_at (records_of old) (records_of new) n f was now e same))
      | inr ne ↦ ap (filter (is_of kind name)) (parts-other (records_of old) (records_of new) n f was now e ne)
    ]
