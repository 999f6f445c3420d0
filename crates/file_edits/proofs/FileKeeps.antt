-- ALL FILES BUT ONE keep their attributes and headers, where that one is named whole.
use Rattle.std.proofs.Common.{◌≡◌, ◌≢◌, not, ℕ, Bool, true, false, List, [], map, filter, sym, ap, ◌∙◌, inl, inr}
use Rattle.std.proofs.lemmas.Bool.{both_ways, cases_eq, eq-eqb, or_parts, or_right}
use Rattle.list_laws.proofs.SameItemsLaws.{SameItems-same}
use Rattle.volume_def.specs.Edits.{said_by}
use Rattle.volume_def.specs.Files.{is_of, parts, parts_at, records_of}
use Rattle.volume_def.specs.Values.{KeepsClusters, spot_at}
use Rattle.volume_def.specs.View.{VolumeView}
use Rattle.edit_def.specs.Edited.{is_list_key, is_table_key}
use Rattle.edit_def.specs.Forms.{Form, KeepsForms, forms_of, is_form_kept}
use Rattle.edit_def.specs.Kept.{KeepsBut, Key, Told, either, is_kept, kept_told, key_of, told_of}
use Rattle.record_edits.proofs.PartEdits.{filter-nil}
use Rattle.file_edits.specs.Files.{is_file_key}
use Rattle.file_edits.proofs.MoveKeeps.{KeepsFile-said}

module _ (f : ℕ) (old new : VolumeView) (same : (g : ℕ) → g ≢ f → parts (records_of new) g ≡ parts (records_of old) g)
    (clusters : (g kind : ℕ) (name : List ℕ) → is_table_key (key_of g kind name) ≡ false
    → KeepsClusters old new (parts_at old g kind name)) where
  abbrev named : Key → Bool
  named = either is_table_key (is_file_key f)

  itself : (key : Key) → key.file ≡ f → is_file_key f key ≡ true
  itself key e = eq-eqb key.file f e

  none-told : (g : ℕ) → g ≡ f → (all : List Told) → filter (is_kept named g) all ≡ []
  none-told g e all = filter-nil (is_kept named g) all (λ told c.
      ap not (or_right (is_table_key (key_of g told.kind told.name)) _ (itself (key_of g told.kind told.name) e)))

  pub kept-file : KeepsBut named old new
  kept-file g = elim (cases_eq g f) [
    | inr ne ↦ KeepsFile-said named old new g (SameItems-same _ _ (ap (map said_by) (sym (same g ne)))) (inl (ap (map said_by) (same g ne)))
        (λ kind name vcn. ap (λ all. spot_at (filter (is_of kind name) all) vcn) (same g ne))
        (λ kind name free. clusters g kind name (or_parts (is_table_key (key_of g kind name)) _ free).0)
    | inl e ↦ record {
      told = SameItems-same (kept_told named old g) (kept_told named new g) (none-told g e (told_of old g) ∙ sym (none-told g e
          (told_of new g)));
      order = inl (none-told g e (told_of new g) ∙ sym (none-told g e (told_of old g)));
      spots = λ kind name free vcn. absurd (never kind name e free);
      clusters = λ kind name free. absurd (never kind name e free);
    }
  ]
    where
      never : {g : ℕ} (kind : ℕ) (name : List ℕ) → g ≡ f → named (key_of g kind name) ≡ false → ⊥
      never {g} kind name e free = both_ways _ (or_parts (is_table_key (key_of g kind name)) _ free).1 (itself (key_of g kind name) e)

  pub forms-file : ((g : ℕ) → g ≢ f → forms_of new g ≡ forms_of old g) → (g : ℕ) → KeepsForms (either is_list_key (is_file_key f)) old new g
  forms-file forms g = elim (cases_eq g f) [
    | inr ne ↦ SameItems-same _ _ (ap (filter (is_form_kept (either is_list_key (is_file_key f)) g)) (sym (forms g ne)))
    | inl e ↦ SameItems-same _ _ (none g e (forms_of old g) ∙ sym (none g e (forms_of new g)))
  ]
    where
      none : (g : ℕ) → g ≡ f → (all : List Form) → filter (is_form_kept (either is_list_key (is_file_key f)) g) all ≡ []
      none g e all = filter-nil (is_form_kept (either is_list_key (is_file_key f)) g) all (λ form c.
          ap not (or_right (is_list_key (key_of g form.kind form.name)) _ (itself (key_of g form.kind form.name) e)))
