-- HEADERS OF ATTRIBUTES after an edit of one record: those of named attributes alone change.
use Rattle.std.proofs.Common.{◌≡◌, ◌≢◌, ◌⊎◌, ◌==◌, not, ℕ, Bool, true, cond, List, [], filter, map}
use Rattle.std.proofs.Common.{sym, ap, subst, inl, inr, ◌∙◌, arith}
use Rattle.std.proofs.lemmas.Bool.{cases_eq, cond-false, cond-true, eq-eqb, ne_eqb}
use Rattle.std.specs.List.{Contains, flat_map, range_with_len}
use Rattle.std.specs.Option.{option_map_or}
use Rattle.ntfs_def.specs.Attribute.{Attribute, attributes}
use Rattle.ntfs_def.specs.Fixup.{opened_of}
use Rattle.list_laws.proofs.MemberLaws.{All-from_Contains, Contains-filter, Contains-from_filter, Contains-from_map, Contains-map}
use Rattle.list_laws.proofs.ReplacesLaws.{Replaces-filter, Replaces-itself, Replaces-map, Replaces-member, Replaces-range, Replaces-stood}
use Rattle.list_laws.proofs.ReplacesLaws.{Replaces-within}
use Rattle.list_laws.proofs.SameItemsLaws.{SameItems-same}
use Rattle.list_laws.specs.Replaces.{Replaces}
use Rattle.volume_def.specs.Files.{file_of, record_of, record_on}
use Rattle.volume_def.specs.Table.{TableLayout}
use Rattle.volume_def.specs.View.{VolumeView}
use Rattle.volume_def.proofs.RecordLaws.{file_of-kept}
use Rattle.volume_def.proofs.ViewLaws.{ChangesAt-block}
use Rattle.edit_def.specs.Forms.{ComeRightly, Form, IsNewForm, KeepsForms, attributes_on, begins, form_of, forms_of, is_form_kept}
use Rattle.edit_def.specs.Kept.{Key, key_of}
use Rattle.volume_edits.specs.Rewritten.{EditsBlock}
use Rattle.record_edits.proofs.BlockEdits.{now-at, was-at}
use Rattle.record_edits.proofs.PartEdits.{filter-nil}

module _ (old new : VolumeView) (n : ℕ) (stored : List ℕ) (was now : List Attribute) (e : EditsBlock old new n stored was now) (f : ℕ) where
  abbrev pub owner : ℕ
  owner = file_of n (record_of n (opened_of (old.block n)))

  others : (m : ℕ) → m ≢ n → attributes_on new f m ≡ attributes_on old f m
  others m ne =
      ap (λ o. option_map_or (λ r. cond (file_of m r == f) (attributes (opened_of (new.block m))) []) o [])
      ((ChangesAt-block old new n stored e.replaces).others m ne)
      ∙ ap (λ b. option_map_or (λ r. cond (file_of m r == f) (attributes (opened_of b)) []) (record_on old m) []) (e.replaces.blocks m ne)

  here-old : attributes_on old f n ≡ cond (owner == f) (attributes (opened_of (old.block n))) []
  here-old =
      ap (λ o. option_map_or (λ r. cond (file_of n r == f) (attributes (opened_of (old.block n))) []) o [])
      (was-at old new n stored was now e)

  here-new : attributes_on new f n ≡ cond (owner == f) (attributes (opened_of stored)) []
  here-new =
      ap (λ o. option_map_or (λ r. cond (file_of n r == f) (attributes (opened_of (new.block n))) []) o [])
      (now-at old new n stored was now e)
      ∙ ap (λ g. cond (g == f) (attributes (opened_of (new.block n))) [])
      (file_of-kept n (record_of n (opened_of (old.block n))) (record_of n (opened_of stored)) e.header)
      ∙ ap (λ b. cond (owner == f) (attributes (opened_of b)) []) (e.replaces.block e.told)

  abbrev pub all_old : List Attribute
  all_old = flat_map (attributes_on old f) (range_with_len 0 old.layout.count)

  abbrev pub all_new : List Attribute
  all_new = flat_map (attributes_on new f) (range_with_len 0 new.layout.count)

  all : Replaces all_old all_new (attributes_on old f n) (attributes_on new f n)
  all =
      let inside = e.inside in
      subst (λ (l : TableLayout). Replaces all_old (flat_map (attributes_on new f) (range_with_len 0 l.count)) (attributes_on old f n)
      (attributes_on new f n))
      (sym e.replaces.layout)
      (Replaces-range (attributes_on old f) (attributes_on new f) 0 old.layout.count n (omega arith) (omega (arith, inside)) others)

  pub own : owner ≡ f → Replaces all_old all_new was now
  own same =
      let test = eq-eqb owner f same in
      Replaces-within all_old all_new (attributes_on old f n) (attributes_on new f n) was now all
      (subst (λ xs. Replaces xs (attributes_on new f n) was now) (sym (here-old ∙ cond-true (owner == f) _ _ test))
      (subst (λ ys. Replaces (attributes (opened_of (old.block n))) ys was now) (sym (here-new ∙ cond-true
      (owner == f) _ _ test)) e.attributes_are))

  pub other : owner ≢ f → all_new ≡ all_old
  other ne =
      let test = ne_eqb owner f ne in
      Replaces-itself all_old all_new _ _ (here-old ∙ cond-false (owner == f) _ _ test ∙ sym (here-new ∙ cond-false
      (owner == f) _ _ test)) all

  -- .. of attributes of the edited file that are all named
  pub forms-kept : (changed : Key → Bool)
      → ((a : Attribute) → Contains was a → changed (key_of owner a.kind a.name) ≡ true)
      → ((a : Attribute) → Contains now a → changed (key_of owner a.kind a.name) ≡ true) → KeepsForms changed old new f
  forms-kept changed of_was of_now = SameItems-same _ _ (sym (elim (cases_eq owner f) [
    | inl same ↦ Replaces-itself _ _ _ _ (none was of_was same ∙ sym (none now of_now same))
        (Replaces-filter (is_form_kept changed f) _ _ _ _ (Replaces-map form_of _ _ _ _ (Replaces-filter begins _ _ _ _ (own same))))
    | inr ne ↦ ap (λ xs. filter (is_form_kept changed f) (map form_of (filter begins xs))) (other ne)
  ]))
    where
      none : (xs : List Attribute) → ((a : Attribute) → Contains xs a → changed (key_of owner a.kind a.name) ≡ true) → owner ≡ f
          → filter (is_form_kept changed f) (map form_of (filter begins xs)) ≡ []
      none xs named same = filter-nil (is_form_kept changed f) (map form_of (filter begins xs)) (λ form c.
          let from = Contains-from_map form_of (filter begins xs) form c in
          let among = Contains-from_filter begins xs from.0 from.1 in
          sym (ap (is_form_kept changed f) from.2)
          ∙ ap not (ap (λ g. changed (key_of g from.0.kind from.0.name)) (sym same) ∙ named from.0 among.0))

  -- Each header was there, or is made anew as it should be, where each of those that come is one that goes, or is made so.
  pub forms-come : ((a : Attribute) → Contains now a → begins a ≡ true
      → Contains (map form_of (filter begins was)) (form_of a) ⊎ IsNewForm (form_of a))
      → ComeRightly old new f
  forms-come come = All-from_Contains (λ form. Contains (forms_of old f) form ⊎ IsNewForm form) (forms_of new f) (λ form c.
      let from = Contains-from_map form_of (filter begins all_new) form c in
      let among = Contains-from_filter begins all_new from.0 from.1 in
      subst (λ form. Contains (forms_of old f) form ⊎ IsNewForm form) from.2 (each from.0 among.0 among.1))
    where
      stood : (a : Attribute) → Contains all_old a → begins a ≡ true → Contains (forms_of old f) (form_of a)
      stood a c first = Contains-map form_of (filter begins all_old) a (Contains-filter begins all_old a c first)

      each : (a : Attribute) → Contains all_new a → begins a ≡ true → Contains (forms_of old f) (form_of a) ⊎ IsNewForm (form_of a)
      each a c first = elim (cases_eq owner f) [
        | inr ne ↦ inl (stood a (subst (λ xs. Contains xs a) (other ne) c) first)
        | inl same ↦ elim (Replaces-member all_old all_new was now a (own same) c) [
          | inl there ↦ inl (stood a there first)
          | inr came ↦ elim (come a came first) [
            | inr fresh ↦ inr fresh
            | inl form ↦ inl (gone same (form_of a) form)
          ]
        ]
      ]
        where
          gone : owner ≡ f → (form : Form) → Contains (map form_of (filter begins was)) form → Contains (forms_of old f) form
          gone same form c =
              let from = Contains-from_map form_of (filter begins was) form c in
              let among = Contains-from_filter begins was from.0 from.1 in
              subst (Contains (forms_of old f)) from.2
              (stood from.0 (Replaces-stood all_old all_new was now from.0 (own same) among.0) among.1)
