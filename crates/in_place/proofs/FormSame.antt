-- HEADERS OF ATTRIBUTES are what they were, of named ones too.
use Rattle.std.proofs.Common.{◌≡◌, ◌⊎◌, ◌==◌, ℕ, Bool, true, false, cond, ltb, List, [], ◌∷◌, Option, None, filter, map, inl, inr}
use Rattle.std.proofs.Common.{refl, sym, ap, subst, ◌∙◌}
use mathlib.Core.Path.{fun_ext}
use Rattle.std.specs.List.{Contains, flat_map, range_with_len}
use Rattle.std.specs.Option.{option_map_or}
use Rattle.ntfs_def.specs.Attribute.{Attribute, Body, NonResident, Resident, attributes, extent_of}
use Rattle.ntfs_def.specs.Fixup.{opened_of}
use Rattle.volume_def.specs.Files.{Record, file_of, record_in}
use Rattle.volume_def.specs.Table.{TableLayout}
use Rattle.volume_def.specs.View.{VolumeView}
use Rattle.list_laws.proofs.MemberLaws.{All-from_Contains, filter-map}
use Rattle.list_laws.proofs.SameItemsLaws.{SameItems-same}
use Rattle.session_def.specs.Forms.{ComeRightly, IsNewForm, KeepsForms, attributes_on, begins, form_of, forms_of, is_form_kept}
use Rattle.session_def.specs.EditDefKept.{Key}
use Rattle.in_place.specs.Blank.{Outline, outline_of}
use Rattle.in_place.specs.InPlace.{KeepsBlock, Rewrites, RewritesBlock, file_in}
use Rattle.in_place.proofs.BlankLaws.{map-flat_map}
use Rattle.in_place.proofs.RewriteLaws.{file-same}
use Rattle.in_place.proofs.SameRecords.{in-use}

-- an outline of a first part
abbrev begins_by : Outline → Bool
begins_by outline = option_map_or (λ extent. extent.sizes.first == 0) (extent_of outline.body) true

begins-outline : (attribute : Attribute) → begins_by (outline_of attribute) ≡ begins attribute
begins-outline attribute = by attribute.body
  where
    by : (body : Body) → begins_by (outline_of (record attribute { body = body })) ≡ begins (record attribute { body = body })
    by (Resident value) = refl
    by (NonResident extent text) = refl

forms-by : (xs : List Attribute) → map form_of (filter begins xs) ≡ map (λ (o : Outline). o.form) (filter begins_by (map outline_of xs))
forms-by xs =
    each (filter begins xs)
    ∙ sym (ap (map (λ (o : Outline). o.form)) (filter-map outline_of begins_by xs
    ∙ ap (λ p. map outline_of (filter p xs)) (fun_ext begins-outline)))
  where
    each : (ys : List Attribute) → map form_of ys ≡ map (λ (o : Outline). o.form) (map outline_of ys)
    each [] = refl
    each (y ∷ ys) = ap (λ l. form_of y ∷ l) (each ys)

-- the attributes of file f in the stored record n, as it is found there
abbrev found_in : ℕ → ℕ → List ℕ → Option Record → List Attribute
found_in f n stored held = option_map_or (λ r. cond (file_of n r == f) (attributes (opened_of stored)) []) held []

module _ (changed : Key → Bool) (old new : VolumeView) (w : Rewrites changed old new) where
  outlines-in : (f n : ℕ) → map outline_of (found_in f n (new.block n) (record_in n (new.block n)))
      ≡ map outline_of (found_in f n (old.block n) (record_in n (old.block n)))
  outlines-in f n = by (w.blocks n)
    where
      pick : (b : Bool) (xs ys : List Attribute) → map outline_of xs ≡ map outline_of ys
          → map outline_of (cond b xs []) ≡ map outline_of (cond b ys [])
      pick true xs ys e = e
      pick false xs ys e = refl

      by : KeepsBlock old new n ⊎ RewritesBlock changed n (old.block n) (new.block n)
          → map outline_of (found_in f n (new.block n) (record_in n (new.block n)))
          ≡ map outline_of (found_in f n (old.block n) (record_in n (old.block n)))
      by (inl kept) = ap (λ block. map outline_of (found_in f n block (record_in n block))) kept.block
      by (inr r) =
          ap (λ o. map outline_of (found_in f n (new.block n) o)) (in-use n (new.block n) r.used_still)
          ∙ ap (λ g. map outline_of (cond (g == f) (attributes (opened_of (new.block n))) [])) (file-same n (old.block n)
          (new.block n) r.header)
          ∙ pick (file_in n (old.block n) == f) (attributes (opened_of (new.block n))) (attributes (opened_of
          (old.block n))) r.attributes_are.outlines
          ∙ sym (ap (λ o. map outline_of (found_in f n (old.block n) o)) (in-use n (old.block n) r.used))

  outlines-on : (f n : ℕ) → map outline_of (attributes_on new f n) ≡ map outline_of (attributes_on old f n)
  outlines-on f n =
      ap (λ (l : TableLayout). map outline_of (found_in f n (new.block n) (cond (ltb n l.count) (record_in n (new.block n)) None))) w.layout
      ∙ by (ltb n old.layout.count)
    where
      by : (b : Bool) → map outline_of (found_in f n (new.block n) (cond b (record_in n (new.block n)) None))
          ≡ map outline_of (found_in f n (old.block n) (cond b (record_in n (old.block n)) None))
      by true = outlines-in f n
      by false = refl

  pub forms-same : (f : ℕ) → forms_of new f ≡ forms_of old f
  forms-same f =
      let each = fun_ext (outlines-on f) in
      forms-by (flat_map (attributes_on new f) (range_with_len 0 new.layout.count))
      ∙ ap (λ xs. map (λ (o : Outline). o.form) (filter begins_by xs))
      (map-flat_map outline_of (attributes_on new f) (range_with_len 0 new.layout.count)
      ∙ ap (λ (l : TableLayout). flat_map (λ n. map outline_of (attributes_on new f n)) (range_with_len 0 l.count)) w.layout
      ∙ ap (λ g. flat_map g (range_with_len 0 old.layout.count)) each
      ∙ sym (map-flat_map outline_of (attributes_on old f) (range_with_len 0 old.layout.count)))
      ∙ sym (forms-by (flat_map (attributes_on old f) (range_with_len 0 old.layout.count)))

  pub forms-kept : (named : Key → Bool) (f : ℕ) → KeepsForms named old new f
  forms-kept named f = SameItems-same _ _ (ap (filter (is_form_kept named f)) (sym (forms-same f)))

  pub forms-come : (f : ℕ) → ComeRightly old new f
  forms-come f = All-from_Contains (λ form. Contains (forms_of old f) form ⊎ IsNewForm form) (forms_of new f)
      (λ form c. inl (subst (λ forms. Contains forms form) (forms-same f) c))
