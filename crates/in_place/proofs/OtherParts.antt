-- ATTRIBUTES THAT ARE NOT NAMED are the same whole, and what their first parts tell.
use Rattle.std.proofs.Common.{◌≡◌, ◌⊎◌, ◌==◌, not, ℕ, Bool, true, false, cond, ltb, List, [], None, filter, map, inl, inr}
use Rattle.std.proofs.Common.{refl, sym, ap, subst, ◌∙◌}
use mathlib.Core.Path.{fun_ext}
use Rattle.std.proofs.lemmas.Bool.{and_parts, eqb-true}
use Rattle.std.proofs.lemmas.Slice.Eq.{bytes_eq-Decides}
use Rattle.std.specs.List.{flat_map, range_with_len}
use Rattle.std.specs.Str.{bytes_eq}
use Rattle.ntfs_def.specs.Attribute.{Attribute, attributes}
use Rattle.ntfs_def.specs.Fixup.{opened_of}
use Rattle.volume_def.specs.Files.{Part, is_of, part_of, parts, parts_at, parts_in, record_in, record_on, records_of}
use Rattle.volume_def.specs.Table.{TableLayout}
use Rattle.volume_def.specs.Values.{is_first}
use Rattle.volume_def.specs.View.{VolumeView}
use Rattle.list_laws.proofs.FilterLaws.{filter-passed, filter-swap}
use Rattle.list_laws.proofs.MemberLaws.{filter-map}
use Rattle.session_def.specs.EditDefKept.{Key, is_kept, kept_told, key_of, told_by}
use Rattle.in_place.specs.InPlace.{KeepsBlock, Rewrites, RewritesBlock, file_in, is_other}
use Rattle.in_place.proofs.BlankLaws.{filter-flat_map}
use Rattle.in_place.proofs.SameRecords.{in-use}
use Rattle.in_place.proofs.RewriteLaws.{file-same}

-- a part of file f that is not named
abbrev pub is_other_part : (Key → Bool) → ℕ → Part → Bool
is_other_part changed f part = not (changed (key_of f part.kind part.name))

-- of the parts of one record, where it belongs to the file
other-in : (changed : Key → Bool) (n f g : ℕ) (was now : List Attribute)
    → filter (is_other changed g) now ≡ filter (is_other changed g) was
    → filter (is_other_part changed f) (cond (g == f) (map (part_of n) now) [])
    ≡ filter (is_other_part changed f) (cond (g == f) (map (part_of n) was) [])
other-in changed n f g was now e = by (g == f) refl
  where
    by : (b : Bool) → (g == f) ≡ b
        → filter (is_other_part changed f) (cond b (map (part_of n) now) [])
        ≡ filter (is_other_part changed f) (cond b (map (part_of n) was) [])
    by false is = refl
    by true is =
        let at = subst (λ g. filter (is_other changed g) now ≡ filter (is_other changed g) was) (eqb-true g f is) e in
        filter-map (part_of n) (is_other_part changed f) now ∙ ap (map (part_of n)) at
        ∙ sym (filter-map (part_of n) (is_other_part changed f) was)

module _ (changed : Key → Bool) (old new : VolumeView) (w : Rewrites changed old new) where
  others-in : (f n : ℕ) → filter (is_other_part changed f) (parts_in (record_in n (new.block n)) n f)
      ≡ filter (is_other_part changed f) (parts_in (record_in n (old.block n)) n f)
  unfolding parts_in
  others-in f n = by (w.blocks n)
    where
      by : KeepsBlock old new n ⊎ RewritesBlock changed n (old.block n) (new.block n)
          → filter (is_other_part changed f) (parts_in (record_in n (new.block n)) n f)
          ≡ filter (is_other_part changed f) (parts_in (record_in n (old.block n)) n f)
      by (inl kept) = ap (λ block. filter (is_other_part changed f) (parts_in (record_in n block) n f)) kept.block
      by (inr r) =
          ap (λ o. filter (is_other_part changed f) (parts_in o n f)) (in-use n (new.block n) r.used_still)
          ∙ ap (λ g. filter (is_other_part changed f) (cond (g == f) (map (part_of n) (attributes (opened_of (new.block n)))) []))
          (file-same n (old.block n) (new.block n) r.header)
          ∙ other-in changed n f (file_in n (old.block n)) (attributes (opened_of (old.block n))) (attributes (opened_of (new.block n)))
          r.attributes_are.others
          ∙ sym (ap (λ o. filter (is_other_part changed f) (parts_in o n f)) (in-use n (old.block n) r.used))

  others-on : (f n : ℕ) → filter (is_other_part changed f) (parts_in (record_on new n) n f)
      ≡ filter (is_other_part changed f) (parts_in (record_on old n) n f)
  others-on f n =
      ap (λ (l : TableLayout). filter (is_other_part changed f) (parts_in (cond (ltb n l.count) (record_in n
      (new.block n)) None) n f)) w.layout
      ∙ by (ltb n old.layout.count)
    where
      by : (b : Bool) → filter (is_other_part changed f) (parts_in (cond b (record_in n (new.block n)) None) n f)
          ≡ filter (is_other_part changed f) (parts_in (cond b (record_in n (old.block n)) None) n f)
      by true = others-in f n
      by false = refl

  -- OF ALL PARTS of a file
  pub others-same : (f : ℕ) → filter (is_other_part changed f) (parts (records_of new) f)
      ≡ filter (is_other_part changed f) (parts (records_of old) f)
  unfolding parts
  others-same f =
      let each = fun_ext (others-on f) in
      filter-flat_map (is_other_part changed f) (λ n. parts_in (record_on new n) n f) (range_with_len 0 new.layout.count)
      ∙ ap (λ (l : TableLayout). flat_map (λ n. filter (is_other_part changed f) (parts_in (record_on new n) n f))
      (range_with_len 0 l.count)) w.layout
      ∙ ap (λ g. flat_map g (range_with_len 0 old.layout.count)) each
      ∙ sym (filter-flat_map (is_other_part changed f) (λ n. parts_in (record_on old n) n f) (range_with_len 0 old.layout.count))

  -- parts that a test passes which is passed by none that is named
  pub passed-same : (f : ℕ) (p : Part → Bool) → ((part : Part) → p part ≡ true → changed (key_of f part.kind part.name) ≡ false)
      → filter p (parts (records_of new) f) ≡ filter p (parts (records_of old) f)
  passed-same f p free =
      sym (again (parts (records_of new) f)) ∙ ap (filter p) (others-same f) ∙ again (parts (records_of old) f)
    where
      again : (xs : List Part) → filter p (filter (is_other_part changed f) xs) ≡ filter p xs
      again xs = filter-passed p (is_other_part changed f) xs (λ x e. ap not (free x e))

  -- THE PARTS OF AN ATTRIBUTE that is not named
  pub at-other : (f kind : ℕ) (name : List ℕ) → changed (key_of f kind name) ≡ false → parts_at new f kind name ≡ parts_at old f kind name
  at-other f kind name free = passed-same f (is_of kind name) (λ part is.
      let p = and_parts (part.kind == kind) (bytes_eq part.name name) is in
      let k = eqb-true part.kind kind p.0 in
      let n = (bytes_eq-Decides part.name name).0 p.1 in
      ap (λ kind. changed (key_of f kind part.name)) k ∙ ap (λ name. changed (key_of f kind name)) n ∙ free)

  -- what is told of them
  pub told-other : (f : ℕ) → kept_told changed new f ≡ kept_told changed old f
  told-other f = of new ∙ ap (λ xs. map told_by (filter is_first xs)) (others-same f) ∙ sym (of old)
    where
      of : (v : VolumeView) → kept_told changed v f
          ≡ map told_by (filter is_first (filter (is_other_part changed f) (parts (records_of v) f)))
      of v =
          filter-map told_by (is_kept changed f) (filter is_first (parts (records_of v) f))
          ∙ ap (map told_by) (filter-swap (is_other_part changed f) is_first (parts (records_of v) f))
