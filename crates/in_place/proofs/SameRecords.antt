-- WHERE VALUES WERE REWRITTEN the records are what they were, but for the bytes of values.
use Rattle.std.proofs.Common.{◌≡◌, ◌⊎◌, ℕ, Bool, true, false, cond, ltb, List, [], ◌∷◌, Some, None, filter, map, inl, inr}
use Rattle.std.proofs.Common.{refl, sym, ap, ◌∙◌}
use mathlib.Core.Path.{fun_ext}
use Rattle.std.specs.Option.{option_map}
use Rattle.ntfs_def.specs.Attribute.{Attribute, Body, NonResident, Resident, attributes}
use Rattle.ntfs_def.specs.Fixup.{opened_of}
use Rattle.ntfs_def.specs.Record.{header_of, is_in_use}
use Rattle.volume_def.specs.Files.{Part, content_of, is_of, part_of, parts, parts_at, record_in, record_of, record_on, records_of}
use Rattle.volume_def.specs.Table.{TableLayout}
use Rattle.volume_def.specs.Values.{spot_at}
use Rattle.volume_def.specs.View.{VolumeView}
use Rattle.list_laws.proofs.MemberLaws.{filter-map}
use Rattle.session_def.specs.EditDefKept.{Key}
use Rattle.in_place.specs.Blank.{Outline, blank_body, blank_content, blank_part, blank_record, blanked, outline_of}
use Rattle.in_place.specs.InPlace.{KeepsBlock, Rewrites, RewritesBlock}
use Rattle.in_place.proofs.BlankLaws.{blank-parts, blank-spot}

-- the part that an attribute with this outline is
abbrev part_by : ℕ → Outline → Part
part_by n outline = record {
  holder = n;
  kind = outline.form.kind;
  name = outline.form.name;
  id = outline.id;
  flags = outline.flags;
  content = content_of outline.body;
}

part-outline : (n : ℕ) (attribute : Attribute) → blank_part (part_of n attribute) ≡ part_by n (outline_of attribute)
part-outline n attribute = ap (λ content. record (part_of n attribute) { content = content }) (by attribute.body)
  where
    by : (body : Body) → blank_content (content_of body) ≡ content_of (blank_body body)
    by (Resident value) = refl
    by (NonResident extent text) = refl

parts-outline : (n : ℕ) (xs : List Attribute) → map blank_part (map (part_of n) xs) ≡ map (part_by n) (map outline_of xs)
parts-outline n [] = refl
parts-outline n (x ∷ xs) = λ i. part-outline n x i ∷ parts-outline n xs i

-- two records with the same outlines
record-same : (n : ℕ) (was now : List ℕ) → header_of now ≡ header_of was → map outline_of (attributes now) ≡ map outline_of (attributes was)
    → blank_record (record_of n now) ≡ blank_record (record_of n was)
record-same n was now header outlines =
    let same = parts-outline n (attributes now) ∙ ap (map (part_by n)) outlines ∙ sym (parts-outline n (attributes was)) in
    λ i. record { header = header i; parts = same i }

pub in-use : (n : ℕ) (stored : List ℕ) → is_in_use stored ≡ true → record_in n stored ≡ Some (record_of n (opened_of stored))
unfolding record_in
in-use n stored used = ap (λ b. cond b (Some (record_of n (opened_of stored))) None) used

module _ (changed : Key → Bool) (old new : VolumeView) (w : Rewrites changed old new) where
  -- EACH RECORD, and so all of them
  in-same : (n : ℕ) → option_map blank_record (record_in n (new.block n)) ≡ option_map blank_record (record_in n (old.block n))
  in-same n = by (w.blocks n)
    where
      by : KeepsBlock old new n ⊎ RewritesBlock changed n (old.block n) (new.block n)
          → option_map blank_record (record_in n (new.block n)) ≡ option_map blank_record (record_in n (old.block n))
      by (inl kept) = ap (λ block. option_map blank_record (record_in n block)) kept.block
      by (inr r) =
          ap (option_map blank_record) (in-use n (new.block n) r.used_still)
          ∙ ap Some (record-same n (opened_of (old.block n)) (opened_of (new.block n)) r.header r.attributes_are.outlines)
          ∙ sym (ap (option_map blank_record) (in-use n (old.block n) r.used))

  pub on-same : (n : ℕ) → option_map blank_record (record_on new n) ≡ option_map blank_record (record_on old n)
  on-same n =
      ap (λ (l : TableLayout). option_map blank_record (cond (ltb n l.count) (record_in n (new.block n)) None)) w.layout
      ∙ by (ltb n old.layout.count)
    where
      by : (b : Bool) → option_map blank_record (cond b (record_in n (new.block n)) None)
          ≡ option_map blank_record (cond b (record_in n (old.block n)) None)
      by true = in-same n
      by false = refl

  pub records-same : blanked (records_of new) ≡ blanked (records_of old)
  records-same =
      let count : new.layout.count ≡ old.layout.count = ap (λ (l : TableLayout). l.count) w.layout in
      let at = fun_ext on-same in
      λ i. record { count = count i; record_at = at i }

  pub parts-same : (f : ℕ) → map blank_part (parts (records_of new) f) ≡ map blank_part (parts (records_of old) f)
  parts-same f =
      sym (blank-parts (records_of new) f) ∙ ap (λ records. parts records f) records-same ∙ blank-parts (records_of old) f

  pub at-same : (f kind : ℕ) (name : List ℕ) → map blank_part (parts_at new f kind name) ≡ map blank_part (parts_at old f kind name)
  at-same f kind name =
      sym (filter-map blank_part (is_of kind name) (parts (records_of new) f)) ∙ ap (filter (is_of kind name)) (parts-same f)
      ∙ filter-map blank_part (is_of kind name) (parts (records_of old) f)

  pub spots-same : (f kind : ℕ) (name : List ℕ) (vcn : ℕ) → spot_at (parts_at new f kind name) vcn ≡ spot_at (parts_at old f kind name) vcn
  spots-same f kind name vcn =
      sym (blank-spot (parts_at new f kind name) vcn) ∙ ap (λ xs. spot_at xs vcn) (at-same f kind name)
      ∙ blank-spot (parts_at old f kind name) vcn
