-- AN ATTRIBUTE WHOLE in one part: what the edit of its record makes of it.
use Rattle.std.proofs.Common.{◌≡◌, ◌+◌, ◌*◌, ◌==◌, ℕ, List, [], ◌∷◌, ◌++◌, length, filter}
use Rattle.std.proofs.Common.{refl, sym, ap, subst, inl, inr, ◌∙◌, arith, length-append}
use Rattle.std.specs.Prelude.{IfSome, IsSome, IsTrue}
use Rattle.std.proofs.lemmas.Bool.{and_from, eq-eqb}
use Rattle.std.proofs.lemmas.List.{append-nil, nil_from_length}
use Rattle.std.proofs.lemmas.List.Elements.{All-contains}
use Rattle.std.proofs.lemmas.List.Sums.{sum_by-cons}
use Rattle.std.proofs.lemmas.Slice.Eq.{bytes_eq-Decides}
use Rattle.ntfs_def.specs.Attribute.{Attribute}
use Rattle.ntfs_def.specs.Fixup.{opened_of}
use Rattle.list_laws.specs.Replaces.{Replaces}
use Rattle.list_laws.proofs.FilterLaws.{filter-all}
use Rattle.list_laws.proofs.MemberLaws.{All-from_Contains, Contains-from_map, Contains-only}
use Rattle.list_laws.proofs.ReplacesLaws.{Replaces-filter}
use Rattle.list_laws.proofs.SameItemsLaws.{SameItems-same}
use Rattle.volume_def.specs.ExtentsClause.{AreAttribute, BeginsAt, FitExtents, has_sizes}
use Rattle.volume_def.specs.Files.{Clusters, Content, Part, Value, all_covered, content_extent, content_value, file_of, is_of}
use Rattle.volume_def.specs.Files.{part_clusters, part_of, parts_at, record_of, records_of}
use Rattle.volume_def.specs.View.{VolumeView}
use Rattle.volume_def.proofs.RecordLaws.{parts-own_at}
use Rattle.volume_edits.specs.Rewritten.{EditsBlock}
use Rattle.edit_def.specs.Kept.{Key}
use Rattle.record_edits.specs.RecordEdit.{AllHave, HasKey, parts_made}
use Rattle.record_edits.proofs.BlockEdits.{edit-of}

-- where a list is replaced whole
replaced-whole : {A : Type 0} (old new was now : List A) → Replaces old new was now → old ≡ was → new ≡ now
replaced-whole old new was now r e =
    let long : length was ≡ length r.before + (length was + length r.after) =
    ap length (sym e ∙ r.old_is) ∙ length-append r.before (was ++ r.after) ∙ ap (λ n. length r.before + n) (length-append was r.after) in
    let front = nil_from_length r.before (omega (arith, long)) in
    let back = nil_from_length r.after (omega (arith, long)) in
    r.new_is ∙ ap (λ xs. xs ++ (now ++ r.after)) front ∙ ap (λ xs. now ++ xs) back ∙ append-nil now

-- AN ATTRIBUTE that has all of its parts in the record has those that come.
pub whole : (old new : VolumeView) (n : ℕ) (stored : List ℕ) (was now : List Attribute) → (e : EditsBlock old new n stored was now)
    → (key : Key)
    → file_of n (record_of n (opened_of (old.block n))) ≡ key.file → AllHave key was → AllHave key now
    → parts_at old key.file key.kind key.name ≡ parts_made n was → parts_at new key.file key.kind key.name ≡ parts_made n now
whole old new n stored was now e key file of_was of_now all =
    let r = Replaces-filter (is_of key.kind key.name) _ _ _ _
    (parts-own_at (records_of old) (records_of new) n key.file (parts_made n was) (parts_made n now)
    (edit-of old new n stored was now e) file) in
    replaced-whole _ _ _ _ r (all ∙ sym (its was of_was)) ∙ its now of_now
  where
    its : (xs : List Attribute) → AllHave key xs → filter (is_of key.kind key.name) (parts_made n xs) ≡ parts_made n xs
    its xs have = filter-all (is_of key.kind key.name) (parts_made n xs) (λ part c.
        let from = Contains-from_map (part_of n) xs part c in
        let is = All-contains (HasKey key) xs from.0 have from.1 in
        and_from (part.kind == key.kind) _ (eq-eqb part.kind key.kind (sym (ap (λ (p : Part). p.kind) from.2) ∙ is.kind))
        ((bytes_eq-Decides part.name key.name).1 (sym (ap (λ (p : Part). p.name) from.2) ∙ is.name)))

-- ONE PART is an attribute: a value ..
pub one-value : (size f : ℕ) (part : Part) → IsSome (content_value part.content) → AreAttribute size f (part ∷ [])
one-value size f part value = record {
  ordered = part ∷ [];
  order = SameItems-same _ _ refl;
  whole = inl value;
  several = λ more. absurd (omega (arith, more));
  sizes = All-from_Contains Fits (part ∷ []) (λ other c. subst Fits (Contains-only part other c) (λ has. no-extent part.content value));
}
  where
    Fits : Part → Type 0
    Fits p = IsTrue (has_sizes f p) → IfSome (content_extent p.content) (λ extent.
        extent.sizes.first ≡ 0 → FitExtents (all_covered (part ∷ []) * size) p.flags extent.sizes)

    no-extent : (content : Content) → IsSome (content_value content) → IfSome (content_extent content) (λ extent.
        extent.sizes.first ≡ 0 → FitExtents (all_covered (part ∷ []) * size) part.flags extent.sizes)
    no-extent (Value value) is = tt
    no-extent (Clusters extent runs) is = cc

-- .. or an extent from cluster 0 on, whose numbers fit what it covers
pub one-extent : (size f : ℕ) (part : Part) → BeginsAt 0 part
    → (IsTrue (has_sizes f part) → IfSome (content_extent part.content) (λ extent.
    extent.sizes.first ≡ 0 → FitExtents (part_clusters part * size) part.flags extent.sizes)) → AreAttribute size f (part ∷ [])
one-extent size f part begins fits = record {
  ordered = part ∷ [];
  order = SameItems-same _ _ refl;
  whole = inr begins;
  several = λ more. absurd (omega (arith, more));
  sizes = All-from_Contains Fits (part ∷ []) (λ other c. subst Fits (Contains-only part other c)
      (subst (λ n. IsTrue (has_sizes f part) → IfSome (content_extent part.content) (λ extent.
      extent.sizes.first ≡ 0 → FitExtents (n * size) part.flags extent.sizes)) (sym covered) fits));
}
  where
    Fits : Part → Type 0
    Fits p = IsTrue (has_sizes f p) → IfSome (content_extent p.content) (λ extent.
        extent.sizes.first ≡ 0 → FitExtents (all_covered (part ∷ []) * size) p.flags extent.sizes)

    covered : all_covered (part ∷ []) ≡ part_clusters part
    covered = let one = sum_by-cons part_clusters part [] in omega (arith, one)
