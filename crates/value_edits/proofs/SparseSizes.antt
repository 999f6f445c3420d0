-- A SPARSE EXTENT from cluster 0 on tells the bytes of its clusters that are no hole, as each attribute of a record that was read.
use Rattle.std.proofs.Common.{◌≡◌, ◌+◌, ◌==◌, ℕ, zero, suc, Bool, true, false, cond, List, [], ◌∷◌, length, Option, Some, None}
use Rattle.std.proofs.Common.{refl, ap, subst, inl, inr, ◌∙◌}
use Rattle.std.specs.List.{Contains}
use Rattle.std.specs.Prelude.{IsSome}
use Rattle.std.proofs.lemmas.Bool.{and_from, cases_Bool, eq-eqb, or_right}
use Rattle.list_laws.proofs.MemberLaws.{Contains-cases, Contains-nil}
use Rattle.list_laws.proofs.OptionLaws.{some_same}
use Rattle.ntfs_def.specs.Attribute.{Attribute, ExtentHeader, NonResident, Resident, attribute_at, attribute_flags, attribute_kind}
use Rattle.ntfs_def.specs.Attribute.{attribute_len}
use Rattle.ntfs_def.specs.Attribute.{attributes, attributes_from, compressed_len, content_bytes, extent_at, first_vcn, has_compressed_len}
use Rattle.ntfs_def.specs.Attribute.{is_resident}
use Rattle.ntfs_def.specs.Flags.{is_compressed, is_sparse}
use Rattle.ntfs_def.specs.Record.{first_place}
use Rattle.ntfs_def.specs.declared.kinds.TheConstants.{END}
use Rattle.ntfs_def.specs.declared.run_text.Run.{Run}
use Rattle.volume_def.specs.Files.{Clusters, content_extent, content_of}

some-if : (b : Bool) (n : ℕ) → b ≡ true → IsSome (cond b (Some n) None)
some-if true n e = refl
some-if false n e = cc

-- where the header has the number
told-there : (block : List ℕ) (at : ℕ) → first_vcn block at ≡ 0 → is_sparse (attribute_flags block at) ≡ true
    → IsSome (compressed_len block at)
told-there block at first sparse =
    let has : has_compressed_len block at ≡ true =
    and_from (first_vcn block at == 0) _ (eq-eqb (first_vcn block at) 0 first)
    (or_right (is_compressed (attribute_flags block at)) (is_sparse (attribute_flags block at)) sparse) in
    some-if _ _ has

told-at : (block : List ℕ) (at : ℕ) (extent : ExtentHeader) (runs : Option (List Run))
    → content_of (attribute_at block at).body ≡ Clusters extent runs → extent.sizes.first ≡ 0
    → is_sparse (attribute_at block at).flags ≡ true → IsSome extent.compressed
unfolding attribute_at
told-at block at extent runs is first sparse = by (is_resident block at) is
  where
    by : (b : Bool)
        → content_of (cond b (Resident (content_bytes block at)) (NonResident (extent_at block at) (content_bytes block at)))
        ≡ Clusters extent runs → IsSome extent.compressed
    by true e = cc
    by false e =
        let same : extent_at block at ≡ extent = some_same (ap content_extent e) in
        subst (λ (x : ExtentHeader). IsSome x.compressed) same
        (told-there block at (ap (λ (x : ExtentHeader). x.sizes.first) same ∙ first) sparse)

told-from : (most : ℕ) (block : List ℕ) (at : ℕ) (a : Attribute) → Contains (attributes_from most block at) a
    → (extent : ExtentHeader) (runs : Option (List Run)) → content_of a.body ≡ Clusters extent runs → extent.sizes.first ≡ 0
    → is_sparse a.flags ≡ true → IsSome extent.compressed
told-from zero block at a there extent runs is first sparse = absurd (Contains-nil a there)
told-from (suc most) block at a there extent runs is first sparse =
    let rest = attributes_from most block (at + attribute_len block at) in
    let each = λ (b : Bool). Contains (cond b [] (attribute_at block at ∷ rest)) a in
    elim (cases_Bool (attribute_kind block at == END)) [
      | inl ends ↦ absurd (Contains-nil a (subst each ends there))
      | inr more ↦ elim (Contains-cases (attribute_at block at) rest a (subst each more there)) [
        | inl its ↦
            told-at block at extent runs (ap (λ (x : Attribute). content_of x.body) its ∙ is) first
            (ap (λ (x : Attribute). is_sparse x.flags) its ∙ sparse)
        | inr later ↦ told-from most block (at + attribute_len block at) a later extent runs is first sparse
      ]
    ]

pub sparse-told : (block : List ℕ) (a : Attribute) → Contains (attributes block) a → (extent : ExtentHeader) (runs : Option (List Run))
    → content_of a.body ≡ Clusters extent runs → extent.sizes.first ≡ 0 → is_sparse a.flags ≡ true → IsSome extent.compressed
unfolding attributes
sparse-told block a there = told-from (length block) block (first_place block) a there
