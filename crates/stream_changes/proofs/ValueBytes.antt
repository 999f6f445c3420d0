-- A VALUE AND ITS ATTRIBUTE: the attribute has 24 bytes more at least, and its record 1,024 in all. What is held of a value.
use Rattle.std.proofs.Common.{◌≡◌, ◌+◌, ◌<◌, ◌≤◌, ℕ, Bool, true, false, cond, List, Option, None, Some, length, refl, sym, ap, subst, inl}
use Rattle.std.proofs.Common.{inr, ◌∙◌, arith}
use Rattle.std.specs.Prelude.{IsSomeAnd, slice_get, slice_range}
use Rattle.std.proofs.lemmas.Bool.{cases_lt}
use Rattle.std.proofs.lemmas.Option.{slice_get_within}
use Rattle.list_laws.proofs.OptionLaws.{some_same}
use Rattle.list_laws.proofs.PieceLaws.{length_within}
use Rattle.ntfs_def.specs.Attribute.{Attribute, NonResident, Resident, attribute_at, attribute_len, attribute_place, attributes}
use Rattle.ntfs_def.specs.Attribute.{content_bytes, content_end, content_offset, extent_at, has_compressed_len, header_len, is_resident}
use Rattle.ntfs_def.specs.Attribute.{runs_offset, value_len, value_of, value_offset}
use Rattle.ntfs_def.specs.Record.{used_size}
use Rattle.ntfs_def.specs.Shape.{HasShape, IsAttribute}
use Rattle.ntfs_def.proofs.AttributeLaws.{slice_get-attributes}
use Rattle.ntfs_def.proofs.ShapeLaws.{IsWhole-long, header_failing-length, header_failing-used}
use Rattle.volume_def.specs.Files.{Part, content_value, part_of}
use Rattle.volume_def.specs.View.{VolumeView}
use Rattle.file_record.specs.Attributes.{opened_record}
use Rattle.file_record.specs.Records.{IsRecordOf}
use Rattle.value_edits.proofs.Below.{body-value}

-- an attribute that has a value is resident, and the value is what it holds
resident-value : (block : List ℕ) (at : ℕ) (value : List ℕ) → value_of (attribute_at block at).body ≡ Some value
    → (is_resident block at ≡ true) × (content_bytes block at ≡ value)
unfolding attribute_at
resident-value block at value = by (is_resident block at) refl
  where
    by : (b : Bool) → is_resident block at ≡ b
        → value_of (cond b (Resident (content_bytes block at)) (NonResident (extent_at block at) (content_bytes block at))) ≡ Some value
        → (is_resident block at ≡ true) × (content_bytes block at ≡ value)
    by true e is = (e, some_same is)
    by false e is = cc

-- all its bytes
attribute-long : (block : List ℕ) (at : ℕ) → IsAttribute block at → used_size block ≤ length block
    → length (attribute_at block at).bytes ≡ attribute_len block at
unfolding attribute_at
attribute-long block at there room =
    let below = there.below_used in
    ap (λ n. length (slice_range block n (at + attribute_len block at))) (let none : at + 0 ≡ at = omega arith in none)
    ∙ length_within block at (attribute_len block at) (omega (arith, below, room))

module _ (block : List ℕ) (count i : ℕ) (shape : HasShape block count) (lt : i < count) (value : List ℕ)
    (is : value_of (attribute_at block (attribute_place block i)).body ≡ Some value) where
  abbrev at : ℕ
  at = attribute_place block i

  abbrev from : ℕ
  from = value_offset block at

  abbrev had : ℕ
  had = value_len block at

  there : IsAttribute block at
  there = shape.each i lt

  content : (is_resident block at ≡ true) × (content_bytes block at ≡ value)
  content = resident-value block at value is

  begins : content_offset block at ≡ from
  begins = ap (λ b. cond b from (runs_offset block at)) content.0

  ends : content_end block at ≡ from + had
  ends = ap (λ b. cond b (from + had) (attribute_len block at)) content.0

  used : used_size block ≤ 1024
  used = header_failing-used block shape.header

  whole : length block ≡ 1024
  whole = header_failing-length block shape.header

  as-long : length value ≡ had
  as-long =
      let assoc : at + (from + had) ≡ at + from + had = omega arith in
      let bytes : content_bytes block at ≡ slice_range block (at + from) (at + from + had) =
      ap (λ k. slice_range block (at + k) (at + content_end block at)) begins
      ∙ ap (λ k. slice_range block (at + from) (at + k)) ends ∙ ap (slice_range block (at + from)) assoc in
      let below = there.below_used in
      let within = there.whole.content_inside in
      let many = length_within block (at + from) had (omega (arith, within, ends, below, used, whole)) in
      omega (arith, ap length content.1, ap length bytes, many)

  -- what is not empty begins past the header
  with-header : 24 + had ≤ attribute_len block at
  with-header = elim (cases_lt 0 had) [
    | inl some ↦
        let order = there.whole.content_order (omega (arith, some, begins, ends)) in
        let header : header_len block at ≡ 24 = ap (λ b. cond b 24 (cond (has_compressed_len block at) 72 64)) content.0 in
        let within = there.whole.content_inside in
        omega (arith, order, begins, header, within, ends)
    | inr none ↦ let long = IsWhole-long block at there.whole in omega (arith, none, long)
  ]

  value-within : (24 + length value ≤ length (attribute_at block at).bytes) × (length value ≤ 1000)
  value-within =
      let long = attribute-long block at there (omega (arith, used, whole)) in
      let below = there.below_used in
      let room : 24 + length value ≤ length (attribute_at block at).bytes = omega (arith, as-long, with-header, long) in
      (room, omega (arith, room, long, below, used))

-- THE SAME of an attribute of a record of a volume
pub value-long : (view : VolumeView) (f n i : ℕ) → IsRecordOf view f n → (was : Attribute) (value : List ℕ)
    → slice_get (attributes (opened_record view n)) i ≡ Some was → value_of was.body ≡ Some value
    → (24 + length value ≤ length was.bytes) × (length value ≤ 1000)
value-long view f n i own was value there is =
    let block = opened_record view n in
    let shape = own.well_formed.shape in
    let lt = slice_get_within (attributes block) i was there in
    let same : attribute_at block (attribute_place block i) ≡ was =
    some_same (sym (slice_get-attributes block (length (attributes block)) i shape lt) ∙ there) in
    subst (λ (a : Attribute). (24 + length value ≤ length a.bytes) × (length value ≤ 1000)) same
    (value-within block (length (attributes block)) i shape lt value (ap (λ (a : Attribute). value_of a.body) same ∙ is))

-- WHAT IS HELD of a part: its value, by that of its attribute
pub value-held : (o : Option Part) (a : Attribute) (value : Option (List ℕ)) → IsSomeAnd o (λ part. part ≡ part_of part.holder a)
    → value ≡ value_of a.body → IsSomeAnd o (λ part. content_value part.content ≡ value)
value-held None a value is same = absurd is
value-held (Some part) a value is same = ap (λ (p : Part). content_value p.content) is ∙ body-value a.body ∙ sym same
