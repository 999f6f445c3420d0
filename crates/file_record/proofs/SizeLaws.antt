-- An attribute of which the sizes were set: all its bytes.
use Rattle.std.proofs.Common.{◌≡◌, ℕ, ◌+◌, ◌*◌, ◌^◌, ◌<◌, ◌≤◌, List, length, ap, subst, sym, ◌∙◌, arith}
use Rattle.std.specs.Prelude.{IsSome, slice_range}
use Rattle.vol_bytes.specs.Field.{u16_at, u32_at, u64_at}
use Rattle.vol_bytes.proofs.FieldLaws.{u32_at-same}
use Rattle.list_laws.proofs.PieceLaws.{length_within}
use Rattle.ntfs_def.specs.Attribute.{attribute_len, attribute_place, run_text_of}
use Rattle.ntfs_def.specs.Shape.{HasShape}
use Rattle.ntfs_def.proofs.ShapeLaws.{header_failing-length, header_failing-used}
use Rattle.attr_view.specs.Sizes.{PutsSizes, SetsSizes}
use Rattle.attr_view.specs.Values.{attribute_in}
use Rattle.attr_view.proofs.SizeLaws.{extent-of, long-header}
use Rattle.file_record.proofs.OverwriteLaws.{bytes-at, same-at, u16-piece}

-- longer fields of a piece of a block
u32-piece : (xs : List ℕ) (at len k : ℕ) → k + 3 < len → u32_at (slice_range xs at (at + len)) k ≡ u32_at xs (at + k)
u32-piece xs at len k h =
    let low = u16-piece xs at len k (omega (arith, h)) in
    let high = u16-piece xs at len (k + 2) (omega (arith, h)) ∙ ap (u16_at xs) {x = at + (k + 2)} {y = at + k + 2} (omega arith) in
    ap (λ n. n + 2 ^ 16 * u16_at (slice_range xs at (at + len)) (k + 2)) low ∙ ap (λ n. u16_at xs (at + k) + 2 ^ 16 * n) high

u64-piece : (xs : List ℕ) (at len k : ℕ) → k + 7 < len → u64_at (slice_range xs at (at + len)) k ≡ u64_at xs (at + k)
u64-piece xs at len k h =
    let low = u32-piece xs at len k (omega (arith, h)) in
    let high = u32-piece xs at len (k + 4) (omega (arith, h)) ∙ ap (u32_at xs) {x = at + (k + 4)} {y = at + k + 4} (omega arith) in
    ap (λ n. n + 2 ^ 32 * u32_at (slice_range xs at (at + len)) (k + 4)) low ∙ ap (λ n. u32_at xs (at + k) + 2 ^ 32 * n) high

module _ (old new : List ℕ) (count i real initialized : ℕ) (shape : HasShape old count) (lt : i < count)
    (extent : IsSome (run_text_of (attribute_in old i).body)) (sets : SetsSizes old new i real initialized) where
  abbrev p : ℕ
  p = attribute_place old i

  abbrev len : ℕ
  len = attribute_len old (attribute_place old i)

  long : 64 ≤ len
  long =
      let header = (shape.each i lt).whole.has_header in
      omega (arith, header, long-header old p (extent-of old p extent))

  inside : p + len ≤ length old
  inside =
      let below = (shape.each i lt).below_used in
      omega (arith, below, header_failing-used old shape.header, header_failing-length old shape.header)

  same-len : attribute_len new p ≡ len
  same-len = u32_at-same old new (p + 0x04) (λ k f t. sets.bytes.rest.below k (omega (arith, t)))

  was-bytes : (attribute_in old i).bytes ≡ slice_range old p (p + len)
  was-bytes = bytes-at old p

  now-bytes : (attribute_in new i).bytes ≡ slice_range new p (p + len)
  now-bytes =
      bytes-at new (attribute_place new i)
      ∙ ap (λ q. slice_range new q (q + attribute_len new q)) sets.changes.place
      ∙ ap (λ n. slice_range new p (p + n)) same-len

  pieces : PutsSizes (slice_range old p (p + len)) (slice_range new p (p + len)) 0 real initialized
  pieces = record {
    real_is = u64-piece new p len 0x30 (omega (arith, long)) ∙ sets.bytes.real_is;
    initialized_is = u64-piece new p len 0x38 (omega (arith, long)) ∙ sets.bytes.initialized_is;
    rest = record {
      len = length_within new p len (omega (arith, inside, sets.bytes.rest.len)) ∙ sym (length_within old p len inside);
      below = λ k low. same-at old new p len k inside sets.bytes.rest.len (sets.bytes.rest.below (p + k) (omega (arith, low)));
      above = λ k high. same-at old new p len k inside sets.bytes.rest.len (sets.bytes.rest.above (p + k) (omega (arith, high)));
    };
  }

  -- they are those of before, but for these two numbers
  pub attribute-sizes : PutsSizes (attribute_in old i).bytes (attribute_in new i).bytes 0 real initialized
  attribute-sizes =
      subst (λ bytes. PutsSizes bytes (attribute_in new i).bytes 0 real initialized) (sym was-bytes)
      (subst (λ bytes. PutsSizes (slice_range old p (p + len)) bytes 0 real initialized) (sym now-bytes) pieces)
