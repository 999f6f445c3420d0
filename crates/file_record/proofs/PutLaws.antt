-- Bytes that are put into a value of an opened record: it has the length that they need, and then they are written.
use Rattle.std.proofs.Common.{◌≡◌, ◌+◌, ◌<◌, ◌≤◌, ℕ, List, None, Option, Some, length, max, set, refl, sym, ap, subst, ◌∙◌, arith}
use Rattle.std.specs.Prelude.{IsSome, IsSomeAnd}
use Rattle.std.specs.Option.{option_map}
use Rattle.std.proofs.lemmas.List.{length-append, length-replicate, length-take, set-set}
use Rattle.ntfs_def.specs.Attribute.{attribute_len, attribute_place, attributes, content_end, content_offset, value_of}
use Rattle.ntfs_def.specs.Record.{used_size}
use Rattle.ntfs_def.specs.Shape.{HasShape}
use Rattle.ntfs_def.proofs.ShapeLaws.{header_failing-length}
use Rattle.attr_view.specs.Values.{ChangesBody, Resizes, WritesValue, attribute_in, len_with, overwritten, with_length}
use Rattle.list_laws.proofs.PieceLaws.{slice_range-short}
use Rattle.file_record.specs.Attributes.{HasRoomToPut, IsRoomAfterPut, PutsIn, with_bytes_at}
use Rattle.file_record.proofs.OverwriteLaws.{attribute-indexed, attribute-used, resized-indexed, with-value}

-- a value is no longer than its record
pub value-few : (block : List ℕ) (count i len : ℕ) → HasShape block count
    → IsSomeAnd (value_of (attribute_in block i).body) (λ value. len ≡ length value) → len ≤ 1024
value-few block count i len shape is =
    let p = attribute_place block i in
    let held = with-value block p (λ value. len ≡ length value) is in
    let short = slice_range-short block (p + content_offset block p) (p + content_end block p) in
    omega (arith, held.1, short, header_failing-length block shape.header)

-- a value that is given this length has it
length-with : (n : ℕ) (value : List ℕ) → length (with_length n value) ≡ n
length-with n value = simp (length-append, length-take, length-replicate) (omega arith)

-- with n bytes, the value holds what is written below its end
holds-then : (o : Option (List ℕ)) (n end : ℕ) → IsSome o → end ≤ n → IsSomeAnd (option_map (with_length n) o) (λ value. end ≤ length value)
holds-then None n end some le = cc
holds-then (Some value) n end some le = omega (arith, length-with n value, le)

-- of a value of `len` bytes
fits-then : (o : Option (List ℕ)) (len most : ℕ) (used : ℕ → ℕ) → IsSomeAnd o (λ value. len ≡ length value)
    → IsSomeAnd o (λ value. used (length value) ≤ most) → used len ≤ most
fits-then None len most used is fits = absurd fits
fits-then (Some value) len most used is fits = subst (λ n. used n ≤ most) (sym is) fits

used-then : (o : Option (List ℕ)) (len now : ℕ) (used : ℕ → ℕ) → IsSomeAnd o (λ value. len ≡ length value)
    → now ≡ used len → IsSomeAnd o (λ value. now ≡ used (length value))
used-then None len now used is e = absurd is
used-then (Some value) len now used is e = e ∙ ap used is

value-then : (o : Option (List ℕ)) (len at : ℕ) (from : List ℕ) → IsSomeAnd o (λ value. len ≡ length value)
    → option_map (λ value. overwritten value at from) (option_map (with_length (max (at + length from) len)) o)
    ≡ option_map (with_bytes_at at from) o
value-then None len at from is = absurd is
value-then (Some value) len at from is = ap (λ n. Some (overwritten (with_length (max (at + length from) n) value) at from)) is

-- THE RECORD o, whose attribute i is a value of `len` bytes, has room for it with these bytes.
module _ (o : List ℕ) (i len at : ℕ) (from : List ℕ) (is : IsSomeAnd (value_of (attribute_in o i).body) (λ value. len ≡ length value)) where
  abbrev n : ℕ
  n = max (at + length from) len

  pub room-then : HasRoomToPut o i at (length from)
      → used_size o + len_with o i n ≤ 1024 + attribute_len o (attribute_place o i)
  room-then fits =
      fits-then (value_of (attribute_in o i).body) len (1024 + attribute_len o (attribute_place o i))
      (λ k. used_size o + len_with o i (max (at + length from) k)) is fits

  -- it was given that length, and then they were written
  module _ (m o' : List ℕ) (shape : HasShape o (length (attributes o))) (lt : i < length (attributes o)) (resizes : Resizes o m i n) where
    lt-then : i < length (attributes m)
    lt-then = omega (arith, lt, resizes.changes.as_many)

    pub holds-them : IsSomeAnd (value_of (attribute_in m i).body) (λ value. at + length from ≤ length value)
    holds-them =
        subst (λ v. IsSomeAnd v (λ value. at + length from ≤ length value)) (sym resizes.value)
        (holds-then (value_of (attribute_in o i).body) n (at + length from) (some-of (value_of (attribute_in o i).body) is) (omega arith))
      where
        some-of : (v : Option (List ℕ)) → IsSomeAnd v (λ value. len ≡ length value) → IsSome v
        some-of None none = absurd none
        some-of (Some value) some = refl

    pub puts-in : WritesValue m o' from i at → PutsIn o o' i at from
    puts-in writes =
        let a = resizes.changes in
        let b = writes.changes in
        record {
          changes = record {
            shape = b.shape;
            as_many = b.as_many ∙ a.as_many;
            header = b.header ∙ a.header;
            in_use = b.in_use ∙ a.in_use;
            place = b.place ∙ a.place;
            attributes = b.attributes ∙ ap (λ xs. set xs i (attribute_in o' i)) a.attributes
                ∙ set-set (attributes o) i (attribute_in m i) (attribute_in o' i);
            kind = b.kind ∙ a.kind;
            name = b.name ∙ a.name;
            id = b.id ∙ a.id;
            flags = b.flags ∙ a.flags;
          };
          used = used-then (value_of (attribute_in o i).body) len (used_size o' + attribute_len o (attribute_place o i))
              (λ k. used_size o + len_with o i (max (at + length from) k)) is
              (ap (λ u. u + attribute_len o (attribute_place o i))
              (attribute-used m o' from (length (attributes m)) i at a.shape lt-then holds-them writes) ∙ resizes.bytes.used);
          indexed = attribute-indexed m o' from (length (attributes m)) i at a.shape lt-then holds-them writes
              ∙ resized-indexed o m (length (attributes o)) i n shape lt resizes;
          value = writes.value ∙ ap (option_map (λ value. overwritten value at from)) resizes.value
              ∙ value-then (value_of (attribute_in o i).body) len at from is;
        }
