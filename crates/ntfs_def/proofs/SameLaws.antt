-- A record whose update sequence array alone differs says the same.
use Rattle.std.proofs.Common.{◌≡◌, ℕ, suc, ◌+◌, ◌<◌, ◌≤◌, ◌==◌, ◌&&◌, ◌%◌, List, [], ◌∷◌, Option, length, get_or, ap, refl, ◌∙◌, arith}
use Rattle.std.specs.Prelude.{codes, nat_eq}
use Rattle.std.specs.List.{starts_with}
use Rattle.vol_bytes.specs.Field.{SameOutside, u16_at}
use Rattle.vol_bytes.proofs.FieldLaws.{u16_at-same, u32_at-same, u64_at-same}
use Rattle.ntfs_def.specs.Record.{Header, Reference, base_in, header_of, is_in_use, record_flags}
use Rattle.ntfs_def.specs.Attribute.{attribute_place, attributes}
use Rattle.ntfs_def.specs.Splice.{IsSpliced}
use Rattle.ntfs_def.specs.Shape.{HasShape}
use Rattle.ntfs_def.proofs.ShapeLaws.{header_failing-length}
use Rattle.ntfs_def.proofs.SpliceLaws.{HasShape-unmoved, attributes-unmoved}
use Rattle.ntfs_def.proofs.PlaceLaws.{attribute_place-bounded}

-- a list begins as another does whose first bytes it has
pub starts-same : (p a b : List ℕ) → length p ≤ length a → length p ≤ length b → ((k : ℕ) → k < length p → get_or b k 0 ≡ get_or a k 0)
    → starts_with nat_eq b p ≡ starts_with nat_eq a p
starts-same [] [] [] la lb same = refl
starts-same [] [] (y ∷ b) la lb same = refl
starts-same [] (x ∷ a) [] la lb same = refl
starts-same [] (x ∷ a) (y ∷ b) la lb same = refl
starts-same (c ∷ p) [] b la lb same = absurd (omega arith)
starts-same (c ∷ p) (x ∷ a) [] la lb same = absurd (omega arith)
starts-same (c ∷ p) (x ∷ a) (y ∷ b) la lb same =
    ap (λ z. nat_eq c z && starts_with nat_eq b p) (same 0 (omega arith))
    ∙ ap (λ t. nat_eq c x && t) (starts-same p a b (omega arith) (omega arith) (λ k lt. same (suc k) (omega arith)))

-- whether a block is in use, its first 24 bytes say
pub is_in_use-front : (a b : List ℕ) → 24 ≤ length a → 24 ≤ length b → ((k : ℕ) → k < 24 → get_or b k 0 ≡ get_or a k 0)
    → is_in_use b ≡ is_in_use a
is_in_use-front a b la lb same =
    ap (λ t. t && (record_flags b % 2 == 1)) (starts-same (codes "FILE") a b (omega arith) (omega arith) (λ k lt. same k (omega arith)))
    ∙ ap (λ f. starts_with nat_eq a (codes "FILE") && (f % 2 == 1)) (u16_at-same a b 0x16 (λ k f t. same k (omega arith)))

-- a header from its parts
abbrev header_from : ℕ → ℕ → ℕ → Option Reference → ℕ → ℕ → Header
header_from sequence links flags base next number =
    record { sequence = sequence; links = links; flags = flags; base = base; next_id = next; number = number }

pub headers_same : (a b : Header) → b.sequence ≡ a.sequence → b.links ≡ a.links → b.flags ≡ a.flags → b.base ≡ a.base
    → b.next_id ≡ a.next_id → b.number ≡ a.number → b ≡ a
headers_same a b sequence links flags base next number =
    ap (λ (k : ℕ). header_from k b.links b.flags b.base b.next_id b.number) sequence
    ∙ ap (λ (k : ℕ). header_from a.sequence k b.flags b.base b.next_id b.number) links
    ∙ ap (λ (k : ℕ). header_from a.sequence a.links k b.base b.next_id b.number) flags
    ∙ ap (λ (k : Option Reference). header_from a.sequence a.links a.flags k b.next_id b.number) base
    ∙ ap (λ (k : ℕ). header_from a.sequence a.links a.flags a.base k b.number) next
    ∙ ap (λ (k : ℕ). header_from a.sequence a.links a.flags a.base a.next_id k) number

module _ (a b : List ℕ) (count : ℕ) (shape : HasShape a count) (same : SameOutside a b 0x30 0x36) where
  all : length a ≡ 1024
  all = header_failing-length a shape.header

  -- no byte of an attribute changed
  spliced : IsSpliced a b (attribute_place a 0) 0 0
  spliced =
      let low = (attribute_place-bounded a count 0 shape (omega arith)).low in
      record {
        len = same.len;
        array = u16_at-same a b 0x04 (λ k from to. same.below k (omega arith));
        numbers = u16_at-same a b 0x06 (λ k from to. same.below k (omega arith));
        first = u16_at-same a b 0x14 (λ k from to. same.below k (omega arith));
        allocated = u32_at-same a b 0x1C (λ k from to. same.below k (omega arith));
        used = ap (λ n. n + 0) (u32_at-same a b 0x18 (λ k from to. same.below k (omega arith)));
        before = λ k from to. same.above k (omega (arith, low));
        behind = λ k j from to e. let is : j ≡ k = omega arith in
            ap (λ (q : ℕ). get_or b q 0) is ∙ same.above k (omega (arith, low));
      }

  pub HasShape-same : HasShape b count
  HasShape-same = HasShape-unmoved a b count shape spliced

  pub attributes-same : attributes b ≡ attributes a
  attributes-same = attributes-unmoved a b count shape spliced

  short : (at : ℕ) → at + 2 ≤ 0x30 → u16_at b at ≡ u16_at a at
  short at low = u16_at-same a b at (λ k f t. same.below k (omega arith))

  pub header_of-same : header_of b ≡ header_of a
  unfolding header_of
  header_of-same = headers_same _ _ (short 0x10 (omega arith)) (short 0x12 (omega arith)) (short 0x16 (omega arith))
      (ap base_in (u64_at-same a b 0x20 (λ k f t. same.below k (omega arith))))
      (short 0x28 (omega arith)) (u32_at-same a b 0x2C (λ k f t. same.below k (omega arith)))

  pub is_in_use-same : is_in_use b ≡ is_in_use a
  is_in_use-same = is_in_use-front a b (omega (arith, all)) (omega (arith, same.len, all)) (λ k lt. same.below k (omega arith))
