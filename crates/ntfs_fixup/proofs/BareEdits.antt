-- Bare blocks: how what is read, edited and written again is joined by equations.
use Rattle.std.proofs.Common.{◌∙◌, ◌≤◌, ◌<◌, ◌≡◌, List, arith, get_or, inl, inr, length, refl, sym, ℕ}
use Rattle.std.proofs.lemmas.Bool.{cases_lt, le-leb, lt-ltb}
use Rattle.std.proofs.lemmas.Grind.{same_number_lists}
use Rattle.std.proofs.lemmas.List.{get_or_past}
use Rattle.vol_bytes.specs.Field.{SameOutside}
use Rattle.vol_bytes.proofs.FieldLaws.{u16_at-same}
use Rattle.ntfs_def.specs.Fixup.{HasArray, Seals, array_count, array_end, array_place, bare_of, opened_of}
use Rattle.ntfs_def.proofs.BareLaws.{bare_of-before, bare_of-behind, get_or-bare_of, length-bare_of}
use Rattle.ntfs_def.proofs.FixupLaws.{HasArray-front}

-- in the array a bare block is zero
pub bare_of-in : (block : List ℕ) (k : ℕ) → array_place block ≤ k → k < array_end block → get_or (bare_of block) k 0 ≡ 0
bare_of-in block k from to = elim (cases_lt k (length block)) [
  | inl inside ↦ get_or-bare_of block k inside ∙ rw (le-leb (array_place block) k from, lt-ltb k (array_end block) to) refl
  | inr past ↦ get_or_past (bare_of block) k 0 (omega (arith, length-bare_of block))
]

-- Two blocks that differ in the array alone are one bare block.
pub bare_of-same : (a b : List ℕ) → 8 ≤ array_place a → SameOutside a b (array_place a) (array_end a)
    → bare_of b ≡ bare_of a
bare_of-same a b low same = same_number_lists _ _ (length-bare_of b ∙ same.len ∙ sym (length-bare_of a)) (λ k _. byte k)
  where
    place : array_place b ≡ array_place a
    place = u16_at-same a b 0x04 (λ k _ to. same.below k (omega arith))

    count : array_count b ≡ array_count a
    count = u16_at-same a b 0x06 (λ k _ to. same.below k (omega arith))

    byte : (k : ℕ) → get_or (bare_of b) k 0 ≡ get_or (bare_of a) k 0
    byte k = elim (cases_lt k (array_place a)) [
      | inl before ↦ bare_of-before b k (omega (arith, place)) ∙ same.below k before ∙ sym (bare_of-before a k before)
      | inr from ↦ elim (cases_lt k (array_end a)) [
        | inl to ↦ bare_of-in b k (omega (arith, place)) (omega (arith, place, count)) ∙ sym (bare_of-in a k from to)
        | inr behind ↦ bare_of-behind b k (omega (arith, place, count)) ∙ same.above k behind ∙ sym (bare_of-behind a k behind)
      ]
    ]

-- A block that was sealed is read as the bare block that it was.
pub bare_of-sealed : (block stored : List ℕ) → HasArray block → Seals block stored
    → bare_of (opened_of stored) ≡ bare_of block
bare_of-sealed block stored array seals = bare_of-same block (opened_of stored) array.low seals.same

-- An edit behind the first eight bytes leaves the array where it was.
pub array_place-edit : (a b : List ℕ) (from to : ℕ) → 8 ≤ from → SameOutside a b from to → array_place b ≡ array_place a
array_place-edit a b from to low edit = u16_at-same a b 0x04 (λ k _ lt. edit.below k (omega arith))

pub array_end-edit : (a b : List ℕ) (from to : ℕ) → 8 ≤ from → SameOutside a b from to → array_end b ≡ array_end a
array_end-edit a b from to low edit =
    let place = array_place-edit a b from to low edit in
    let count : array_count b ≡ array_count a = u16_at-same a b 0x06 (λ k _ lt. edit.below k (omega arith)) in
    omega (arith, place, count)

pub HasArray-edit : (a b : List ℕ) (from to : ℕ) → 8 ≤ from → HasArray a → SameOutside a b from to → HasArray b
HasArray-edit a b from to low array edit = HasArray-front a b array edit.len (λ k lt. edit.below k (omega arith))

-- Such an edit is the same edit of the bare block.
pub bare_of-edit : (a b : List ℕ) (from to : ℕ) → 8 ≤ from → SameOutside a b from to
    → SameOutside (bare_of a) (bare_of b) from to
bare_of-edit a b from to low edit = record {
  len = length-bare_of b ∙ edit.len ∙ sym (length-bare_of a);
  below = λ k lt. byte k (edit.below k lt);
  above = λ k le. byte k (edit.above k le);
}
  where
    place : array_place b ≡ array_place a
    place = array_place-edit a b from to low edit

    end : array_end b ≡ array_end a
    end = array_end-edit a b from to low edit

    byte : (k : ℕ) → get_or b k 0 ≡ get_or a k 0 → get_or (bare_of b) k 0 ≡ get_or (bare_of a) k 0
    byte k same = elim (cases_lt k (array_place a)) [
      | inl before ↦ bare_of-before b k (omega (arith, place)) ∙ same ∙ sym (bare_of-before a k before)
      | inr from ↦ elim (cases_lt k (array_end a)) [
        | inl to ↦ bare_of-in b k (omega (arith, place)) (omega (arith, end)) ∙ sym (bare_of-in a k from to)
        | inr behind ↦ bare_of-behind b k (omega (arith, end)) ∙ same ∙ sym (bare_of-behind a k behind)
      ]
    ]
