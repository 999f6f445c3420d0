-- NAMES OF TWO BYTES A UNIT, each below 256, are told apart by their units.
use Rattle.std.proofs.Common.{◌≡◌, ◌+◌, ◌*◌, ◌/◌, ◌%◌, ◌^◌, ◌<◌, ℕ, List, length, filter, get_or, sym, ap, subst, inl, inr, ◌∙◌, arith}
use Rattle.std.specs.List.{Contains}
use Rattle.std.specs.Prelude.{slice_index}
use Rattle.std.proofs.lemmas.Bool.{cases_lt}
use Rattle.std.proofs.lemmas.Grind.{same_number_lists}
use Rattle.std.proofs.lemmas.List.FromFn.{get_or-map-range_with_len, length-map-range_with_len}
use Rattle.vol_bytes.specs.Field.{u16_at}
use Rattle.ntfs_def.specs.Units.{units_at, units_in}
use Rattle.list_laws.proofs.MemberLaws.{Contains-from_filter, Contains-from_map}
use Rattle.volume_def.specs.Files.{Part, parts, records_of}
use Rattle.volume_def.specs.Values.{is_first}
use Rattle.volume_def.specs.View.{VolumeView}
use Rattle.edit_def.specs.Kept.{AreTellable, Told, told_by, told_of}

-- two bytes are told by their unit
unit-exact : (a b c d : ℕ) → a < 256 → b < 256 → c < 256 → d < 256 → a + 2 ^ 8 * b ≡ c + 2 ^ 8 * d → (a ≡ c) × (b ≡ d)
unit-exact a b c d la lb lc ld e = (omega (arith, la, lb, lc, ld, e), omega (arith, la, lb, lc, ld, e))

abbrev unit_at : List ℕ → ℕ → ℕ
unit_at name k = u16_at name (0 + 2 * k)

pub units-exact : (a b : List ℕ) → length a % 2 ≡ 0 → length b % 2 ≡ 0 → ((k : ℕ) → slice_index a k < 256)
    → ((k : ℕ) → slice_index b k < 256) → units_in a ≡ units_in b → a ≡ b
unfolding units_at
units-exact a b even other small less same = same_number_lists a b long (λ k lt. at k lt)
  where
    long : length a ≡ length b
    long =
        let m = length-map-range_with_len (unit_at a) 0 (length a / 2) in
        let n = length-map-range_with_len (unit_at b) 0 (length b / 2) in
        let count : length (units_in a) ≡ length (units_in b) = ap length same in
        omega (arith, m, n, count, even, other)

    unit : (j : ℕ) → j < length a / 2 → unit_at a j ≡ unit_at b j
    unit j lt =
        let start : 0 + j ≡ j = omega arith in
        sym (get_or-map-range_with_len (unit_at a) 0 (length a / 2) j j 0 lt start)
        ∙ ap (λ xs. get_or xs j 0) same
        ∙ get_or-map-range_with_len (unit_at b) 0 (length b / 2) j j 0 (omega (arith, lt, long)) start

    at : (k : ℕ) → k < length a → get_or a k 0 ≡ get_or b k 0
    at k lt =
        let j = k / 2 in
        let both = unit-exact (slice_index a (0 + 2 * j)) (slice_index a (0 + 2 * j + 1)) (slice_index b (0 + 2 * j))
        (slice_index b (0 + 2 * j + 1)) (small (0 + 2 * j)) (small (0 + 2 * j + 1)) (less (0 + 2 * j)) (less (0 + 2 * j + 1))
        (unit j (omega (arith, lt, even))) in
        elim (cases_lt (k % 2) 1) [
          | inl low ↦
              let place : 0 + 2 * j ≡ k = omega (arith, low) in
              ap (λ i. get_or a i 0) (sym place) ∙ both.0 ∙ ap (λ i. get_or b i 0) place
          | inr high ↦
              let place : 0 + 2 * j + 1 ≡ k = omega (arith, high) in
              ap (λ i. get_or a i 0) (sym place) ∙ both.1 ∙ ap (λ i. get_or b i 0) place
        ]

pub tellable : (view : VolumeView) (f : ℕ)
    → ((part : Part) → Contains (parts (records_of view) f) part
    → (length part.name % 2 ≡ 0) × ((k : ℕ) → slice_index part.name k < 256))
    → AreTellable (told_of view f)
tellable view f names a b ca cb same =
    let x = from_part a ca in
    let y = from_part b cb in
    units-exact a.name b.name x.0 y.0 x.1 y.1 same
  where
    from_part : (t : Told) → Contains (told_of view f) t → (length t.name % 2 ≡ 0) × ((k : ℕ) → slice_index t.name k < 256)
    from_part t c =
        let of_part = Contains-from_map told_by (filter is_first (parts (records_of view) f)) t c in
        let its = Contains-from_filter is_first (parts (records_of view) f) of_part.0 of_part.1 in
        let name : of_part.0.name ≡ t.name = ap (λ (u : Told). u.name) of_part.2 in
        let told = names of_part.0 its.0 in
        (ap (λ (n : List ℕ). length n % 2) (sym name) ∙ told.0, λ k. subst (λ (n : List ℕ). slice_index n k < 256) name (told.1 k))
