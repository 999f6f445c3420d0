-- A TEXT THAT MEANS RUNS is as long as their written form at least, but for a byte for each length whose top bit is set.
use Rattle.std.proofs.Common.{◌≡◌, ◌<◌, ◌≤◌, ◌+◌, ◌-◌, ◌*◌, ◌^◌, ◌==◌, ℕ, zero, suc, true, false, cond, List, [], ◌∷◌}
use Rattle.std.proofs.Common.{length, drop, Option, Some, None, sym, ap, subst, inl, inr, ◌∙◌, arith}
use Rattle.std.specs.Prelude.{All, slice_index, nat_lt, ℤ, pos, negsuc, ◌+ℤ◌, ◌-ℤ◌}
use Rattle.std.specs.Option.{option_map}
use Rattle.std.proofs.lemmas.Bool.{cases_lt, le-ltb, lt-ltb, ne_eqb}
use Rattle.std.proofs.lemmas.Grind.{common_steps}
use Rattle.std.proofs.lemmas.Int.{ints}
use Rattle.std.proofs.lemmas.List.{get_or-drop, get_or_past, length-drop}
use Rattle.std.proofs.Math.Pow.{pow_mono}
use Rattle.byteorder.specs.Endian.{little_number, twos_complement}
use Rattle.byteorder.specs.Numbers.{little_from-lt}
use Rattle.byteorder.proofs.Bytes.{pow256}
use Rattle.ntfs_def.specs.declared.run_text.Run.{Run}
use Rattle.ntfs_def.specs.Runs.{MeansFrom, is_ended, length_width, offset_width, place_after}
use Rattle.ntfs_def.specs.Runs.{run_width}
use Rattle.ntfs_def.proofs.RunLaws.{BeginsWith-run, rule_broken-none}
use Rattle.data_runs.proofs.WrittenForm.{double}
use Rattle.run_texts.specs.Text.{fewest, high_lengths, number_bytes, place_bytes, text_bytes}
use Rattle.run_texts.proofs.Fewest.{fewest-is}
use Rattle.run_texts.proofs.TextBytes.{place-below}

-- bytes, and zeros past their end
abbrev pub AreBytes : List ℕ → Type 0
AreBytes text = (k : ℕ) → slice_index text k < 256

pub bytes-all : (text : List ℕ) → All (λ byte. byte < 256) text → AreBytes text
bytes-all text each k = elim (cases_lt k (length text)) as (λ _. slice_index text k < 256) [
  | inl within ↦ each k 0 within
  | inr past ↦ let none : slice_index text k ≡ 0 = get_or_past text k 0 past in omega (arith, none)
]

bytes-drop : (n : ℕ) (text : List ℕ) → AreBytes text → AreBytes (drop n text)
bytes-drop n text each k =
    let e : slice_index (drop n text) k ≡ slice_index text (n + k) = get_or-drop n text k 0 in omega (arith, e, each (n + k))

number-small : (size : ℕ) (text : List ℕ) → AreBytes text → little_number size text < 2 ^ (8 * size)
number-small size text each = subst (λ m. little_number size text < m) (pow256 size) (little_from-lt 0 size text each)

-- THE LENGTH OF A RUN, in `size` bytes
count-bytes : (size len : ℕ) → 0 < size → len < 2 ^ (8 * size) → len ≤ 2 ^ 62
    → fewest len ≤ size + cond (nat_lt len (2 ^ (8 * size - 1))) 0 1
count-bytes size len some small few = elim (cases_lt len (2 ^ (8 * size - 1))) as
    (λ _. fewest len ≤ size + cond (nat_lt len (2 ^ (8 * size - 1))) 0 1) [
      | inl l ↦
          let low : cond {A = ℕ} (nat_lt len (2 ^ (8 * size - 1))) 0 1 ≡ 0 =
          ap (λ b. cond {A = ℕ} b 0 1) (lt-ltb len (2 ^ (8 * size - 1)) l) in
          omega (arith, low, (fewest-is len (omega arith)).least size some l)
      | inr g ↦
          let high : cond {A = ℕ} (nat_lt len (2 ^ (8 * size - 1))) 0 1 ≡ 1 =
          ap (λ b. cond {A = ℕ} b 0 1) (le-ltb len (2 ^ (8 * size - 1)) g) in
          let up = pow_mono {i = 8 * size} {j = 8 * (size + 1) - 1} (omega arith) in
          let holds : len < 2 ^ (8 * (size + 1) - 1) = omega (arith, small, up) in
          omega (arith, high, (fewest-is len (omega arith)).least (size + 1) (omega arith) holds)
    ]

-- ITS PLACE, in `size` bytes with a sign
sign-bytes : (size u : ℕ) (z : ℤ) → 0 < size → size ≤ 8 → u < 2 ^ (8 * size) → twos_complement size u ≡ z → number_bytes z ≤ size
sign-bytes size u z some few small is = elim (cases_lt u (2 ^ (8 * size - 1))) as (λ _. number_bytes z ≤ size) [
  | inl l ↦
      let e : pos u ≡ z = ap (λ b. cond b (pos u) (pos u -ℤ pos (2 ^ (8 * size)))) (sym (lt-ltb u (2 ^ (8 * size - 1)) l)) ∙ is in
      up z e l
  | inr g ↦
      let e : pos u -ℤ pos (2 ^ (8 * size)) ≡ z =
      ap (λ b. cond b (pos u) (pos u -ℤ pos (2 ^ (8 * size)))) (sym (le-ltb u (2 ^ (8 * size - 1)) g)) ∙ is in
      down z e g
]
  where
    half : 2 ^ (8 * size - 1) ≤ 2 ^ 63
    half = pow_mono {i = 8 * size - 1} {j = 63} (omega arith)

    up : (z : ℤ) → pos u ≡ z → u < 2 ^ (8 * size - 1) → number_bytes z ≤ size
    up (pos n) e l =
        let same : u ≡ n = omega (arith, ints) in
        (fewest-is n (omega (arith, same, l, half))).least size some (omega (arith, same, l))
    up (negsuc n) e l = absurd (omega (arith, ints))

    down : (z : ℤ) → pos u -ℤ pos (2 ^ (8 * size)) ≡ z → 2 ^ (8 * size - 1) ≤ u → number_bytes z ≤ size
    down (pos n) e g = absurd (omega (arith, ints, small))
    down (negsuc n) e g =
        let twice = double size some in
        let low : n < 2 ^ (8 * size - 1) = omega (arith, ints, twice, g) in
        (fewest-is n (omega (arith, low, half))).least size some low

way-bytes : (size u last : ℕ) (lcn : Option ℕ) → size ≤ 8 → u < 2 ^ (8 * size)
    → option_map pos lcn ≡ cond (size == 0) None (Some (pos last +ℤ twos_complement size u)) → place_bytes last lcn ≤ size
way-bytes size u last None few small e = omega arith
way-bytes zero u last (Some place) few small e = let never : Some (pos place) ≡ None = e in cc
way-bytes (suc more) u last (Some place) few small e =
    let way : ℤ = pos last +ℤ twos_complement (suc more) u in
    let some : Some (pos place) ≡ Some way =
    e ∙ ap (λ b. cond b None (Some way)) (ne_eqb (suc more) 0 (λ z. omega (arith, z))) in
    let there : pos place ≡ pos last +ℤ twos_complement (suc more) u = cc in
    sign-bytes (suc more) u (pos place -ℤ pos last) (omega arith) few small (omega (arith, ints, there))

ended-some : (text : List ℕ) → is_ended text ≡ true → 1 ≤ length text
ended-some text e = grind (arith, common_steps)

-- ALL RUNS
pub means-length : (last total : ℕ) (runs : List Run) (text : List ℕ) → AreBytes text → last < 2 ^ 62 → MeansFrom text last total runs
    → text_bytes last runs ≤ length text + high_lengths text runs
means-length last total [] text each low ended = omega (arith, ended-some text ended)
means-length last total (run ∷ runs) text each low (first, rest) =
    let keeps = rule_broken-none text last total first.good in
    let is = BeginsWith-run text last total run first in
    let narrow = keeps.length_narrow in
    let short = keeps.offset_narrow in
    let whole = keeps.whole in
    let few : run.len ≤ 2 ^ 62 = omega (arith, is.1) in
    let counted = number-small (length_width text) (drop 1 text) (bytes-drop 1 text each) in
    let small : run.len < 2 ^ (8 * length_width text) = omega (arith, first.len, counted) in
    let some = some-width (length_width text) run.len is.0 small in
    let a = count-bytes (length_width text) run.len some small few in
    let b = way-bytes (offset_width text) (little_number (offset_width text) (drop (1 + length_width text) text)) last run.lcn short
    (number-small (offset_width text) (drop (1 + length_width text) text) (bytes-drop (1 + length_width text) text each)) first.place in
    let more = means-length (place_after last run) (total + run.len) runs (drop (run_width text) text)
    (bytes-drop (run_width text) text each) (place-below run.len run.lcn last is.0 is.2 low) rest in
    let left = length-drop (run_width text) text in
    omega (arith, whole, a, b, more, left)
  where
    some-width : (width len : ℕ) → 0 < len → len < 2 ^ (8 * width) → 0 < width
    some-width zero len a b = absurd (omega arith)
    some-width (suc width) len a b = omega arith

pub high-few : (text : List ℕ) (runs : List Run) → high_lengths text runs ≤ length runs
high-few text [] = omega arith
high-few text (run ∷ runs) = elim (nat_lt run.len (2 ^ (8 * length_width text - 1))) as
    (λ b. cond b 0 1 + high_lengths (drop (run_width text) text) runs ≤ length (run ∷ runs)) [
      | true ↦ omega (arith, high-few (drop (run_width text) text) runs)
      | false ↦ omega (arith, high-few (drop (run_width text) text) runs)
    ]
