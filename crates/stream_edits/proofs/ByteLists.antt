-- The bytes that a stream shows, as the lists that the commands make of them.
use Rattle.std.proofs.Common.{◌≡◌, ◌<◌, ◌≤◌, ◌+◌, ◌-◌, max, min, ℕ, List, ◌++◌, map, length, take, drop, refl, sym, ap, inl, inr}
use Rattle.std.proofs.Common.{◌∙◌, arith, append_assoc, length-append, length-drop}
use Rattle.std.specs.Prelude.{replicate, slice_index}
use Rattle.std.specs.List.{range_with_len}
use Rattle.std.proofs.lemmas.Bool.{cases_lt}
use Rattle.std.proofs.lemmas.List.{get_or-append_right, get_or-drop, get_or-replicate, get_or-take, get_or_append_left, get_or_past}
use Rattle.std.proofs.lemmas.List.{length-replicate, length-take}
use Rattle.list_laws.proofs.RangeLaws.{bytes-list}
use Rattle.tree_model.specs.Streams.{punched, resized, written}
use Rattle.stream_edits.specs.Steps.{punched_byte, written_byte}
use Rattle.stream_edits.proofs.ByteRanges.{in-range, out-of-range}

-- a list by its bytes
by-bytes : (f : ℕ → ℕ) (xs : List ℕ) (n : ℕ) → length xs ≡ n → ((i : ℕ) → i < n → f i ≡ slice_index xs i)
    → map f (range_with_len 0 n) ≡ xs
by-bytes f xs n len same =
    sym (bytes-list xs f 0 n len (λ i h. let start : i ≡ 0 + i = omega arith in sym (same i h) ∙ ap f start))

-- the old bytes up to a place, and zeros where there are none
front : ℕ → List ℕ → List ℕ
front at old = take at old ++ replicate (at - length old) 0

front-length : (at : ℕ) (old : List ℕ) → length (front at old) ≡ at
unfolding front
front-length at old =
    omega (
      arith,
      length-append (take at old) (replicate (at - length old) 0),
      length-take at old,
      length-replicate {A = ℕ}
          (at - length old) 0,
    )

front-byte : (at : ℕ) (old : List ℕ) (i : ℕ) → i < at → slice_index (front at old) i ≡ slice_index old i
unfolding front
front-byte at old i h = elim (cases_lt i (length old)) as (λ _. slice_index (front at old) i ≡ slice_index old i) [
  | inl l ↦ get_or_append_left (take at old) (replicate (at - length old) 0) 0 i (omega (arith, length-take at old))
      ∙ get_or-take at old i 0 h
  | inr g ↦ get_or-append_right (take at old) (replicate (at - length old) 0) (length old) i 0 (omega (arith, length-take at old)) g
      ∙ get_or-replicate (at - length old) (i - length old) 0 0 (omega arith) ∙ sym (get_or_past old i 0 g)
]

-- A list of three parts, by its bytes: in the first, in the second, and behind them.
abbrev joined : List ℕ → List ℕ → List ℕ → List ℕ
joined a b c = a ++ (b ++ c)

joined-length : (a b c : List ℕ) → length (joined a b c) ≡ length a + length b + length c
joined-length a b c = omega (arith, length-append a (b ++ c), length-append b c)

joined-first : (a b c : List ℕ) (i : ℕ) → i < length a → slice_index (joined a b c) i ≡ slice_index a i
joined-first a b c i h = get_or_append_left a (b ++ c) 0 i h

joined-second : (a b c : List ℕ) (n i : ℕ) → length a ≡ n → n ≤ i → i < n + length b → slice_index (joined a b c) i ≡ slice_index b (i - n)
joined-second a b c n i e low high =
    get_or-append_right a (b ++ c) n i 0 e low ∙ get_or_append_left b c 0 (i - n) (omega arith)

joined-third : (a b c : List ℕ) (n m i : ℕ) → length a ≡ n → length b ≡ m → n + m ≤ i → slice_index (joined a b c) i
    ≡ slice_index c (i - n - m)
joined-third a b c n m i e f low =
    get_or-append_right a (b ++ c) n i 0 e (omega arith) ∙ get_or-append_right b c m (i - n) 0 f (omega arith)

-- WHAT `write` MAKES
module _ (old bytes : List ℕ) (at : ℕ) where
  rest : List ℕ
  rest = drop (at + length bytes) old

  abbrev makes_written : ℕ → ℕ
  makes_written i = written_byte (slice_index old) at bytes i

  written-parts : written at bytes old ≡ joined (front at old) bytes rest
  unfolding front rest
  written-parts = append_assoc (take at old ++ replicate (at - length old) 0) bytes (drop (at + length bytes) old)

  written-length : length (written at bytes old) ≡ max (length old) (at + length bytes)
  unfolding rest
  written-length =
      ap length written-parts
      ∙ omega (arith, joined-length (front at old) bytes rest, front-length at old, length-drop (at + length bytes) old)

  written-at : (i : ℕ) → i < max (length old) (at + length bytes) → makes_written i ≡ slice_index (written at bytes old) i
  unfolding rest
  written-at i h = elim (cases_lt i at) as (λ _. makes_written i ≡ slice_index (written at bytes old) i) [
    | inl l ↦ out-of-range at (at + length bytes) i (slice_index bytes (i - at)) (slice_index old i) (inl l)
        ∙ sym (ap (λ xs. slice_index xs i) written-parts
        ∙ joined-first (front at old) bytes rest i (omega (arith, front-length at old)) ∙ front-byte at old i l)
    | inr g ↦ elim (cases_lt i (at + length bytes)) as (λ _. makes_written i ≡ slice_index (written at bytes old) i) [
      | inl l ↦ in-range at (at + length bytes) i (slice_index bytes (i - at)) (slice_index old i) g l
          ∙ sym (ap (λ xs. slice_index xs i) written-parts ∙ joined-second (front at old) bytes rest at i (front-length at old) g l)
      | inr past ↦
          let place : at + length bytes + (i - at - length bytes) ≡ i = omega arith in
          out-of-range at (at + length bytes) i (slice_index bytes (i - at)) (slice_index old i) (inr past)
          ∙ sym (ap (λ xs. slice_index xs i) written-parts
          ∙ joined-third (front at old) bytes rest at (length bytes) i (front-length at old) refl past
          ∙ get_or-drop (at + length bytes) old (i - at - length bytes) 0 ∙ ap (slice_index old) place)
    ]
  ]

  pub written-list : map makes_written (range_with_len 0 (max (length old) (at + length bytes))) ≡ written at bytes old
  written-list = by-bytes makes_written (written at bytes old) (max (length old) (at + length bytes)) written-length written-at

-- WHAT `truncate` MAKES: bytes past the old end are zero
pub resized-list : (old : List ℕ) (size : ℕ) → map (slice_index old) (range_with_len 0 size) ≡ resized size old
unfolding front
resized-list old size = by-bytes (slice_index old) (resized size old) size (front-length size old) (λ i h. sym (front-byte size old i h))

-- WHAT `punch` MAKES
module _ (old : List ℕ) (from len : ℕ) where
  abbrev makes_punched : ℕ → ℕ
  makes_punched i = punched_byte (slice_index old) from (from + len) i

  gap : ℕ
  gap = length (take len (drop from old))

  wide : gap ≡ min len (length old - from)
  unfolding gap
  wide = omega (arith, length-take len (drop from old), length-drop from old)

  zeros : length {A = ℕ} (replicate gap 0) ≡ gap
  zeros = length-replicate {A = ℕ} gap 0

  punched-parts : punched from len old ≡ joined (take from old) (replicate gap 0) (drop (from + len) old)
  unfolding gap
  punched-parts = append_assoc (take from old) (replicate (length (take len (drop from old))) 0) (drop (from + len) old)

  punched-length : length (punched from len old) ≡ length old
  punched-length =
      ap length punched-parts
      ∙ omega (
        arith,
        joined-length (take from old) (replicate gap 0) (drop (from + len) old),
        length-take from old,
        zeros,
        wide,
        length-drop (from + len) old,
      )

  punched-at : (i : ℕ) → i < length old → makes_punched i ≡ slice_index (punched from len old) i
  punched-at i h = elim (cases_lt i from) as (λ _. makes_punched i ≡ slice_index (punched from len old) i) [
    | inl l ↦ out-of-range from (from + len) i 0 (slice_index old i) (inl l)
        ∙ sym (ap (λ xs. slice_index xs i) punched-parts
        ∙ joined-first (take from old) (replicate gap 0) (drop (from + len) old) i (omega (arith, length-take from old))
        ∙ get_or-take from old i 0 l)
    | inr g ↦
        let first : length (take from old) ≡ from = omega (arith, length-take from old) in
        elim (cases_lt i (from + len)) as (λ _. makes_punched i ≡ slice_index (punched from len old) i) [
          | inl l ↦ in-range from (from + len) i 0 (slice_index old i) g l
              ∙ sym (ap (λ xs. slice_index xs i) punched-parts
              ∙ joined-second (take from old) (replicate gap 0) (drop (from + len) old) from i first g (omega (arith, zeros, wide))
              ∙ get_or-replicate gap (i - from) 0 0 (omega (arith, wide)))
          | inr past ↦
              let place : from + len + (i - from - gap) ≡ i = omega (arith, wide) in
              out-of-range from (from + len) i 0 (slice_index old i) (inr past)
              ∙ sym (ap (λ xs. slice_index xs i) punched-parts
              ∙ joined-third (take from old) (replicate gap 0) (drop (from + len) old) from gap i first zeros (omega (arith, wide))
              ∙ get_or-drop (from + len) old (i - from - gap) 0 ∙ ap (slice_index old) place)
        ]
  ]

  pub punched-list : map makes_punched (range_with_len 0 (length old)) ≡ punched from len old
  punched-list = by-bytes makes_punched (punched from len old) (length old) punched-length punched-at
