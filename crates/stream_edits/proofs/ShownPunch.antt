-- WHAT A STREAM SHOWS THAT WAS PUNCHED: zeros in the range.
use Rattle.std.proofs.Common.{◌≡◌, ◌<◌, ◌≤◌, ◌+◌, ◌-◌, ◌/◌, ◌⊎◌, ℕ, Bool, cond, length, sym, ap, inl, inr, ◌∙◌, arith}
use Rattle.std.specs.Prelude.{nat_le, nat_lt, replicate, slice_index, ◌&&◌}
use Rattle.std.proofs.lemmas.Bool.{cases_lt}
use Rattle.std.proofs.lemmas.List.{length-replicate}
use Rattle.stream_edits.specs.Streams.{ClusterStream, Shows, byte_in, byte_of}
use Rattle.stream_edits.specs.Steps.{PunchesRange, emptied_byte, punched_byte, written_byte}
use Rattle.stream_edits.proofs.ByteRanges.{in-range, out-of-range, zero-read}
use Rattle.stream_edits.proofs.ShownSteps.{past-init, shows-emptied, shows-patched, zero-either}

module _ (old new : ClusterStream) (from to : ℕ) (byte : ℕ → ℕ) (n : ℕ) (p : PunchesRange old new from to) (s : Shows old byte n) where
  -- the bytes after each of the three steps
  abbrev one : ℕ → ℕ
  one i = written_byte byte from (replicate p.before 0) i

  abbrev two : ℕ → ℕ
  two i = emptied_byte one old.size p.first p.last i

  abbrev three : ℕ → ℕ
  three i = written_byte two p.tail (replicate p.behind 0) i

  shown : Shows new three n
  shown =
      let a = shows-patched old p.front from (replicate p.before 0) byte n p.zeros s in
      let b = shows-emptied p.front p.hollow p.first p.last one n p.empties a in
      let c : Shows p.hollow two n = record {
        len = b.len;
        bytes = λ i h. b.bytes i h ∙ ap (λ z. emptied_byte one z p.first p.last i) p.zeros.sizes.size;
      } in
      shows-patched p.hollow new p.tail (replicate p.behind 0) two n p.zeros_behind c

  long : (k : ℕ) → length {A = ℕ} (replicate k 0) ≡ k
  long k = length-replicate {A = ℕ} k 0

  -- a byte that is zero stays so
  then-two : (i : ℕ) → one i ≡ 0 → two i ≡ 0
  then-two i e =
      let t : Bool = nat_le p.first (i / old.size) && nat_lt (i / old.size) p.last in
      ap (λ b. cond t 0 b) e ∙ zero-either t

  then-three : (i : ℕ) → two i ≡ 0 → three i ≡ 0
  then-three i e =
      let t : Bool = nat_le p.tail i && nat_lt i (p.tail + length (replicate p.behind 0)) in
      ap (λ b. cond t (slice_index (replicate p.behind 0) (i - p.tail)) b) e
      ∙ ap (λ b. cond t b 0) (zero-read p.behind (i - p.tail)) ∙ zero-either t

  zero : (i : ℕ) → from ≤ i
      → (i < from + p.before) ⊎ ((p.first ≤ i / old.size) × (i / old.size < p.last)) ⊎ ((p.tail ≤ i) × (i < p.tail + p.behind))
      → three i ≡ 0
  zero i low (inl l) =
      let size = long p.before in
      then-three i (then-two i
      (in-range from (from + length (replicate p.before 0)) i (slice_index (replicate p.before 0) (i - from)) (byte i) low
      (omega (arith, size, l))
      ∙ zero-read p.before (i - from)))
  zero i low (inr (inl c)) = then-three i (in-range p.first p.last (i / old.size) 0 (one i) c.0 c.1)
  zero i low (inr (inr c)) =
      let size = long p.behind in
      let a = c.0 in
      let b = c.1 in
      in-range p.tail (p.tail + length (replicate p.behind 0)) i (slice_index (replicate p.behind 0) (i - p.tail)) (two i) a
      (omega (arith, size, b))
      ∙ zero-read p.behind (i - p.tail)

  -- a byte outside of the range
  other : (i : ℕ) → i < n → (i < from) ⊎ (to ≤ i) → three i ≡ byte i
  other i h out =
      let size = long p.before in
      let size_behind = long p.behind in
      let front = p.in_front in
      let low = p.at_tail.0 in
      let high = p.at_tail.1 in
      out-of-range p.tail (p.tail + length (replicate p.behind 0)) i (slice_index (replicate p.behind 0) (i - p.tail)) (two i)
      (beside out (p.tail) (p.tail + length (replicate p.behind 0)) low (omega (arith, size_behind, high)))
      ∙ out-of-range p.first p.last (i / old.size) 0 (one i) (apart (cases_lt (i / old.size) p.first) (cases_lt (i / old.size) p.last))
      ∙ out-of-range from (from + length (replicate p.before 0)) i (slice_index (replicate p.before 0) (i - from)) (byte i)
      (beside out from (from + length (replicate p.before 0)) (omega arith) (omega (arith, size, front)))
    where
      beside : (i < from) ⊎ (to ≤ i) → (a b : ℕ) → from ≤ a → b ≤ to → (i < a) ⊎ (b ≤ i)
      beside (inl l) a b low high = inl (omega arith)
      beside (inr g) a b low high = inr (omega arith)

      never : (i < from) ⊎ (to ≤ i) → (from ≤ i) × (i < to) → ⊥
      never (inl l) is = let low = is.0 in omega arith
      never (inr g) is = let high = is.1 in omega arith

      apart : (i / old.size < p.first) ⊎ (p.first ≤ i / old.size) → (i / old.size < p.last) ⊎ (p.last ≤ i / old.size)
          → (i / old.size < p.first) ⊎ (p.last ≤ i / old.size)
      apart (inl l) c = inl l
      apart (inr g) (inl l) = absurd (never out (p.whole i (omega (arith, h, s.len)) g l))
      apart (inr g) (inr behind) = inr behind

  same-initialized : new.initialized ≡ old.initialized
  same-initialized = p.zeros_behind.sizes.initialized ∙ p.empties.sizes.initialized ∙ p.zeros.sizes.initialized

  pub shows-punched : Shows new (punched_byte byte from to) n
  shows-punched = record { len = shown.len; bytes = by }
    where
      within : (i : ℕ) → i < n → from ≤ i → i < to → (i < old.initialized) ⊎ (old.initialized ≤ i) → byte_of new i ≡ 0
      within i h low high (inl small) = shown.bytes i h ∙ zero i low (p.covers i low high small)
      within i h low high (inr past) = past-init new.initialized i (byte_in new i) (omega (arith, same-initialized, past))

      by : (i : ℕ) → i < n → byte_of new i ≡ punched_byte byte from to i
      by i h = elim (cases_lt i from) as (λ _. byte_of new i ≡ punched_byte byte from to i) [
        | inl l ↦ shown.bytes i h ∙ other i h (inl l) ∙ sym (out-of-range from to i 0 (byte i) (inl l))
        | inr g ↦ elim (cases_lt i to) as (λ _. byte_of new i ≡ punched_byte byte from to i) [
          | inl l ↦ within i h g l (cases_lt i old.initialized) ∙ sym (in-range from to i 0 (byte i) g l)
          | inr behind ↦ shown.bytes i h ∙ other i h (inr behind) ∙ sym (out-of-range from to i 0 (byte i) (inr behind))
        ]
      ]
