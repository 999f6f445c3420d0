-- WHAT A STREAM SHOWS THAT WAS WRITTEN, and where it gained clusters.
use Rattle.std.proofs.Common.{◌≡◌, ◌<◌, ◌≤◌, ◌+◌, ◌-◌, ◌/◌, ◌⊎◌, max, ℕ, List, length, refl, sym, ap, inl, inr, ◌∙◌, arith}
use Rattle.std.specs.Prelude.{replicate, slice_index}
use Rattle.std.proofs.lemmas.Bool.{cases_lt}
use Rattle.std.proofs.lemmas.List.{length-replicate}
use Rattle.ntfs_def.specs.declared.run_text.Spot.TheVariants.{At, Hole}
use Rattle.stream_edits.specs.Streams.{ClusterStream, Shows, byte_in, byte_of}
use Rattle.stream_edits.specs.Steps.{Gains, KeepsSpot, WritesRange, emptied_byte, written_byte}
use Rattle.stream_edits.proofs.ByteRanges.{in-range, out-of-range, zero-read}
use Rattle.stream_edits.proofs.ShownSteps.{all-shown, past-init, raised-byte, shows-emptied, shows-patched, shows-placed}

module _ (old new : ClusterStream) (at from to : ℕ) (bytes : List ℕ) (byte : ℕ → ℕ) (n : ℕ) (w : WritesRange old new at bytes from to)
    (past : (i : ℕ) → n ≤ i → byte i ≡ 0) (s : Shows old byte n) where
  start : w.placed.initialized ≡ old.initialized
  start = w.places.sizes.initialized ∙ w.empties.sizes.initialized

  -- what lies past the initialized size shows zeros
  zero-past : (i : ℕ) → old.initialized ≤ i → byte i ≡ 0
  zero-past i g = elim (cases_lt i n) as (λ _. byte i ≡ 0) [
    | inl l ↦ sym (s.bytes i l) ∙ past-init old.initialized i (byte_in old i) g
    | inr h ↦ past i h
  ]

  -- so the clusters that go change nothing
  emptied-same : (i : ℕ) → emptied_byte byte old.size w.first w.last i ≡ byte i
  emptied-same i = elim (cases_lt (i / old.size) w.first) as (λ _. emptied_byte byte old.size w.first w.last i ≡ byte i) [
    | inl l ↦ out-of-range w.first w.last (i / old.size) 0 (byte i) (inl l)
    | inr g ↦ elim (cases_lt (i / old.size) w.last) as (λ _. emptied_byte byte old.size w.first w.last i ≡ byte i) [
      | inl l ↦ in-range w.first w.last (i / old.size) 0 (byte i) g l ∙ sym (zero-past i (w.between i g l).0)
      | inr h ↦ out-of-range w.first w.last (i / old.size) 0 (byte i) (inr h)
    ]
  ]

  shown-placed : Shows w.placed byte n
  shown-placed =
      let e = shows-emptied old w.hollow w.first w.last byte n w.empties s in
      shows-placed w.hollow w.placed from to byte n w.places
      (record { len = e.len; bytes = λ i h. e.bytes i h ∙ emptied-same i })

  -- where the sizes rose, but for what is put afterwards
  raised-same : (i : ℕ) → (i < old.initialized) ⊎ (at + length bytes ≤ i) → byte_of w.raised i ≡ byte i
  raised-same i out =
      raised-byte w.placed w.raised w.raises i (zeros out) ∙ all-shown w.placed byte n w.raises.inside past shown-placed i
    where
      zeros : (i < old.initialized) ⊎ (at + length bytes ≤ i) → w.placed.initialized ≤ i → i < w.raised.initialized
          → byte_in w.placed i ≡ 0
      zeros (inl l) g h = absurd (omega (arith, start, l, g))
      zeros (inr behind) g h = w.zeros i (omega (arith, start, g)) behind h

  -- the bytes once the zeros are put
  abbrev two : ℕ → ℕ
  two i = written_byte (byte_of w.raised) old.initialized (replicate (at - old.initialized) 0) i

  shown : Shows new (written_byte two at bytes) (max n (at + length bytes))
  shown =
      let m : ℕ = max n (at + length bytes) in
      let r : Shows w.raised (byte_of w.raised) m = record {
        len = w.real ∙ ap (λ k. max k (at + length bytes)) s.len;
        bytes = λ i h. refl;
      } in
      shows-patched w.cleared new at bytes two m w.patches
      (shows-patched w.raised w.cleared old.initialized (replicate (at - old.initialized) 0) (byte_of w.raised) m w.clears r)

  two-same : (i : ℕ) → (i < at) ⊎ (at + length bytes ≤ i) → two i ≡ byte i
  two-same i out =
      let size = length-replicate {A = ℕ} (at - old.initialized) 0 in
      let high : ℕ = old.initialized + length (replicate (at - old.initialized) 0) in
      let zero : ℕ = slice_index (replicate (at - old.initialized) 0) (i - old.initialized) in
      elim (cases_lt i old.initialized) as (λ _. two i ≡ byte i) [
        | inl l ↦ out-of-range old.initialized high i zero (byte_of w.raised i) (inl l) ∙ raised-same i (inl l)
        | inr g ↦ elim (cases_lt i high) as (λ _. two i ≡ byte i) [
          | inl l ↦ in-range old.initialized high i zero (byte_of w.raised i) g l
              ∙ zero-read (at - old.initialized) (i - old.initialized) ∙ sym (zero-past i g)
          | inr h ↦ out-of-range old.initialized high i zero (byte_of w.raised i) (inr h)
              ∙ raised-same i (inr (behind out (omega (arith, size, h))))
        ]
      ]
    where
      behind : (i < at) ⊎ (at + length bytes ≤ i) → at ≤ i → at + length bytes ≤ i
      behind (inl l) g = absurd (omega (arith, l, g))
      behind (inr h) g = h

  -- A WRITE SHOWS WHAT THE COMMAND SAYS ..
  pub shows-written : Shows new (written_byte byte at bytes) (max n (at + length bytes))
  shows-written = record { len = shown.len; bytes = λ i h. shown.bytes i h ∙ same i }
    where
      same : (i : ℕ) → written_byte two at bytes i ≡ written_byte byte at bytes i
      same i =
          let end : ℕ = at + length bytes in
          let put : ℕ = slice_index bytes (i - at) in
          elim (cases_lt i at) as (λ _. written_byte two at bytes i ≡ written_byte byte at bytes i) [
            | inl l ↦ out-of-range at end i put (two i) (inl l) ∙ two-same i (inl l) ∙ sym (out-of-range at end i put (byte i) (inl l))
            | inr g ↦ elim (cases_lt i end) as (λ _. written_byte two at bytes i ≡ written_byte byte at bytes i) [
              | inl l ↦ in-range at end i put (two i) g l ∙ sym (in-range at end i put (byte i) g l)
              | inr h ↦ out-of-range at end i put (two i) (inr h) ∙ two-same i (inr h)
                  ∙ sym (out-of-range at end i put (byte i) (inr h))
            ]
          ]

-- .. gains clusters in its range alone ..
pub gains-written : (old new : ClusterStream) (at from to : ℕ) (bytes : List ℕ) → WritesRange old new at bytes from to
    → Gains old new from to
gains-written old new at from to bytes w vcn cluster e =
    let before : w.placed.spot vcn ≡ At cluster = sym (w.raises.spot vcn) ∙ sym (w.clears.spot vcn) ∙ sym (w.patches.spot vcn) ∙ e in
    elim (cases_lt vcn from) as (λ _. ((c : ℕ) × (old.spot vcn ≡ At c)) ⊎ ((from ≤ vcn) × (vcn < to))) [
      | inl l ↦ inl (cluster, was-owned (was-there before (w.places.outside vcn (inl l))))
      | inr g ↦ elim (cases_lt vcn to) as (λ _. ((c : ℕ) × (old.spot vcn ≡ At c)) ⊎ ((from ≤ vcn) × (vcn < to))) [
        | inl l ↦ inr (g, l)
        | inr behind ↦ inl (cluster, was-owned (was-there before (w.places.outside vcn (inr behind))))
      ]
    ]
  where
    was-there : w.placed.spot vcn ≡ At cluster → KeepsSpot w.hollow w.placed vcn → w.hollow.spot vcn ≡ At cluster
    was-there at (inl same) = sym same ∙ at
    was-there at (inr hollow) = let never : Hole ≡ At cluster = sym hollow.1 ∙ at in cc

    was-owned : w.hollow.spot vcn ≡ At cluster → old.spot vcn ≡ At cluster
    was-owned at = elim (cases_lt vcn w.first) as (λ _. old.spot vcn ≡ At cluster) [
      | inl l ↦ sym (w.empties.outside vcn (inl l)) ∙ at
      | inr g ↦ elim (cases_lt vcn w.last) as (λ _. old.spot vcn ≡ At cluster) [
        | inl l ↦ let never : Hole ≡ At cluster = sym (w.empties.inside vcn g l) ∙ at in cc
        | inr behind ↦ sym (w.empties.outside vcn (inr behind)) ∙ at
      ]
    ]

-- .. and what it put is below the initialized size.
pub initialized-written : (old new : ClusterStream) (at from to : ℕ) (bytes : List ℕ) → WritesRange old new at bytes from to
    → at + length bytes ≤ new.initialized
initialized-written old new at from to bytes w =
    let a = w.patches.sizes.initialized in
    let b = w.clears.sizes.initialized in
    let c = w.raises.initialized in
    let d = w.places.sizes.initialized in
    let e = w.empties.sizes.initialized in
    let size = length-replicate {A = ℕ} (at - old.initialized) 0 in
    elim (cases_lt 0 (length bytes)) as (λ _. at + length bytes ≤ new.initialized) [
      | inl some ↦
          let put : at + length bytes - 1 < w.cleared.initialized =
          w.patches.below (at + length bytes - 1) (omega (arith, some)) (omega (arith, some)) in
          omega (arith, put, a, some)
      | inr none ↦ elim (cases_lt old.initialized at) as (λ _. at + length bytes ≤ new.initialized) [
        | inl gap ↦
            let put : at - 1 < w.raised.initialized = w.clears.below (at - 1) (omega (arith, gap)) (omega (arith, gap, size)) in
            omega (arith, put, a, b, none, gap)
        | inr near ↦ omega (arith, near, none, a, b, c, d, e)
      ]
    ]
