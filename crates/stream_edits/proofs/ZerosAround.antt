-- ZEROS PUT IN FRONT OF ZEROS AND BEHIND THEM, as around a hole, are zeros put over all of it.
use Rattle.std.proofs.Common.{◌≡◌, ◌<◌, ◌≤◌, ◌+◌, ◌-◌, ◌⊎◌, ℕ, length, sym, inl, inr, ◌∙◌, arith}
use Rattle.std.specs.Prelude.{replicate}
use Rattle.std.proofs.lemmas.Bool.{cases_lt}
use Rattle.std.proofs.lemmas.List.{length-replicate}
use Rattle.stream_edits.specs.Streams.{ClusterStream, byte_in}
use Rattle.stream_edits.specs.Steps.{Patches}
use Rattle.stream_edits.proofs.ByteRanges.{zero-read}

module _ (s t u : ClusterStream) (at before tail behind : ℕ) (p : Patches s t at (replicate before 0))
    (q : Patches t u tail (replicate behind 0)) (le : at + before ≤ tail) where
  long : (k : ℕ) → length {A = ℕ} (replicate k 0) ≡ k
  long k = length-replicate {A = ℕ} k 0

  pub zeros-around : ((i : ℕ) → at ≤ i → i < tail + behind → i < s.initialized)
      → ((i : ℕ) → at + before ≤ i → i < tail → byte_in s i ≡ 0) → Patches s u at (replicate (tail + behind - at) 0)
  zeros-around below between = record {
    sizes = record {
      size = q.sizes.size ∙ p.sizes.size;
      initialized = q.sizes.initialized ∙ p.sizes.initialized;
      real = q.sizes.real ∙ p.sizes.real;
    };
    spot = λ vcn. q.spot vcn ∙ p.spot vcn;
    below = λ i low high. below i low (omega (arith, high, long (tail + behind - at), le));
    inside = λ i low high.
        zero i low (omega (arith, high, long (tail + behind - at), le)) ∙ sym (zero-read (tail + behind - at) (i - at));
    outside = outside;
  }
    where
      zero : (i : ℕ) → at ≤ i → i < tail + behind → byte_in u i ≡ 0
      zero i low high = elim (cases_lt i tail) as (λ _. byte_in u i ≡ 0) [
        | inl l ↦ q.outside i (inl l) ∙ (elim (cases_lt i (at + before)) as (λ _. byte_in t i ≡ 0) [
          | inl front ↦ p.inside i low (omega (arith, front, long before)) ∙ zero-read before (i - at)
          | inr g ↦ p.outside i (inr (omega (arith, g, long before))) ∙ between i g l
        ])
        | inr g ↦ q.inside i g (omega (arith, high, long behind)) ∙ zero-read behind (i - tail)
      ]

      outside : (i : ℕ) → (i < at) ⊎ (at + length {A = ℕ} (replicate (tail + behind - at) 0) ≤ i) → byte_in u i ≡ byte_in s i
      outside i (inl l) = q.outside i (inl (omega (arith, l, le))) ∙ p.outside i (inl l)
      outside i (inr g) =
          let past : tail + behind ≤ i = omega (arith, g, long (tail + behind - at), le) in
          q.outside i (inr (omega (arith, past, long behind))) ∙ p.outside i (inr (omega (arith, past, le, long before)))
