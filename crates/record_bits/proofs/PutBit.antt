-- ONE BIT SET OR CLEARED in a sector of a stream, which was staged.
use Rattle.std.proofs.Common.{◌≡◌, ◌≢◌, ◌+◌, ◌-◌, ◌*◌, ◌/◌, ◌%◌, ◌<◌, ◌≤◌, ℕ, List, [], ◌∷◌, length, inl, inr, refl, sym, ap, ◌∙◌, arith}
use Rattle.std.specs.Int.{bit_at}
use Rattle.std.specs.Prelude.{◌⊎◌, slice_index}
use Rattle.list_laws.specs.Bits.{bit_in}
use Rattle.list_laws.proofs.BitLaws.{bit_in-place}
use Rattle.ntfs_def.specs.declared.run_text.Spot.{Spot}
use Rattle.ntfs_def.specs.declared.run_text.Spot.TheVariants.{At}
use Rattle.volume_def.specs.Table.{cluster_bytes}
use Rattle.volume_def.specs.Values.{byte_there, stored_byte}
use Rattle.volume_def.specs.View.{VolumeView}
use Rattle.volume_edits.specs.Clusters.{WritesStream}
use Rattle.sparse_io.specs.Overwritten.{IsPatched}
use Rattle.sparse_io.proofs.PatchLaws.{patched-written}
use Rattle.record_bits.specs.HeldRecordBits.{PutsBit}

-- The sector `was` of a cluster is read, and put back as `now`, in which one flag is `value`.
module _ (old new : VolumeView) (spot : ℕ → Spot) (at cluster skip bit value : ℕ) (was now : List ℕ) (per : 0 < old.layout.cluster_sectors)
    (lies : spot (at / cluster_bytes old.layout) ≡ At cluster) (is : at % cluster_bytes old.layout ≡ skip) (low : bit < 8)
    (len : length now ≡ 512)
    (read : (j : ℕ) → j < 512 → slice_index was j ≡ slice_index (old.cluster cluster) (skip - skip % 512 + j))
    (here : bit_in now (8 * (skip % 512) + bit) ≡ value) (others : (k : ℕ) → k ≢ 8 * (skip % 512) + bit → bit_in now k ≡ bit_in was k)
    (bytes : (j : ℕ) → j ≢ (8 * (skip % 512) + bit) / 8 → slice_index now j ≡ slice_index was j) where
  abbrev place : ℕ
  place = skip % 512

  abbrev byte : ℕ
  byte = slice_index now (skip % 512)

  patched : IsPatched (old.cluster cluster) skip (byte ∷ []) now
  patched = record {
    here = λ j lt.
        let zero : j ≡ 0 = omega (arith, lt) in
        let back : place + j ≡ place = omega (arith, lt) in
        ap (slice_index now) back ∙ sym (ap (slice_index (byte ∷ [])) zero);
    others = λ j lt out. bytes j (apart j out) ∙ read j lt;
  }
    where
      apart : (j : ℕ) → (j < place) ⊎ (place + 1 ≤ j) → j ≢ (8 * place + bit) / 8
      apart j (inl lt) e = omega (arith, lt, low, e)
      apart j (inr ge) e = omega (arith, ge, low, e)

  stored : stored_byte old.cluster (cluster_bytes old.layout) spot at ≡ slice_index was place
  stored =
      let whole : skip - skip % 512 + place ≡ skip = omega arith in
      ap (λ s. byte_there old.cluster s (at % cluster_bytes old.layout)) lies
      ∙ ap (slice_index (old.cluster cluster)) (is ∙ sym whole)
      ∙ sym (read place (omega arith))

  bit-place : (xs : List ℕ) (i : ℕ) → i < 8 → bit_in xs (8 * place + i) ≡ bit_at (slice_index xs place) i
  bit-place xs i lt = bit_in-place xs place i (8 * place + i) refl lt

  -- THE LAW
  pub bit-put : WritesStream old new spot (512 * (at / 512)) now → PutsBit old new spot at bit value
  bit-put w = record {
    byte = byte;
    writes = patched-written old new spot at cluster skip now (byte ∷ []) per lies is (omega arith) (omega arith) len patched w;
    here = sym (bit-place now bit low) ∙ here;
    others = λ i lt ne.
        sym (bit-place now i lt)
        ∙ others (8 * place + i) (λ e. ne (omega (arith, e)))
        ∙ bit-place was i lt
        ∙ ap (λ b. bit_at b i) (sym stored);
  }
