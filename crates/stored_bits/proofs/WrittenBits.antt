-- THE FLAGS OF A RANGE SET OR CLEARED in the bytes that hold them, and these written over those of the bitmap.
use Rattle.std.proofs.Common.{◌≡◌, ◌+◌, ◌-◌, ◌*◌, ◌/◌, ◌%◌, ◌<◌, ◌≤◌, ℕ, Bool, List, drop, get_or, length, take, refl, sym, ap, inl, inr}
use Rattle.std.proofs.Common.{◌++◌, ◌∙◌, arith}
use Rattle.std.specs.Int.{bit_at}
use Rattle.std.specs.Prelude.{◌⊎◌, [], IsTrue, filter, slice_index, slice_range}
use Rattle.std.proofs.lemmas.Bool.{cases_lt}
use Rattle.std.proofs.lemmas.List.{get_or-append_right, get_or-drop, get_or-take, get_or_append_left, length-take-le}
use Rattle.list_laws.specs.BitRanges.{IsPieceOf}
use Rattle.list_laws.specs.Bits.{bit_in}
use Rattle.list_laws.proofs.BitLaws.{piece-bit}
use Rattle.list_laws.proofs.PieceLaws.{index_within}
use Rattle.volume_def.specs.BitmapClauses.{cluster_bits}
use Rattle.volume_def.specs.Values.{spot_at, value_on}
use Rattle.volume_def.specs.View.{VolumeView}
use Rattle.volume_def.proofs.StoredLaws.{value-length_told}
use Rattle.volume_def.specs.Table.{cluster_bytes}
use Rattle.ntfs_def.specs.declared.kinds.TheConstants.{DATA}
use Rattle.ntfs_def.specs.declared.records.TheConstants.{CLUSTER_BITMAP}
use Rattle.volume_def.specs.Files.{is_of, parts}
use Rattle.volume_edits.specs.Clusters.{WritesStream, with_bytes}
use Rattle.cluster_bitmap.specs.Words.{bit_for}
use Rattle.volume_edits.proofs.StreamClusters.{records-written, value-written}
use Rattle.stored_bits.specs.PutFlags.{HasOwnBits, PutsFlags}
use Rattle.stored_bits.proofs.BitsStream.{bits-attribute, bits-first, within}

-- Bytes put in place of others of a list
module _ (value : List ℕ) (from : ℕ) (bytes : List ℕ) (fits : from + length bytes ≤ length value) where
  front : length (take from value) ≡ from
  front = length-take-le from value (omega (arith, fits))

  abbrev behind : List ℕ
  behind = drop (from + length bytes) value

  put-here : IsPieceOf (with_bytes value from bytes) from bytes
  put-here i lt =
      let back : from + i - from ≡ i = omega arith in
      sym (get_or-append_right (take from value) (bytes ++ behind) from (from + i) 0 front (omega arith)
      ∙ ap (λ k. get_or (bytes ++ behind) k 0) back
      ∙ get_or_append_left bytes behind 0 i lt)

  put-before : (i : ℕ) → i < from → slice_index (with_bytes value from bytes) i ≡ slice_index value i
  put-before i lt =
      get_or_append_left (take from value) (bytes ++ behind) 0 i (omega (arith, lt, front)) ∙ get_or-take from value i 0 lt

  put-behind : (i : ℕ) → from + length bytes ≤ i → slice_index (with_bytes value from bytes) i ≡ slice_index value i
  put-behind i high =
      let back : from + length bytes + (i - from - length bytes) ≡ i = omega (arith, high) in
      get_or-append_right (take from value) (bytes ++ behind) from i 0 front (omega (arith, high))
      ∙ get_or-append_right bytes behind (length bytes) (i - from) 0 refl (omega (arith, high))
      ∙ get_or-drop (from + length bytes) value (i - from - length bytes) 0
      ∙ ap (slice_index value) back

-- THE BITS of a list in which the flags of a range were put to one bit in the bytes that hold them
module _ (bit : ℕ) (value was bytes : List ℕ) (at len : ℕ) (some : 0 < len) (long : length was ≡ (at + (len - 1)) / 8 - at / 8 + 1)
    (fits : at / 8 + length was ≤ length value) (read : was ≡ slice_range value (at / 8) (at / 8 + length was))
    (same : length bytes ≡ length was) (here : (k : ℕ) → at % 8 ≤ k → k < at % 8 + len → bit_in bytes k ≡ bit)
    (others : (k : ℕ) → (k < at % 8) ⊎ (at % 8 + len ≤ k) → bit_in bytes k ≡ bit_in was k) where
  abbrev put : List ℕ
  put = with_bytes value (at / 8) bytes

  within-value : at / 8 + length bytes ≤ length value
  within-value = omega (arith, fits, same)

  piece : IsPieceOf value (at / 8) was
  piece i lt = ap (λ xs. slice_index xs i) read ∙ index_within value (at / 8) (length was) i lt

  bit-here : (c : ℕ) → 8 * (at / 8) ≤ c → c < 8 * (at / 8 + length bytes) → bit_in put c ≡ bit_in bytes (c - 8 * (at / 8))
  bit-here c low high = sym (piece-bit put bytes (at / 8) c (put-here value (at / 8) bytes within-value) low high)

  pub bit-inside : (c : ℕ) → at ≤ c → c < at + len → bit_in put c ≡ bit
  bit-inside c low high =
      bit-here c (omega (arith, low)) (omega (arith, high, long, same, some))
      ∙ here (c - 8 * (at / 8)) (omega (arith, low)) (omega (arith, low, high))

  pub bit-other : (c : ℕ) → (c < at) ⊎ (at + len ≤ c) → bit_in put c ≡ bit_in value c
  bit-other c beside = elim (cases_lt c (8 * (at / 8))) [
    | inl below ↦
        same-byte c (put-before value (at / 8) bytes within-value (c / 8) (omega (arith, below)))
    | inr low ↦ elim (cases_lt c (8 * (at / 8 + length bytes))) [
      | inl high ↦
          bit-here c low high
          ∙ others (c - 8 * (at / 8)) (outside c low beside)
          ∙ piece-bit value was (at / 8) c piece low (omega (arith, high, same))
      | inr above ↦ same-byte c (put-behind value (at / 8) bytes within-value (c / 8) (omega (arith, above)))
    ]
  ]
    where
      same-byte : (c : ℕ) → slice_index put (c / 8) ≡ slice_index value (c / 8) → bit_in put c ≡ bit_in value c
      same-byte c e = ap (λ b. bit_at b (c % 8)) e

      outside : (c : ℕ) → 8 * (at / 8) ≤ c → (c < at) ⊎ (at + len ≤ c)
          → (c - 8 * (at / 8) < at % 8) ⊎ (at % 8 + len ≤ c - 8 * (at / 8))
      outside c low (inl below) = inl (omega (arith, low, below))
      outside c low (inr above) = inr (omega (arith, low, above))

-- AND WRITTEN over those of the bitmap
pub flags-put : (flag : Bool) (old new : VolumeView) (h : HasOwnBits old) (at len : ℕ) (was bytes : List ℕ) → IsTrue old.told → 0 < len
    → at + len ≤ old.layout.clusters → length was ≡ (at + (len - 1)) / 8 - at / 8 + 1
    → was ≡ slice_range (value_on old (cluster_bits old)) (at / 8) (at / 8 + length was) → length bytes ≡ length was
    → ((k : ℕ) → at % 8 ≤ k → k < at % 8 + len → bit_in bytes k ≡ bit_for flag)
    → ((k : ℕ) → (k < at % 8) ⊎ (at % 8 + len ≤ k) → bit_in bytes k ≡ bit_in was k)
    → WritesStream old new (spot_at (cluster_bits old)) (at / 8) bytes → PutsFlags flag old new at len
flags-put flag old new h at len was bytes told some inside long read same here others w =
    let written = h.written in
    let real = within old h in
    let below : at / 8 + length bytes ≤ h.extent.sizes.initialized = omega (arith, written, inside, long, same, some) in
    let size = cluster_bytes old.layout in
    let all = value-length_told old.cluster size CLUSTER_BITMAP (cluster_bits old) h.extent (bits-attribute old h) (bits-first old h) in
    let fits : at / 8 + length was ≤ length (value_on old (cluster_bits old)) = omega (arith, below, same, real, all) in
    let value : value_on new (cluster_bits new) ≡ with_bytes (value_on old (cluster_bits old)) (at / 8) bytes =
    ap (λ rs. value_on new (filter (is_of DATA []) (parts rs CLUSTER_BITMAP))) (records-written old new (spot_at (cluster_bits old))
    (at / 8) bytes w)
    ∙ value-written old new CLUSTER_BITMAP (cluster_bits old) h.extent (at / 8) bytes told (bits-attribute old h) (bits-first old h) below
    (omega (arith, below, real)) w in
    record {
      bytes = bytes;
      writes = w;
      here = λ c low high.
          ap (λ xs. bit_in xs c) value
          ∙ bit-inside (bit_for flag) (value_on old (cluster_bits old)) was bytes at len some long fits read same here others c low high;
      others = λ c beside.
          ap (λ xs. bit_in xs c) value
          ∙ bit-other (bit_for flag) (value_on old (cluster_bits old)) was bytes at len some long fits read same here others c beside;
    }
