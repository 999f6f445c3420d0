-- THE FLAG IS STORED where its bit was put into the byte of the bitmap that has it.
use Rattle.std.proofs.Common.{◌≡◌, ◌≢◌, ◌+◌, ◌-◌, ◌*◌, ◌/◌, ◌%◌, ◌<◌, ℕ, List, [], ◌∷◌, drop, get_or, length, take, refl, sym, ap, inl, inr}
use Rattle.std.proofs.Common.{◌++◌, ◌∙◌, arith}
use Rattle.std.specs.Int.{bit_at}
use Rattle.std.specs.Prelude.{IsTrue, cond, filter, slice_index}
use Rattle.std.proofs.lemmas.Bool.{cases_eq, cases_lt, lt-ltb}
use Rattle.std.proofs.lemmas.List.{get_or-append_right, get_or-drop, get_or-take, get_or_append_left, length-take-le}
use Rattle.std.proofs.lemmas.List.FromFn.{get_or-map-range_with_len}
use Rattle.list_laws.specs.Bits.{bit_in}
use Rattle.ntfs_def.specs.declared.kinds.TheConstants.{BITMAP}
use Rattle.ntfs_def.specs.declared.records.TheConstants.{MFT}
use Rattle.volume_def.specs.BitmapClauses.{record_bits}
use Rattle.volume_def.specs.Files.{is_of, parts}
use Rattle.volume_def.specs.Table.{cluster_bytes}
use Rattle.volume_def.specs.Values.{spot_at, stored_byte, value_byte, value_on}
use Rattle.volume_def.specs.View.{VolumeView}
use Rattle.volume_def.proofs.StoredLaws.{value-bytes, value-length_told}
use Rattle.volume_edits.specs.Clusters.{with_bytes}
use Rattle.volume_edits.proofs.StreamClusters.{records-written, value-written}
use Rattle.sparse_io.specs.FileParts.{FileParts}
use Rattle.sparse_io.specs.FirstPart.{FirstPart}
use Rattle.record_bits.specs.HeldRecordBits.{HoldsRecordBits, PutsBit}
use Rattle.record_bits.specs.StoredRecordBit.{ClearsRecordBit, PutsRecordBit, StoresRecordBit}
use Rattle.record_bits.proofs.RowsStream.{rows-attribute, rows-first, rows-within, rows-written}

-- ONE BYTE in place of another of a list
module _ (value : List ℕ) (at byte : ℕ) (fits : at < length value) where
  front : length (take at value) ≡ at
  front = length-take-le at value (omega (arith, fits))

  abbrev behind : List ℕ
  behind = drop (at + 1) value

  abbrev put : List ℕ
  put = with_bytes value at (byte ∷ [])

  put-here : slice_index put at ≡ byte
  put-here =
      let none : at - at ≡ 0 = omega arith in
      get_or-append_right (take at value) ((byte ∷ []) ++ behind) at at 0 front (omega arith)
      ∙ ap (λ k. get_or ((byte ∷ []) ++ behind) k 0) none

  put-other : (i : ℕ) → i ≢ at → slice_index put i ≡ slice_index value i
  put-other i ne = elim (cases_lt i at) [
    | inl lt ↦ get_or_append_left (take at value) ((byte ∷ []) ++ behind) 0 i (omega (arith, lt, front)) ∙ get_or-take at value i 0 lt
    | inr ge ↦
        let back : at + 1 + (i - at - 1) ≡ i = omega (arith, ge, ne) in
        get_or-append_right (take at value) ((byte ∷ []) ++ behind) at i 0 front (omega (arith, ge))
        ∙ get_or-append_right (byte ∷ []) behind 1 (i - at) 0 refl (omega (arith, ge, ne))
        ∙ get_or-drop (at + 1) value (i - at - 1) 0
        ∙ ap (slice_index value) back
  ]

-- THE FLAG of record n, in a byte of which one bit was put
module _ (value : List ℕ) (n byte bit : ℕ) (fits : n / 8 < length value) (here : bit_at byte (n % 8) ≡ bit)
    (others : (i : ℕ) → i < 8 → i ≢ n % 8 → bit_at byte i ≡ bit_at (slice_index value (n / 8)) i) where
  flag-here : bit_in (with_bytes value (n / 8) (byte ∷ [])) n ≡ bit
  flag-here = ap (λ b. bit_at b (n % 8)) (put-here value (n / 8) byte fits) ∙ here

  flag-other : (k : ℕ) → k ≢ n → bit_in (with_bytes value (n / 8) (byte ∷ [])) k ≡ bit_in value k
  flag-other k ne = elim (cases_eq (k / 8) (n / 8)) [
    | inl e ↦
        ap (λ at. bit_at (slice_index (with_bytes value (n / 8) (byte ∷ [])) at) (k % 8)) e
        ∙ ap (λ b. bit_at b (k % 8)) (put-here value (n / 8) byte fits)
        ∙ others (k % 8) (omega arith) (λ same. ne (omega (arith, e, same)))
        ∙ ap (λ at. bit_at (slice_index value at) (k % 8)) (sym e)
    | inr other ↦ ap (λ b. bit_at b (k % 8)) (put-other value (n / 8) byte fits (k / 8) other)
  ]

module _ (old new : VolumeView) (file : FileParts) (its : FirstPart) (h : HoldsRecordBits old file its) (n : ℕ) (told : IsTrue old.told)
    (written : n < 8 * its.written) where
  abbrev at : ℕ
  at = n / 8

  abbrev size : ℕ
  size = cluster_bytes old.layout

  below : at < h.extent.sizes.initialized
  below = omega (arith, written, rows-written old file its h)

  pub inside : n / 8 < h.extent.sizes.real
  inside = omega (arith, below, rows-within old file its h)

  long : length (value_on old (record_bits old)) ≡ h.extent.sizes.real
  long = value-length_told old.cluster size MFT (record_bits old) h.extent (rows-attribute old file its h) (rows-first old file its h)

  -- that byte of the value, as it is stored
  byte-stored : slice_index (value_on old (record_bits old)) at ≡ stored_byte old.cluster size (spot_at (record_bits old)) at
  byte-stored =
      let spot = spot_at (record_bits old) in
      ap (λ xs. slice_index xs at)
      (value-bytes old.cluster size MFT (record_bits old) h.extent (rows-attribute old file its h) (rows-first old file its h))
      ∙ get_or-map-range_with_len (value_byte old.cluster size spot h.extent.sizes.initialized) 0 h.extent.sizes.real at at 0 inside
      (omega arith)
      ∙ ap (λ b. cond b (stored_byte old.cluster size spot at) 0) (lt-ltb at h.extent.sizes.initialized below)

  -- THE LAW
  pub row-put : (bit : ℕ) → PutsBit old new (spot_at (record_bits old)) at (n % 8) bit → PutsRecordBit old new n bit
  row-put bit r =
      let value : value_on new (record_bits new) ≡ with_bytes (value_on old (record_bits old)) at (r.byte ∷ []) =
      ap (λ rs. value_on new (filter (is_of BITMAP []) (parts rs MFT))) (records-written old new (spot_at (record_bits old))
      at (r.byte ∷ []) r.writes)
      ∙ value-written old new MFT (record_bits old) h.extent at (r.byte ∷ []) told (rows-attribute old file its h)
      (rows-first old file its h) (omega (arith, below)) (omega (arith, inside)) r.writes in
      let fits : at < length (value_on old (record_bits old)) = omega (arith, inside, long) in
      let same : (i : ℕ) → i < 8 → i ≢ n % 8 → bit_at r.byte i ≡ bit_at (slice_index (value_on old (record_bits old)) at) i =
      λ i low ne. r.others i low ne ∙ ap (λ b. bit_at b i) (sym byte-stored) in
      record {
        bytes = r.byte ∷ [];
        one = refl;
        writes = r.writes;
        here = ap (λ xs. bit_in xs n) value ∙ flag-here (value_on old (record_bits old)) n r.byte bit fits r.here same;
        others = λ k ne. ap (λ xs. bit_in xs k) value ∙ flag-other (value_on old (record_bits old)) n r.byte bit fits r.here same k ne;
      }

-- a flag that was put is set, or cleared
pub row-set : (old new : VolumeView) (n : ℕ) → PutsRecordBit old new n 1 → StoresRecordBit old new n
row-set old new n p = record { bytes = p.bytes; one = p.one; writes = p.writes; here = p.here; others = p.others }

pub row-cleared : (old new : VolumeView) (n : ℕ) → PutsRecordBit old new n 0 → ClearsRecordBit old new n
row-cleared old new n p = record { bytes = p.bytes; one = p.one; writes = p.writes; here = p.here; others = p.others }
