-- THE FLAG OF A RECORD SET OR CLEARED in the stored bitmap of records, which lies in clusters.
-- Layout: Linux-NTFS documentation, file $MFT, attribute $BITMAP; Carrier, File System Forensic Analysis, chapter 11.
use Rattle.std.specs.Prelude.{◌≡◌, ◌≢◌, ℕ, ◌/◌, List, length}
use Rattle.list_laws.specs.Bits.{bit_in}
use Rattle.volume_def.specs.BitmapClauses.{record_bits}
use Rattle.volume_def.specs.Values.{spot_at, value_on}
use Rattle.volume_def.specs.View.{VolumeView}
use Rattle.volume_edits.specs.Clusters.{WritesStream}

-- THE FLAG OF RECORD n IS `bit` NOW: a byte went over the one of the bitmap that has it. All other flags, and all else of the volume, are
-- as they were.
pub record PutsRecordBit (old new : VolumeView) (n bit : ℕ) : Type 0 where
  pub bytes : List ℕ
  pub one : length bytes ≡ 1
  pub writes : WritesStream old new (spot_at (record_bits old)) (n / 8) bytes
  pub here : bit_in (value_on new (record_bits new)) n ≡ bit
  pub others : (k : ℕ) → k ≢ n → bit_in (value_on new (record_bits new)) k ≡ bit_in (value_on old (record_bits old)) k

-- THE FLAG IS SET: it is 1 then.
pub record StoresRecordBit (old new : VolumeView) (n : ℕ) : Type 0 where
  pub bytes : List ℕ
  pub one : length bytes ≡ 1
  pub writes : WritesStream old new (spot_at (record_bits old)) (n / 8) bytes
  pub here : bit_in (value_on new (record_bits new)) n ≡ 1
  pub others : (k : ℕ) → k ≢ n → bit_in (value_on new (record_bits new)) k ≡ bit_in (value_on old (record_bits old)) k

-- THE FLAG IS CLEARED: it is 0 then.
pub record ClearsRecordBit (old new : VolumeView) (n : ℕ) : Type 0 where
  pub bytes : List ℕ
  pub one : length bytes ≡ 1
  pub writes : WritesStream old new (spot_at (record_bits old)) (n / 8) bytes
  pub here : bit_in (value_on new (record_bits new)) n ≡ 0
  pub others : (k : ℕ) → k ≢ n → bit_in (value_on new (record_bits new)) k ≡ bit_in (value_on old (record_bits old)) k
