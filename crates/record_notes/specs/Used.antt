-- What is noted of the records that are in use.
use Rattle.std.specs.Prelude.{◌≡◌, ◌↔◌, ℕ, ◌<◌, ◌≤◌, IsSome}
use Rattle.list_laws.specs.Bits.{bit_in}
use Rattle.volume_def.specs.Files.{Records, records_of}
use Rattle.volume_def.specs.View.{VolumeView}
use Rattle.record_notes.specs.declared.used.Used.{Used}

-- the records of the table, of which use is noted
abbrev pub records_noted : Used → ℕ
records_noted used = used.count

-- It is noted which of the records below n are in use.
pub record UsedNote (records : Records) (n : ℕ) (used : Used) : Type 0 where
  pub bit : (k : ℕ) → k < n → (bit_in used.bits.items k ≡ 1) ↔ IsSome (records.record_at k)
  pub clear : (k : ℕ) → n ≤ k → bit_in used.bits.items k ≡ 0

-- .. and of all records of a volume
pub record AllUsedNote (view : VolumeView) (used : Used) : Type 0 where
  pub count : records_noted used ≡ view.layout.count
  pub noted : UsedNote (records_of view) view.layout.count used
