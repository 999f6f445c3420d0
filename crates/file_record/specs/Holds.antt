-- What is held after a record was read.
use Rattle.std.specs.Prelude.{◌≡◌, ℕ, List, ◌++◌, All, Contains, Option, IfSome, IfNone, IsTrue}
use Rattle.std.specs.List.{flat_map}
use Rattle.std.specs.Option.{option_to_list}
use Rattle.ntfs_def.specs.Fixup.{opened_of}
use Rattle.volume_def.specs.Files.{parts_in, record_on}
use Rattle.volume_def.specs.View.{VolumeView}
use Rattle.file_record.specs.declared.held.Held.{Held}
use Rattle.file_record.specs.Held.{IsCurrentRecord, parts_of}
use Rattle.file_record.specs.Records.{IsRecordOf}

-- Record n comes behind those held, where it is of file f.
pub record HoldsNext (view : VolumeView) (f n : ℕ) (old new : List Held) : Type 0 where
  pub found : Option Held
  pub added : new ≡ old ++ option_to_list found
  pub number : IfSome found (λ held. held.number ≡ n)
  pub own : IsTrue view.told → IfSome found (λ held. IsRecordOf view f n × (held.block ≡ opened_of (view.block n)))
  pub other : IsTrue view.told → IfNone found (¬ (IsRecordOf view f n))

-- Each record that is held belongs to file f, and is held as the volume has it. Where all of these numbers are such
-- records, each is held.
pub record HoldsAll (view : VolumeView) (f : ℕ) (numbers : List ℕ) (held : List Held) : Type 0 where
  pub current : All (IsCurrentRecord view) held
  pub own : All (λ one. IsRecordOf view f one.number) held
  pub all : ((n : ℕ) → Contains numbers n → IsRecordOf view f n)
      → flat_map parts_of held ≡ flat_map (λ n. parts_in (record_on view n) n f) numbers

-- A record is held as the volume has it, and is the base record of the file of its number.
pub record IsHeldBase (view : VolumeView) (base : Held) : Type 0 where
  pub own : IsRecordOf view base.number base.number
  pub block : base.block ≡ opened_of (view.block base.number)
