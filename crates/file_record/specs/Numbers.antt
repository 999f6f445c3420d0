-- The numbers of the records that are read for a file.
use Rattle.std.specs.Prelude.{◌≡◌, ℕ, ◌+◌, ◌*◌, ◌<◌, ◌≤◌, ◌==◌, not, List, [], ◌∷◌, ◌++◌, map, length, Contains, IsTrue, count_by}
use Rattle.ntfs_def.specs.Attribute.{Attribute}
use Rattle.ntfs_def.specs.AttributeList.{HasListShape, list_entries}
use Rattle.attr_list.specs.View.{holders_in}
use Rattle.volume_def.specs.Files.{Part, part_of, parts, records_of}
use Rattle.volume_def.specs.ListsClause.{IsReadableList, list_value}
use Rattle.volume_def.specs.View.{VolumeView}
use Rattle.file_record.specs.Records.{IsRecordOf, records_of_file}

-- the records that a list names, in its order
abbrev pub named_in : List ℕ → List ℕ
named_in value = map (λ holder. holder.number) (holders_in value)

-- Where the value is a list, the numbers that it names come behind the old ones. An entry has 26 bytes at least.
pub record AddsNamed (value old new : List ℕ) : Type 0 where
  pub named : List ℕ
  pub added : new ≡ old ++ named
  pub few : 26 * length named ≤ length value
  pub all : HasListShape value (length (list_entries value)) → named ≡ named_in value

-- Numbers that rise, from `from` on and below `end`.
abbrev pub RiseFrom : ℕ → ℕ → List ℕ → Type 0
RiseFrom from end [] = Unit {0}
RiseFrom from end (n ∷ numbers) = (from ≤ n) × (n < end) × RiseFrom (n + 1) end numbers

-- These are the records of file f that have all of its parts.
pub record AreNumbers (view : VolumeView) (f : ℕ) (numbers : List ℕ) : Type 0 where
  pub rising : RiseFrom 0 view.layout.count numbers
  pub own : (n : ℕ) → Contains numbers n → IsRecordOf view f n
  pub holders : (part : Part) → Contains (parts (records_of view) f) part → Contains numbers part.holder
  pub few : count_by (λ n. not (n == f)) numbers + 1 ≤ records_of_file view f

-- The numbers that a list names come behind the old ones, wherever the list stands. They are 10,082 at most, since an entry
-- has 26 of 262,144 bytes. So a file is read in 10,083 records at most, its base record too, and by 20,678 reads: two for each
-- of these, 20,676 without the base record, and 512 for the list.
pub record AddsListed (view : VolumeView) (list : Attribute) (old new : List ℕ) : Type 0 where
  pub named : List ℕ
  pub added : new ≡ old ++ named
  pub few : length named ≤ 10082
  pub all : IsTrue view.told → (n : ℕ) → IsReadableList view (part_of n list) → named ≡ named_in (list_value view (part_of n list))
