-- The names of a new volume, which are those of the system's files: twelve in the root, and two in $Extend. The root's index is an
-- empty root node above one index record, which has its twelve names.
use Rattle.std.specs.Prelude.{ℕ, List, [], ◌∷◌, ◌++◌, codes, map}
use Rattle.record_bytes.specs.Entries.{last_entry, name_entry, reference_bytes}
use Rattle.volume_format.specs.Plan.{name_value}

-- A name: the number and the sequence number of its record, the flag of a directory in its byte, and its letters.
pub record SystemName : Type 0 where
  pub number : ℕ
  pub sequence : ℕ
  pub directory : ℕ
  pub letters : List ℕ

abbrev pub system_name : ℕ → ℕ → ℕ → List ℕ → SystemName
system_name number sequence directory letters =
    record { number = number; sequence = sequence; directory = directory; letters = letters }

-- those in the root, in name order
abbrev pub root_names : List SystemName
root_names =
    system_name 4 4 0 (codes "$AttrDef") ∷ system_name 8 8 0 (codes "$BadClus") ∷ system_name 6 6 0 (codes "$Bitmap")
    ∷ system_name 7 7 0 (codes "$Boot") ∷ system_name 11 11 0x10 (codes "$Extend") ∷ system_name 2 2 0 (codes "$LogFile")
    ∷ system_name 0 1 0 (codes "$MFT") ∷ system_name 1 1 0 (codes "$MFTMirr") ∷ system_name 9 9 0 (codes "$Secure")
    ∷ system_name 10 10 0 (codes "$UpCase") ∷ system_name 3 3 0 (codes "$Volume") ∷ system_name 5 5 0x10 (codes ".") ∷ []

-- those in $Extend, in name order
abbrev pub extend_names : List SystemName
extend_names = system_name 24 1 0 (codes "$ObjId") ∷ system_name 25 1 0 (codes "$Reparse") ∷ []

-- the entry of a name in the root, byte for byte
abbrev pub root_entry : SystemName → List ℕ
root_entry name = name_entry (reference_bytes name.number name.sequence) (name_value 5 name.directory name.letters)

-- all entries, the last entry last
abbrev pub root_entries : List (List ℕ)
root_entries = map root_entry root_names ++ last_entry ∷ []
