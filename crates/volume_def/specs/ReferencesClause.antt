-- The clause on references, S10, by the number of the record that holds the reference.
-- Layout: Linux-NTFS documentation, "File Reference"; Carrier, File System Forensic Analysis, chapter 11.
use Rattle.std.specs.Prelude.{◌≡◌, ℕ, All, IfSome, IsSomeAnd, IsTrue}
use Rattle.ntfs_def.specs.Record.{Reference}
use Rattle.volume_def.specs.FileNames.{names_among}
use Rattle.volume_def.specs.Files.{Record, Records, is_base, is_directory}

-- The reference names a base record in use, by its number and its sequence number.
abbrev pub NamesBase : Records → Reference → Type 0
NamesBase records reference =
    IsSomeAnd (records.record_at reference.number) (λ r. IsTrue (is_base r) × (r.header.sequence ≡ reference.sequence))

abbrev pub NamesDirectory : Records → Reference → Type 0
NamesDirectory records reference =
    NamesBase records reference × IsSomeAnd (records.record_at reference.number) (λ r. IsTrue (is_directory r))

-- The reference to a base record, where there is one, and those to the directories of names.
pub record HasRightReferences (records : Records) (r : Record) : Type 0 where
  pub base : IfSome r.header.base (NamesBase records)
  pub parents : All (λ name. NamesDirectory records name.parent) (names_among r.parts)

-- The clause on references.
abbrev pub MeetsReferences : Records → ℕ → Type 0
MeetsReferences records n = IfSome (records.record_at n) (HasRightReferences records)
