-- What is noted of the names of files.
use Rattle.std.specs.Prelude.{◌≡◌, ◌==◌, ℕ, Bool, List, [], map, Option, Some, None}
use Rattle.std.specs.List.{flat_map, range_with_len}
use Rattle.ntfs_def.specs.FileName.{FileName}
use Rattle.ntfs_def.specs.Record.{Reference, reference_in}
use Rattle.volume_def.specs.FileNames.{names_among}
use Rattle.volume_def.specs.Files.{Record, Records, file_of}
use Rattle.record_notes.specs.declared.names.NameFact.{NameFact}
use Rattle.record_notes.specs.declared.names.Names.{Names}

-- A name without its units: the directory that has it, and its namespace.
pub record PlacedName : Type 0 where
  pub parent : Reference
  pub namespace : ℕ

abbrev pub placed : FileName → PlacedName
placed name = record { parent = name.parent; namespace = name.namespace }

-- A placed name, the record that holds it and the file that has it.
pub record HeldName : Type 0 where
  pub holder : ℕ
  pub file : ℕ
  pub place : PlacedName

abbrev pub is_of_file : ℕ → HeldName → Bool
is_of_file f held = held.file == f

-- the names that record n holds
abbrev pub held_name : ℕ → ℕ → FileName → HeldName
held_name n file name = record { holder = n; file = file; place = placed name }

unfoldable pub names_held : ℕ → Option Record → List HeldName
names_held n None = []
names_held n (Some r) = map (held_name n (file_of n r)) (names_among r.parts)

-- those that the records below n hold, in the order of the records
unfoldable pub names_held_below : Records → ℕ → List HeldName
names_held_below records n = flat_map (λ k. names_held k (records.record_at k)) (range_with_len 0 n)

-- what a fact says
abbrev pub told_name : NameFact → HeldName
told_name name = record {
  holder = name.holder;
  file = name.file;
  place = record { parent = reference_in name.parent; namespace = name.namespace };
}

abbrev pub told_names : Names → List HeldName
told_names names = map told_name names.names.items

-- The names that the records below n hold are noted, in the order of the records.
abbrev pub NamesNote : Records → ℕ → Names → Type 0
NamesNote records n names = told_names names ≡ names_held_below records n
