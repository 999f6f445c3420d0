-- Which files have more than one record, or an attribute list, as a pass notes them.
use Rattle.std.specs.Prelude.{◌≡◌, ℕ, ◌==◌, ◌&&◌, List, [], ◌∷◌, Option, Some, None, filter, if◌then◌else◌}
use Rattle.std.specs.List.{flat_map, list_any, range_with_len}
use Rattle.std.specs.List.Sorted.{IsPermutation}
use Rattle.volume_def.specs.Files.{Part, Record, Records, file_of, is_base, parts_in}
use Rattle.volume_def.specs.ListsClause.{is_list}
use Rattle.record_notes.specs.declared.spread.Extension.{Extension}
use Rattle.record_notes.specs.declared.spread.SpreadFiles.{SpreadFiles}

-- record n, where it is an extension record, with its file
abbrev pub extension_in : ℕ → Option Record → List Extension
extension_in n None = []
extension_in n (Some r) = if is_base r then [] else record { file = file_of n r; number = n } ∷ []

-- record n, where it is a base record with an attribute list
abbrev pub listed_in : ℕ → Option Record → List ℕ
listed_in n None = []
listed_in n (Some r) = if is_base r && list_any is_list r.parts then n ∷ [] else []

-- the same of the records below n, in their order
abbrev pub extensions_below : Records → ℕ → List Extension
extensions_below records n = flat_map (λ k. extension_in k (records.record_at k)) (range_with_len 0 n)

abbrev pub listed_below : Records → ℕ → List ℕ
listed_below records n = flat_map (λ k. listed_in k (records.record_at k)) (range_with_len 0 n)

-- What is noted of the records below n.
pub record SpreadNote (records : Records) (n : ℕ) (spread : SpreadFiles) : Type 0 where
  pub extensions : spread.extensions.items ≡ extensions_below records n
  pub listed : spread.listed.items ≡ listed_below records n

-- those of file f
abbrev pub extensions_of : ℕ → List Extension → List Extension
extensions_of f extensions = filter (λ extension. extension.file == f) extensions

-- These are the extension records of file f, in any order.
pub record AreExtensionsOf (records : Records) (f : ℕ) (extensions : List Extension) : Type 0 where
  pub all : List Extension
  pub order : IsPermutation (extensions_below records records.count) all
  pub own : extensions ≡ extensions_of f all

-- the parts of file f that these records hold
abbrev pub parts_from : Records → ℕ → List Extension → List Part
parts_from records f extensions = flat_map (λ extension. parts_in (records.record_at extension.number) extension.number f) extensions
