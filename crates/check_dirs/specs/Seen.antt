-- The entries of a directory, and which of the names that stand in it were met among them.
use Rattle.std.specs.Prelude.{◌≡◌, ℕ, List, [], ◌∷◌, Bool, length, map, if◌then◌else◌}
use Rattle.ntfs_def.specs.FileName.{Link, link_of, name_in}
use Rattle.ntfs_def.specs.Record.{reference_in}
use Rattle.list_laws.specs.SameItems.{SameItems}
use Rattle.index_tree.specs.Walk.{items_in}
use Rattle.check_dirs.specs.declared.seen.Seen.{Seen}

-- the name in these bytes, of the file with this reference
abbrev pub link_with : ℕ → List ℕ → Link
link_with file key = record { file = reference_in file; name = name_in key }

-- what the entries say, in order
abbrev pub links_of_entries : List (List ℕ) → List Link
links_of_entries entries = map link_of (items_in entries)

-- the items whose mark is set
abbrev pub marked : {A : Type 0} → List Bool → List A → List A
marked [] items = []
marked (mark ∷ marks) [] = []
marked (mark ∷ marks) (item ∷ items) = if mark then item ∷ marked marks items else marked marks items

-- there is a mark for each entry
abbrev pub HasMarks : Seen → Type 0
HasMarks seen = length seen.met.items ≡ length seen.entries.items

-- The entries that are marked are these links, in any order.
abbrev pub IsMet : Seen → List Link → Type 0
IsMet seen links = SameItems (marked seen.met.items (links_of_entries seen.entries.items)) links
