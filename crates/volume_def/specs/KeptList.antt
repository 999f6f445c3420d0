-- The list of a file while an edit is under way: the entries that it has to have, whatever its stored value says so far.
use Rattle.std.specs.Prelude.{◌≡◌, ℕ, false, List, [], ◌∷◌, All, count_by, IsTrue}
use Rattle.ntfs_def.specs.AttributeList.{ListEntry, list_entries}
use Rattle.ntfs_def.specs.Flags.{is_packed}
use Rattle.volume_def.specs.Files.{Part, Records, parts}
use Rattle.volume_def.specs.ListsClause.{IsReadableList, entries_in, is_list, list_value}
use Rattle.list_laws.specs.SameItems.{SameItems}
use Rattle.volume_def.specs.Values.{KeepsClusters}
use Rattle.volume_def.specs.View.{VolumeView}

-- File f has one list, which stands in its base record and has to have these entries.
pub record HasList (records : Records) (f : ℕ) (entries : List ListEntry) : Type 0 where
  pub one : count_by is_list (parts records f) ≡ 1
  pub home : All (λ part. IsTrue (is_list part) → part.holder ≡ f) (parts records f)
  pub names : SameItems (entries_in records (parts records f)) entries

-- The part is a list whose value has these entries, in the form that the clause on lists asks for.
pub record StoresList (view : VolumeView) (part : Part) (entries : List ListEntry) : Type 0 where
  pub plain : is_packed part.kind part.flags ≡ false
  pub readable : IsReadableList view part
  pub named : list_entries (list_value view part) ≡ entries

-- The clusters of the list of file f hold what they held.
abbrev pub KeepsList : VolumeView → VolumeView → List Part → Type 0
KeepsList old new all = All (λ part. IsTrue (is_list part) → KeepsClusters old new (part ∷ [])) all
