-- What is hidden stays so, and what is shown, while names come and go and the table grows.
use Rattle.std.proofs.Common.{IsSomeAnd, IsTrue, [], ap, false, filter, inl, inr, nat_lt, not, subst, suc, sym, zero, ℕ, ◌<◌, ◌==◌, ◌∙◌}
use Rattle.std.proofs.Common.{◌≡◌, ◌≤◌}
use Rattle.std.specs.List.{Contains, list_any}
use Rattle.std.proofs.lemmas.Bool.{and_left, cases_lt, le-ltb}
use Rattle.list_laws.specs.SameItems.{SameItems}
use Rattle.list_laws.proofs.MemberLaws.{Contains-from_filter, Contains-from_filter_map}
use Rattle.list_laws.proofs.SameItemsLaws.{SameItems-sym}
use Rattle.ntfs_def.specs.FileName.{FileName}
use Rattle.ntfs_def.specs.declared.records.TheConstants.{FIRST_ORDINARY, ROOT}
use Rattle.volume_def.specs.FileNames.{is_file_name, names_of}
use Rattle.volume_def.specs.Files.{Records, is_base, parts, records_of}
use Rattle.volume_def.specs.Readable.{IsFile}
use Rattle.volume_def.specs.View.{VolumeView}
use Rattle.tree_model.specs.Hidden.{is_hidden, leads_to_system}
use Rattle.tree_model.proofs.HiddenLaws.{leads-ordinary}
use Rattle.edit_def.specs.Names.{ComesUnnamed, GetsName, GoesUnnamed, HasRightBases, LosesName, Numbers}
use Rattle.edit_def.proofs.NamesLaws.{name_of_part, names-comes, past}
use Rattle.edit_def.proofs.ToldLaws.{part-file}
use Rattle.name_edits.proofs.HiddenNames.{leads-gets, leads-got, leads-kept}
use Rattle.name_edits.proofs.HiddenWays.{hidden-enough}

-- a file that has a name is one
pub name-file : (v : VolumeView) (g : ℕ) (name : FileName) → HasRightBases (records_of v) → Contains (names_of (records_of v) g) name
    → IsFile v g
unfolding names_of
name-file v g name bases c =
    let w = Contains-from_filter_map name_of_part (filter is_file_name (parts (records_of v) g)) name c in
    part-file v g w.0 bases (Contains-from_filter is_file_name (parts (records_of v) g) w.0 w.1).0

-- so it lies in the table
pub bounded-names : (v : VolumeView) → HasRightBases (records_of v) → (g : ℕ) (name : FileName)
    → Contains (names_of (records_of v) g) name → g < v.layout.count
bounded-names v bases g name c = elim (cases_lt g v.layout.count) [
  | inl lt ↦ lt
  | inr ge ↦ absurd (subst (λ o. IsSomeAnd o (λ r. IsTrue (is_base r))) (past v g ge) (name-file v g name bases c))
]

-- a way longer than the table has records leads to the system where the file is hidden
pub hidden-longer : (v : VolumeView) → HasRightBases (records_of v) → (n g : ℕ) → v.layout.count ≤ n
    → leads_to_system (records_of v) n g ≡ is_hidden (records_of v) g
hidden-longer v bases n g l = hidden-enough (records_of v) (bounded-names v bases) n g l

-- A file without a name is shown, but for those of the system.
pub unnamed-shown : (records : Records) (f : ℕ) → FIRST_ORDINARY ≤ f → names_of records f ≡ [] → is_hidden records f ≡ false
unfolding is_hidden
unnamed-shown records f high none = by records.count
  where
    by : (steps : ℕ) → leads_to_system records steps f ≡ false
    by zero = and_left (nat_lt f FIRST_ORDINARY) (not (f == ROOT)) (le-ltb f FIRST_ORDINARY high)
    by (suc steps) =
        leads-ordinary records steps f high ∙ ap (list_any (λ (name : FileName). leads_to_system records steps name.parent.number)) none

module _ (old new : VolumeView) (bases : HasRightBases (records_of old)) (grown : old.layout.count ≤ new.layout.count) where
  enough : (g : ℕ) → leads_to_system (records_of old) new.layout.count g ≡ is_hidden (records_of old) g
  enough g = hidden-longer old bases new.layout.count g grown

  pub hides-kept : ((g : ℕ) → SameItems (names_of (records_of old) g) (names_of (records_of new) g))
      → (g : ℕ) → is_hidden (records_of new) g ≡ is_hidden (records_of old) g
  unfolding is_hidden
  hides-kept same g = leads-kept (records_of old) (records_of new) same new.layout.count g ∙ enough g

  pub hides-gets : (f : ℕ) (name : FileName) → GetsName (records_of old) (records_of new) f name
      → is_hidden (records_of old) name.parent.number ≡ false → (g : ℕ) → is_hidden (records_of new) g ≡ is_hidden (records_of old) g
  unfolding is_hidden
  hides-gets f name gets shown g =
      leads-gets (records_of old) (records_of new) f name (λ h ne. (gets.others h ne).names) gets.names new.layout.count g
      (enough name.parent.number ∙ shown) ∙ enough g

  pub hides-loses : (f : ℕ) (name : FileName) → LosesName (records_of old) (records_of new) f name
      → is_hidden (records_of old) name.parent.number ≡ false → (g : ℕ) → is_hidden (records_of new) g ≡ is_hidden (records_of old) g
  unfolding is_hidden
  hides-loses f name loses shown g =
      sym (leads-got (records_of new) (records_of old) f name (λ h ne. (loses.others h ne).names) loses.names new.layout.count g
      (enough name.parent.number ∙ shown)) ∙ enough g

  pub hides-comes : (f : ℕ) (now : Numbers) → ComesUnnamed (records_of old) (records_of new) f now
      → (g : ℕ) → is_hidden (records_of new) g ≡ is_hidden (records_of old) g
  hides-comes f now comes = hides-kept (names-comes (records_of old) (records_of new) f now comes)

  pub hides-goes : (f : ℕ) (was : Numbers) → GoesUnnamed (records_of old) (records_of new) f was
      → (g : ℕ) → is_hidden (records_of new) g ≡ is_hidden (records_of old) g
  hides-goes f was goes =
      hides-kept (λ g. SameItems-sym (names_of (records_of new) g) (names_of (records_of old) g)
      (names-comes (records_of new) (records_of old) f was goes g))
