-- The clause on references after a call that changes names.
use Rattle.std.proofs.Common.{None, Some, ap, inl, inr, sym, true, ℕ, ◌<◌, ◌∙◌, ◌≡◌}
use Rattle.std.proofs.lemmas.Bool.{cases_lt}
use Rattle.list_laws.proofs.OptionLaws.{none_other}
use Rattle.ntfs_def.specs.FileName.{FileName}
use Rattle.volume_def.specs.Files.{Record, records_of}
use Rattle.volume_def.specs.ReferencesClause.{MeetsReferences}
use Rattle.volume_def.specs.View.{VolumeView}
use Rattle.edit_def.specs.Names.{ComesUnnamed, GetsName, GoesUnnamed, HasNoNames, HasRightBases, KeepsNames, LosesName, Numbers}
use Rattle.edit_def.specs.Names.{StandRightly, is_directory_by, is_directory_in}
use Rattle.edit_def.proofs.NamesLaws.{past, references-by, stand-all, stand-comes, stand-gets, stand-goes, stand-loses, stand-of}

-- a record in use lies in the table
in-table : (v : VolumeView) (n : ℕ) (r : Record) → (records_of v).record_at n ≡ Some r → n < v.layout.count
in-table v n r at = elim (cases_lt n v.layout.count) [
  | inl lt ↦ lt
  | inr ge ↦ let never : None ≡ Some r = sym (past v n ge) ∙ at in absurd (none_other never)
]

pub references-whole : (v : VolumeView) → HasRightBases (records_of v) → StandRightly (records_of v) → (n : ℕ)
    → MeetsReferences (records_of v) n
references-whole v = references-by (records_of v) (in-table v)

module _ (old new : VolumeView) (references : (n : ℕ) → MeetsReferences (records_of old) n) (bases : HasRightBases (records_of new)) where
  pub references-kept : ((g : ℕ) → KeepsNames (records_of old) (records_of new) g) → (n : ℕ) → MeetsReferences (records_of new) n
  references-kept kept =
      references-whole new bases (stand-all (records_of old) (records_of new)
      (λ reference is. ap (λ o. is_directory_by o reference.sequence) (kept reference.number).numbers ∙ is) (λ g. (kept g).names)
      (stand-of (records_of old) references))

  pub references-gets : (f : ℕ) (name : FileName) → GetsName (records_of old) (records_of new) f name
      → is_directory_in (records_of old) name.parent ≡ true → (n : ℕ) → MeetsReferences (records_of new) n
  references-gets f name gets directory =
      references-whole new bases (stand-gets (records_of old) (records_of new) f name gets directory (stand-of (records_of old) references))

  pub references-loses : (f : ℕ) (name : FileName) → LosesName (records_of old) (records_of new) f name → (n : ℕ)
      → MeetsReferences (records_of new) n
  references-loses f name loses =
      references-whole new bases (stand-loses (records_of old) (records_of new) f name loses (stand-of (records_of old) references))

  pub references-comes : (f : ℕ) (now : Numbers) → ComesUnnamed (records_of old) (records_of new) f now → (n : ℕ)
      → MeetsReferences (records_of new) n
  references-comes f now comes =
      references-whole new bases (stand-comes (records_of old) (records_of new) f now comes (stand-of (records_of old) references))

  pub references-goes : (f : ℕ) (was : Numbers) → GoesUnnamed (records_of old) (records_of new) f was → HasNoNames (records_of old) f
      → (n : ℕ) → MeetsReferences (records_of new) n
  references-goes f was goes empty =
      references-whole new bases (stand-goes (records_of old) (records_of new) f was goes empty (stand-of (records_of old) references))
