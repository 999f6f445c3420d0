-- The clause on references holds of a new volume.
use Rattle.std.proofs.Common.{ℕ, List, [], ◌∷◌, inl, inr, refl, sym, subst}
use Rattle.std.specs.Prelude.{All, IfSome}
use Rattle.std.proofs.lemmas.List.Elements.{All-from_recursion}
use Rattle.ntfs_def.specs.declared.records.TheConstants.{EXTEND, ROOT}
use Rattle.ntfs_def.specs.FileName.{FileName, name_in}
use Rattle.ntfs_def.specs.Record.{Reference}
use Rattle.volume_def.specs.Files.{Record}
use Rattle.volume_def.specs.ReferencesClause.{HasRightReferences, MeetsReferences, NamesBase, NamesDirectory}
use Rattle.volume_format.specs.Plan.{Plan, name_value, planned_records, record_in_list, record_list}
use Rattle.volume_format.proofs.EachRecord.{at-listed}
use Rattle.volume_format.proofs.Listed.{IfSome-from}
use Rattle.volume_format.proofs.Names.{HasOneName, names-planned, parent-extend, parent-root}

module _ (p : Plan) where
  abbrev Directory : Reference → Type 0
  Directory = NamesDirectory (planned_records p)

  -- the root and $Extend are directories, with their numbers as sequence numbers
  names-root : Directory (record { number = ROOT; sequence = ROOT })
  names-root = ((refl, refl), refl)

  names-extend : Directory (record { number = EXTEND; sequence = EXTEND })
  names-extend = ((refl, refl), refl)

  abbrev ParentOf : ℕ → ℕ → List ℕ → Type 0
  ParentOf parent directory letters = Directory (name_in (name_value parent directory letters)).parent

  parent-names : (f : ℕ) (r : Record) (name : HasOneName f r) → ParentOf name.parent name.directory name.letters
  parent-names f r name = elim name.stands [
    | inl e ↦ subst (λ parent. ParentOf parent name.directory name.letters) (sym e)
        (subst Directory (sym (parent-root name.directory name.letters)) names-root)
    | inr e ↦ subst (λ parent. ParentOf parent name.directory name.letters) (sym e)
        (subst Directory (sym (parent-extend name.directory name.letters)) names-extend)
  ]

  refers : (f : ℕ) (r : Record) → HasOneName f r → HasRightReferences (planned_records p) r
  refers f r name = record {
    base = subst (λ base. IfSome base (NamesBase (planned_records p))) (sym name.base) tt;
    parents = subst (All (λ (n : FileName). Directory n.parent)) (sym name.one)
        (All-from_recursion (λ (n : FileName). Directory n.parent) (name_in (name_value name.parent name.directory name.letters) ∷ [])
        (parent-names f r name, tt));
  }

  pub MeetsReferences-planned : (n : ℕ) → MeetsReferences (planned_records p) n
  MeetsReferences-planned n = IfSome-from (record_in_list (record_list p) n) (HasRightReferences (planned_records p))
      (λ r is. refers n r (at-listed HasOneName p (names-planned p) n r is))
