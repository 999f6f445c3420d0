-- The calls of a command, one after another: of which files names stay, and where they stand.
use Rattle.std.proofs.Common.{All, IsTrue, List, [], ap, inl, inr, refl, subst, sym, true, ℕ, ◌++◌, ◌∙◌, ◌∷◌, ◌≡◌}
use Rattle.std.proofs.lemmas.Bool.{cases_eq}
use Rattle.std.proofs.lemmas.List.Elements.{All-contains, Contains-append_right}
use Rattle.list_laws.specs.SameItems.{SameItems}
use Rattle.list_laws.proofs.AlikeLaws.{All-SameItems}
use Rattle.list_laws.proofs.MemberLaws.{All-from_Contains}
use Rattle.list_laws.proofs.SameItemsLaws.{SameItems-append, SameItems-same, SameItems-sym}
use Rattle.ntfs_def.specs.FileName.{FileName}
use Rattle.ntfs_def.specs.Record.{Reference}
use Rattle.volume_def.specs.FileNames.{names_of}
use Rattle.volume_def.specs.Files.{Records}
use Rattle.edit_def.specs.Names.{KeepsNames, KeepsOthers, LosesNames, StandRightly, is_directory_by, is_directory_in}
use Rattle.edit_def.proofs.NamesLaws.{stand-all}
use Rattle.name_edits.proofs.NamesInTurn.{directories-lost}

pub others-back : (old new : Records) (f : ℕ) → KeepsOthers old new f → KeepsOthers new old f
others-back old new f kept g ne = record {
  numbers = sym (kept g ne).numbers;
  names = SameItems-sym (names_of old g) (names_of new g) (kept g ne).names;
}

pub directories-same : (old new : Records) → ((g : ℕ) → KeepsNames old new g) → (reference : Reference)
    → is_directory_in old reference ≡ true → is_directory_in new reference ≡ true
directories-same old new kept reference is = ap (λ o. is_directory_by o reference.sequence) (kept reference.number).numbers ∙ is

pub stand-same : (old new : Records) → ((g : ℕ) → KeepsNames old new g) → StandRightly old → StandRightly new
stand-same old new kept = stand-all old new (directories-same old new kept) (λ g. (kept g).names)

-- where a file lost names
pub stand-lost : (old new : Records) (f : ℕ) (gone : List FileName) → LosesNames old new f gone → StandRightly old → StandRightly new
stand-lost old new f gone lost stand h = elim (cases_eq h f) [
  | inl e ↦
      let all = All-SameItems (λ (other : FileName). is_directory_in new other.parent) (names_of old f) (gone ++ names_of new f)
      (SameItems-sym (gone ++ names_of new f) (names_of old f) lost.names)
      (λ k d lt. directories-lost old new f gone lost _ (stand f k d lt)) in
      subst (λ k. All (λ (other : FileName). IsTrue (is_directory_in new other.parent)) (names_of new k)) (sym e)
      (All-from_Contains (λ (other : FileName). IsTrue (is_directory_in new other.parent)) (names_of new f) (λ other c.
      All-contains (λ (n : FileName). is_directory_in new n.parent ≡ true) (gone ++ names_of new f) other all
      (Contains-append_right gone (names_of new f) other c)))
  | inr ne ↦
      All-SameItems (λ (other : FileName). is_directory_in new other.parent) (names_of old h) (names_of new h) (lost.others h ne).names
      (λ k d lt. directories-lost old new f gone lost _ (stand h k d lt))
]

-- the same first item before the same items
pub SameItems-cons : {A : Type 0} (x : A) (xs ys : List A) → SameItems xs ys → SameItems (x ∷ xs) (x ∷ ys)
SameItems-cons x xs ys h = SameItems-append (x ∷ []) (x ∷ []) xs ys (SameItems-same (x ∷ []) (x ∷ []) refl) h
