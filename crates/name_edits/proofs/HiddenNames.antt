-- Which files are hidden, while names come and go and the table grows.
use Rattle.std.proofs.Common.{Bool, ap, false, inl, inr, not, refl, subst, suc, sym, zero, ℕ, ◌&&◌, ◌==◌, ◌||◌, ◌∙◌, ◌∷◌, ◌≡◌, ◌≢◌}
use Rattle.std.specs.List.{list_any}
use Rattle.std.proofs.lemmas.Bool.{cases_eq}
use Rattle.list_laws.specs.SameItems.{SameItems}
use Rattle.ntfs_def.specs.FileName.{FileName}
use Rattle.ntfs_def.specs.declared.records.TheConstants.{ROOT}
use Rattle.volume_def.specs.FileNames.{names_of}
use Rattle.volume_def.specs.Files.{Records}
use Rattle.tree_model.specs.Hidden.{is_system, leads_to_system}
use Rattle.tree_model.proofs.HiddenLaws.{leads-shorter}
use Rattle.name_edits.proofs.ListTests.{any-SameItems, any-agree}

-- All files keep their names.
pub leads-kept : (old new : Records) → ((g : ℕ) → SameItems (names_of old g) (names_of new g)) → (k g : ℕ)
    → leads_to_system new k g ≡ leads_to_system old k g
leads-kept old new same zero g = refl
leads-kept old new same (suc k) g =
    ap (λ b. is_system g || (not (g == ROOT) && b))
    (any-agree (λ (name : FileName). leads_to_system old k name.parent.number)
    (λ (name : FileName). leads_to_system new k name.parent.number)
    (names_of new g) (λ name. leads-kept old new same k name.parent.number)
    ∙ any-SameItems (λ (name : FileName). leads_to_system old k name.parent.number) (names_of old g) (names_of new g) (same g))

-- One gets a name in a directory that does not lead there.
pub leads-gets : (old new : Records) (f : ℕ) (name : FileName)
    → ((g : ℕ) → g ≢ f → SameItems (names_of old g) (names_of new g)) → SameItems (name ∷ names_of old f) (names_of new f)
    → (k g : ℕ) → leads_to_system old k name.parent.number ≡ false → leads_to_system new k g ≡ leads_to_system old k g
leads-gets old new f name others here zero g shown = refl
leads-gets old new f name others here (suc k) g shown =
    let shorter = leads-shorter old k name.parent.number shown in
    let test : FileName → Bool = λ other. leads_to_system old k other.parent.number in
    ap (λ b. is_system g || (not (g == ROOT) && b))
    (any-agree test (λ (other : FileName). leads_to_system new k other.parent.number) (names_of new g)
    (λ other. leads-gets old new f name others here k other.parent.number shorter)
    ∙ elim (cases_eq g f) [
      | inl e ↦
          subst (λ h. list_any test (names_of new h) ≡ list_any test (names_of old h)) (sym e)
          (any-SameItems test (name ∷ names_of old f) (names_of new f) here ∙ ap (λ b. b || list_any test (names_of old f)) shorter)
      | inr ne ↦ any-SameItems test (names_of old g) (names_of new g) (others g ne)
    ])

-- The same where the directory does not lead there once the file has the name.
pub leads-got : (old new : Records) (f : ℕ) (name : FileName)
    → ((g : ℕ) → g ≢ f → SameItems (names_of old g) (names_of new g)) → SameItems (name ∷ names_of old f) (names_of new f)
    → (k g : ℕ) → leads_to_system new k name.parent.number ≡ false → leads_to_system new k g ≡ leads_to_system old k g
leads-got old new f name others here zero g shown = refl
leads-got old new f name others here (suc k) g shown =
    let shorter = leads-shorter new k name.parent.number shown in
    let apart = sym (leads-got old new f name others here k name.parent.number shorter) ∙ shorter in
    let test : FileName → Bool = λ other. leads_to_system old k other.parent.number in
    ap (λ b. is_system g || (not (g == ROOT) && b))
    (any-agree test (λ (other : FileName). leads_to_system new k other.parent.number) (names_of new g)
    (λ other. leads-got old new f name others here k other.parent.number shorter)
    ∙ elim (cases_eq g f) [
      | inl e ↦
          subst (λ h. list_any test (names_of new h) ≡ list_any test (names_of old h)) (sym e)
          (any-SameItems test (name ∷ names_of old f) (names_of new f) here ∙ ap (λ b. b || list_any test (names_of old f)) apart)
      | inr ne ↦ any-SameItems test (names_of old g) (names_of new g) (others g ne)
    ])
