-- One index of a file, once one part more of it was gone over.
use Rattle.std.proofs.Common.{◌≡◌, ℕ, Bool, true, false, cond, List, [], ◌∷◌, Option, Some, None, Bor, sym, ap, ◌∙◌}
use Rattle.std.specs.Prelude.{filter}
use Rattle.ntfs_def.specs.declared.kinds.TheConstants.{INDEX_ROOT}
use Rattle.volume_def.specs.Files.{Part, content_value, is_of}
use Rattle.attr_store.specs.FileParts.{FileParts}
use Rattle.attr_store.specs.First.{TellsFirst, attribute_held, FirstMet}
use Rattle.attr_store.specs.declared.first.FirstPart.{FirstPart}
use Rattle.index_store.specs.PartsMet.{RootMet, values_of}
use Rattle.index_store.specs.declared.parts_met.Root.{Root}
use Rattle.index_store.specs.declared.parts_met.Root.TheVariants.{Missing, Only, Refused}

-- the values of a type and name that are left, without the part
values-here : (p : Part → Bool) (part : Part) (left : List Part) (b : Bool) → p part ≡ b
    → values_of (filter p (part ∷ left)) ≡ values_of (cond b (part ∷ filter p left) (filter p left))
values-here p part left b is = ap (λ c. values_of (cond c (part ∷ filter p left) (filter p left))) is

module _ (file : FileParts) (name : List ℕ) (part : Part) (left : List Part) where
  -- the part is of another type or name
  pub root-other : (root : Root) → is_of INDEX_ROOT name part ≡ false → RootMet file name (part ∷ left) root → RootMet file name left root
  root-other Missing other seen = seen ∙ values-here (is_of INDEX_ROOT name) part left false other
  root-other (Only value) other seen =
      seen ∙ ap (λ values. Some value.now ∷ values) (values-here (is_of INDEX_ROOT name) part left false other)
  root-other Refused other seen = seen

  module _ (its : is_of INDEX_ROOT name part ≡ true) where
    -- it is the first root, with a value or without one
    first-root : RootMet file name (part ∷ left) Missing
        → values_of (attribute_held file INDEX_ROOT name) ≡ content_value part.content ∷ values_of (filter (is_of INDEX_ROOT name) left)
    first-root seen = seen ∙ values-here (is_of INDEX_ROOT name) part left true its

    pub root-value : (value : List ℕ) → content_value part.content ≡ Some value → RootMet file name (part ∷ left) Missing
        → values_of (attribute_held file INDEX_ROOT name) ≡ Some value ∷ values_of (filter (is_of INDEX_ROOT name) left)
    root-value value is seen = first-root seen ∙ ap (λ v. v ∷ values_of (filter (is_of INDEX_ROOT name) left)) is

    pub root-clusters : content_value part.content ≡ None → RootMet file name (part ∷ left) Missing → RootMet file name left Refused
    root-clusters none seen value is =
        let both : None ∷ values_of (filter (is_of INDEX_ROOT name) left) ≡ Some value ∷ [] =
        ap (λ v. v ∷ values_of (filter (is_of INDEX_ROOT name) left)) (sym none) ∙ sym (first-root seen) ∙ is in
        absurd (cc)

    -- it is one more root
    pub root-second : (first : Bor (List ℕ)) → RootMet file name (part ∷ left) (Only first) → RootMet file name left Refused
    root-second first seen value is =
        let both : Some first.now ∷ content_value part.content ∷ values_of (filter (is_of INDEX_ROOT name) left) ≡ Some value ∷ [] =
        ap (λ values. Some first.now ∷ values) (sym (values-here (is_of INDEX_ROOT name) part left true its)) ∙ sym seen ∙ is in
        absurd (cc)

-- all parts were gone over
pub first-told : (file : FileParts) (kind : ℕ) (name : List ℕ) (first : Option FirstPart) → FirstMet file kind name [] first
    → TellsFirst file kind name first
first-told file kind name None seen = seen
first-told file kind name (Some first) seen = seen
