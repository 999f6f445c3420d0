-- Whether the streams of which a record tells are too long.
use Rattle.std.proofs.Common.{◌≡◌, ◌≤◌, ◌^◌, ℕ, Bool, true, false, List, ◌∷◌, Some, None, map, refl, sym, subst, ◌∙◌}
use Rattle.std.specs.Prelude.{◌↔◌, All, IfSome, IsTrue, option_map}
use Rattle.std.proofs.lemmas.Bool.{false≢true}
use Rattle.std.proofs.lemmas.List.Elements.{All-cons, All-head, All-tail}
use Rattle.ntfs_def.specs.declared.kinds.TheConstants.{DATA}
use Rattle.ntfs_def.specs.declared.sizes.Sizes.{Sizes}
use Rattle.ntfs_def.specs.Attribute.{Attribute, Body, ExtentHeader, NonResident, Resident, extent_of}
use Rattle.volume_def.specs.ExtentsClause.{is_bad_stream}
use Rattle.volume_def.specs.Files.{Part, content_extent, content_of, part_of}
use Rattle.volume_def.specs.LimitsClause.{IsInLimits}

extent-some : (body : Body) (s : Sizes) → option_map (λ (e : ExtentHeader). e.sizes) (extent_of body) ≡ Some s
    → (extent : ExtentHeader) × (content_extent (content_of body) ≡ Some extent) × (extent.sizes ≡ s)
extent-some (Resident value) s e = absurd (cc)
extent-some (NonResident extent text) s e = (extent, refl, cc)

extent-none : (body : Body) → option_map (λ (e : ExtentHeader). e.sizes) (extent_of body) ≡ None → content_extent (content_of body) ≡ None
extent-none (Resident value) e = refl
extent-none (NonResident extent text) e = absurd (cc)

module _ (f n : ℕ) (a : Attribute) where
  abbrev part : Part
  part = part_of n a

  pub other-kind : (a.kind ≡ DATA → ⊥) → IsTrue true ↔ IsInLimits f part
  other-kind other = (λ _ is bad. absurd (other is), λ _. refl)

  pub bad-stream : is_bad_stream f part ≡ true → IsTrue true ↔ IsInLimits f part
  bad-stream so = (λ _ is unset. absurd (false≢true (sym unset ∙ so)), λ _. refl)

  pub no-extent : option_map (λ (e : ExtentHeader). e.sizes) (extent_of a.body) ≡ None → IsTrue true ↔ IsInLimits f part
  no-extent none = (
    λ _ is unset. subst (λ o. IfSome o (λ extent. extent.sizes.first ≡ 0 → extent.sizes.real ≤ 2 ^ 40)) (sym (extent-none a.body none)) tt,
    λ _. refl,
  )

  pub extent-limits : (s : Sizes) (short : Bool) → a.kind ≡ DATA → is_bad_stream f part ≡ false
      → option_map (λ (e : ExtentHeader). e.sizes) (extent_of a.body) ≡ Some s → IsTrue short ↔ (s.first ≡ 0 → s.real ≤ 2 ^ 40)
      → IsTrue short ↔ IsInLimits f part
  extent-limits s short kind bad is decided =
      let (extent, there, same) = extent-some a.body s is in (
        λ t _ _. subst (λ o. IfSome o (λ extent. extent.sizes.first ≡ 0 → extent.sizes.real ≤ 2 ^ 40)) (sym there)
            (subst (λ (z : Sizes). z.first ≡ 0 → z.real ≤ 2 ^ 40) (sym same) (decided.0 t)),
        λ limits. decided.1 (subst (λ (z : Sizes). z.first ≡ 0 → z.real ≤ 2 ^ 40) same
            (subst (λ o. IfSome o (λ extent. extent.sizes.first ≡ 0 → extent.sizes.real ≤ 2 ^ 40)) there (limits kind bad))),
      )

-- The attributes of a record, one after another: those that are left behind one are in their limits where all from it on are.
module _ (f n : ℕ) (a : Attribute) (left before : List Attribute) (steps : before ≡ a ∷ left) where
  pub limits-first : All (IsInLimits f) (map (part_of n) before) → IsInLimits f (part_of n a)
  limits-first all =
      All-head (IsInLimits f) (part_of n a) (map (part_of n) left) (subst (λ items. All (IsInLimits f) (map (part_of n) items)) steps all)

  pub limits-left : IsInLimits f (part_of n a)
      → All (IsInLimits f) (map (part_of n) left) ↔ All (IsInLimits f) (map (part_of n) before)
  limits-left here = (
    λ rest. subst (λ items. All (IsInLimits f) (map (part_of n) items)) (sym steps)
        (All-cons (IsInLimits f) (part_of n a) (map (part_of n) left) here rest),
    λ all. All-tail (IsInLimits f) (part_of n a) (map (part_of n) left)
        (subst (λ items. All (IsInLimits f) (map (part_of n) items)) steps all),
  )
