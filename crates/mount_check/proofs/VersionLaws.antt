-- What record 3 says by its attributes.
use Rattle.std.proofs.Common.{◌≡◌, ℕ, ◌%◌, ◌<◌, Bool, true, false, List, length, refl, sym, ap, subst, ◌∙◌, arith}
use Rattle.std.proofs.lemmas.Bool.{false≢true}
use Rattle.std.specs.Prelude.{◌↔◌, IsTrue, Option, IsSomeAnd}
use Rattle.ntfs_def.specs.declared.kinds.TheConstants.{VOLUME_INFORMATION}
use Rattle.ntfs_def.specs.Attribute.{attribute_place, attributes, first_value}
use Rattle.ntfs_def.specs.declared.records.TheConstants.{VOLUME}
use Rattle.ntfs_def.specs.Fixup.{opened_of}
use Rattle.ntfs_def.specs.Record.{is_in_use}
use Rattle.ntfs_def.specs.Shape.{HasShape}
use Rattle.vol_bytes.specs.Field.{u16_at}
use Rattle.volume_def.specs.ShapeClause.{MeetsShape}
use Rattle.volume_def.specs.Sound.Clause.{Shape, Version as VersionClause}
use Rattle.volume_def.specs.View.{VolumeView}
use Rattle.mount_check.specs.Views.{HasComeTo}
use Rattle.volume_def.specs.VersionClause.{HasVersion, IsClean, IsVersionAt}

-- Whether record 3 is in use, as it was read.
abbrev pub IsUsedAs : VolumeView → ℕ → Bool → Type 0
IsUsedAs view n used = n < view.layout.count → MeetsShape view n → IsTrue used ↔ IsTrue (is_in_use (view.block n))

-- an attribute of a record tells the version
abbrev pub TellsVersion : List ℕ → Type 0
TellsVersion block = (i : ℕ) × (i < length (attributes block)) × IsVersionAt block (attribute_place block i)

module _ (view : VolumeView) (n : ℕ) (come : HasComeTo view 11) (low : n < 24) (used : Bool) (agrees : IsUsedAs view n used) where
  inside : n < view.layout.count
  inside = omega (arith, come.records)

  shape : MeetsShape view n
  shape = come.before Shape (omega arith) n

  pub unused : used ≡ false → IsTrue (is_in_use (view.block n)) → ⊥
  unused unset so = false≢true (sym unset ∙ (agrees inside shape).1 so)

  pub in-use : used ≡ true → IsTrue (is_in_use (view.block n))
  in-use so = (agrees inside shape).0 so

  -- a record in use has the shape
  pub has-shape : (block : List ℕ) → used ≡ true → block ≡ opened_of (view.block n) → (count : ℕ) × HasShape block count
  has-shape block so is =
      let right = (shape inside (in-use so)).shape in
      (_, subst (λ b. HasShape b (length (attributes (opened_of (view.block n))))) (sym is) right)

module _ (view : VolumeView) (come : HasComeTo view 11) (used : Bool) (agrees : IsUsedAs view VOLUME used) where
  pub version-unused : used ≡ false → IsTrue false ↔ HasVersion (view.block VOLUME)
  version-unused unset = (λ f. absurd (false≢true f), λ has. absurd (unused view VOLUME come (omega arith) used agrees unset has.in_use))

  pub version-no_shape : (block : List ℕ) → used ≡ true → block ≡ opened_of (view.block VOLUME) → ((count : ℕ) → ¬ (HasShape block count))
      → IsTrue false ↔ HasVersion (view.block VOLUME)
  version-no_shape block so is none =
      let (count, shape) = has-shape view VOLUME come (omega arith) used agrees block so is in
      absurd (none count shape)

  pub version-read : (block : List ℕ) (tells : Bool) → used ≡ true → block ≡ opened_of (view.block VOLUME)
      → IsTrue tells ↔ TellsVersion block → IsTrue tells ↔ HasVersion (view.block VOLUME)
  version-read block tells so is decided = (
    λ t. let (i, inside, here) = subst TellsVersion is (decided.0 t) in
        record { in_use = in-use view VOLUME come (omega arith) used agrees so; i = i; inside = inside; here = here },
    λ has. decided.1 (subst TellsVersion (sym is) (has.i, has.inside, has.here)),
  )

-- Whether the volume was closed.

module _ (view : VolumeView) (come : HasComeTo view 15) (used : Bool) (agrees : IsUsedAs view VOLUME used) where
  earlier : HasComeTo view 11
  earlier = record { before = λ clause h. come.before clause (omega arith); records = come.records }

  pub clean-used : used ≡ false → ⊥
  clean-used unset = unused view VOLUME earlier (omega arith) used agrees unset (come.before VersionClause (omega arith) VOLUME refl).in_use

  pub clean-shape : (block : List ℕ) → used ≡ true → block ≡ opened_of (view.block VOLUME) → ((count : ℕ) → ¬ (HasShape block count)) → ⊥
  clean-shape block so is none =
      let (count, shape) = has-shape view VOLUME earlier (omega arith) used agrees block so is in none count shape

pub clean-read : (view : VolumeView) (block : List ℕ) (found : Option (List ℕ)) (clean : Bool) → block ≡ opened_of (view.block VOLUME)
    → found ≡ first_value VOLUME_INFORMATION (attributes block) → IsTrue clean ↔ IsSomeAnd found (λ value. u16_at value 0x0A % 2 ≡ 0)
    → IsTrue clean ↔ IsClean view
clean-read view block found clean is first decided =
    subst (λ o. IsTrue clean ↔ IsSomeAnd o (λ value. u16_at value 0x0A % 2 ≡ 0))
    (first ∙ ap (λ b. first_value VOLUME_INFORMATION (attributes b)) is) decided
