-- What the clause on attributes asks of the attributes of a record from one of them on.
use Rattle.std.specs.Prelude.{◌≡◌, ℕ, ◌+◌, ◌≤◌, ◌==◌, Bool, List, All, count_by, IsTrue}
use Rattle.ntfs_def.specs.Attribute.{Attribute}
use Rattle.ntfs_def.specs.declared.kinds.TheConstants.{STANDARD_INFORMATION}
use Rattle.volume_def.specs.AttributesClause.{AscendsFrom, IsRightPart, IsStandard, is_standard, times_id}
use Rattle.volume_def.specs.Files.{Part}

-- what is asked of an attribute by itself, in a base record or not
pub record IsRightAlone (base : Bool) (part : Part) : Type 0 where
  pub right : IsRightPart part
  pub standard : IsTrue base → part.kind ≡ STANDARD_INFORMATION → IsStandard part

-- how many of them have this id
abbrev pub times_id_among : ℕ → List Attribute → ℕ
times_id_among id attributes = count_by (λ attribute. attribute.id == id) attributes

-- What is asked of an attribute behind one of the type `least`, and before the others.
pub record IsRightNext (base : Bool) (least : ℕ) (part : Part) (others : List Part) : Type 0 where
  pub rising : least ≤ part.kind
  pub id : times_id part.id others ≡ 0
  pub alone : IsRightAlone base part

-- What is asked of the attributes behind others, of which the last has the type `least`, and so many are
-- $STANDARD_INFORMATION.
pub record AreRight (base : Bool) (least standards : ℕ) (parts : List Part) : Type 0 where
  pub rising : AscendsFrom least parts
  pub ids : (id : ℕ) → times_id id parts ≤ 1
  pub one_standard : IsTrue base → standards + count_by is_standard parts ≡ 1
  pub alone : All (IsRightAlone base) parts
